-- `records::read_prior_numbers` meets its contract. Assumes nothing.
use Prim.Native.Nat.{ℕ, ◌+◌, ◌*◌, ◌≤◌}
use mathlib.Core.Path.{◌≡◌, sym, ap, ◌∙◌}
use mathlib.Core.Bool.{false}
use mathlib.Core.List.{List}
use native.Mathlib.Nat.{mul-le-mul}
use native.Mathlib.Omega.{arith}
use lib.Ieee.{Float}
use lib.ListN.{length, take}
use lib.Seq.{length-take-le}
use Rattle.std.specs.Prelude.{Result, Err}
use Rattle.std.proofs.lemmas.Grind.{common_steps}
use Rattle.factor.proofs.Counting.{tells}
use Rattle.graph.specs.Reached.{prior, register}
use Rattle.graph.specs.declared.refusal.Refusal.{Refusal}
use Rattle.records.specs.Bytes.{float_bytes, cut, numbers_at}
use Rattle.records.specs.Records.{ask, prior_numbers, next_of}
use Rattle.records.proofs.read_prior_numbers.Goals as goal

-- the numbers that were read, into slices of just that length
asked : (store : List Float) (bytes : List ℕ) (key s at : ℕ) (mean variance room more : List Float) → cut bytes at (float_bytes * (s + s * s)) ≡ false
    → s ≤ length room → s * s ≤ length more → mean ≡ numbers_at bytes at (length (take s room))
    → variance ≡ numbers_at bytes (at + float_bytes * s) (length (take (s * s) more))
    → prior_numbers store bytes key s at ≡ ask (register (prior key mean variance) store) (at + float_bytes * (s + s * s))
unfolding prior_numbers
asked store bytes key s at mean variance room more h l m em ev = rw (h, em, ev, length-take-le s room l, length-take-le (s * s) more m)

pub returns-in_err-enter_prior : goal.returns-in_err-enter_prior
returns-in_err-enter_prior c =
    let e : c.from_residual.result ≡ Err c.in_err-enter_prior.field-0.0 = grind (arith, common_steps) in
    let told = c.enter_prior.ensures in
    let l = c.requires.size in
    rw (asked c.args.store.now c.args.r.bytes.now c.args.key c.args.s c.args.r.at _ _ _ _ (tells c.cut.ensures c.if-cut.false) l (mul-le-mul l l)
    c.numbers.ensures (rw (c.past.ensures.0, c.past.ensures.1) at c.numbers-2.ensures)) (
      e ∙ ap (λ (o : Result ℕ Refusal). next_of o (c.args.r.at + float_bytes * (c.args.s + c.args.s * c.args.s))) (sym c.in_err-enter_prior.was ∙ told.value),
      told.graph_after,
      told.store_after,
    )
