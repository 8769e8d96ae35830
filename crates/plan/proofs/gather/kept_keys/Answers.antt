-- Before each turn r is the set of the kept keys of the messages of the set below j.
-- Assumes nothing.
use mathlib.Core.Path.{◌≡◌, sym, ap, subst, ◌∙◌}
use mathlib.Core.List.{List}
use Prim.Native.Nat.{ℕ}
use native.Mathlib.Omega.{arith}
use Rattle.schedule.specs.Count.{mem, joined}
use Rattle.plan.proofs.Unions.{in_set, off_set, kept_at, KeptTo, kept-none, kept_in, kept_off, keys_in-below}
use Rattle.plan.proofs.gather.kept_keys.Goals as goal
use Rattle.plan.proofs.gather.kept_keys.Goals.{then-set-single-ne0, else-set-single-ne0}

pub loop-j-init : goal.loop-j-init
loop-j-init c = kept-none c.args.messages _

pub loop-j-preserved : goal.loop-j-preserved
loop-j-preserved c =
    let args = c.args in
    let loop = c.loop-j in
    elim c.if-set-single-ne0.branch [
      | then-set-single-ne0 w ↦ rw w.r-is
          (kept_in args.messages args.set loop.j loop.r c.loop-j-test.true
          (in_set args.set loop.j c.single.result c.single.ensures w.if-set-single-ne0.true) loop.invariant)
      | else-set-single-ne0 w ↦ rw w.r-is
          (kept_off args.messages args.set loop.j loop.r
          (off_set args.set loop.j c.single.result c.single.ensures w.if-set-single-ne0.false) loop.invariant)
    ]

pub returns : goal.returns
returns c =
    let loop = c.loop-j in
    let args = c.args in
    let e : loop.j ≡ args.messages.count = omega arith in
    λ low i h. subst (λ (n : ℕ). KeptTo args.messages args.set n loop.r) e loop.invariant i h
    ∙ ap (λ (l : List ℕ). mem i (joined (kept_at args.messages) l)) (sym
    (keys_in-below args.messages.count args.set (omega (arith, c.requires.few)) low))
