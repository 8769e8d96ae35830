-- Before each turn r is the set of the messages among the slots passed.
-- Assumes nothing.
use mathlib.Core.Path.{ap, subst, ◌∙◌}
use mathlib.Core.List.{List, map}
use Prim.Native.Nat.{ℕ, ◌-◌, ◌^◌}
use lib.ListN.{take, drop}
use native.Mathlib.Omega.{arith}
use Rattle.factor.specs.Limits.{max_factors}
use Rattle.schedule.specs.Gather.{messages_in}
use Rattle.plan.specs.Mask.{Set}
use Rattle.plan.specs.Pass.{pass_slot}
use Rattle.plan.proofs.Prefixes.{part_whole}
use Rattle.plan.proofs.Unions.{set-none, inner_msg, inner_orig}
use Rattle.plan.proofs.gather.messages_in.Goals as goal
use Rattle.plan.proofs.gather.messages_in.Goals.{then-s-ge-FACTORS, else-s-ge-FACTORS}

pub loop-s-init : goal.loop-s-init
loop-s-init c = set-none

pub loop-s-preserved : goal.loop-s-preserved
loop-s-preserved c =
    let loop = c.loop-s in
    let args = c.args in
    let part : List ℕ = take (args.to - args.from) (drop args.from args.content.now) in
    elim c.if-s-ge-FACTORS.branch [
      | then-s-ge-FACTORS w ↦ rw w.r-is (inner_msg part loop.s-index loop.r c.loop-s-test.true loop.invariant w.single-r.result
          (omega (arith, w.if-s-ge-FACTORS.true, c.from-s.ensures)) (w.single-r.ensures ∙ ap (λ (x : ℕ). 2 ^ (x - max_factors)) c.from-s.ensures))
      | else-s-ge-FACTORS w ↦ rw w.r-is (inner_orig part loop.s-index loop.r c.loop-s-test.true loop.invariant
          (omega (arith, w.if-s-ge-FACTORS.false, c.from-s.ensures)))
    ]

pub returns : goal.returns
returns c =
    let args = c.args in
    let loop = c.loop-s in
    subst (λ (l : List ℕ). Set (messages_in (map pass_slot l)) loop.r)
    (part_whole args.from args.to loop.s-index args.content.now c.requires.from_le_to c.loop-s-test.false) loop.invariant
