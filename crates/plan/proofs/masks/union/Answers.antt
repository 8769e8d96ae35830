-- Before each turn r is the union of the sets passed, and each turn adds one (`Unions`).
-- Assumes nothing.
use mathlib.Core.Path.{ap, ◌∙◌}
use lib.ListN.{get_or}
use Rattle.schedule.specs.Count.{any}
use Rattle.plan.specs.Mask.{has}
use Rattle.plan.proofs.Prefixes.{part_whole}
use Rattle.plan.proofs.Unions.{union_more, union-none}
use Rattle.plan.proofs.masks.union.Goals as goal

pub loop-n-init : goal.loop-n-init
loop-n-init c = union-none c.args.sets.now c.args.numbers.now

pub loop-n-preserved : goal.loop-n-preserved
loop-n-preserved c =
    let loop = c.loop-n in
    rw c.from.ensures (union_more _ _ loop.n-index loop.r c.loop-n-test.true loop.invariant)

pub returns : goal.returns
returns c =
    let args = c.args in
    let loop = c.loop-n in
    λ j. loop.invariant j ∙ ap (any (λ x. has j (get_or args.sets.now x 0))) (part_whole args.from args.to loop.n-index args.numbers.now c.requires.from_le_to c.loop-n-test.false)
