-- Before each turn r is the set of the items passed.
-- Assumes nothing.
use Rattle.plan.proofs.Unions.{bit, set-none, set-take}
use Rattle.plan.proofs.gather.items_set.Goals as goal

pub loop-x-init : goal.loop-x-init
loop-x-init c = set-none

pub loop-x-preserved : goal.loop-x-preserved
loop-x-preserved c =
    let loop = c.loop-x in
    set-take _ loop.x-index loop.r c.single64-r.result c.loop-x-test.true loop.invariant (bit c.single64-r.ensures c.from.ensures)
