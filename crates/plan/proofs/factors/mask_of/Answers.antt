-- Before each turn r is the set of the keys passed (`Unions`).
-- Assumes nothing.
use Rattle.plan.proofs.Unions.{bit, set-none, set-take}
use Rattle.plan.proofs.factors.mask_of.Goals as goal

pub loop-k-init : goal.loop-k-init
loop-k-init c = set-none

pub loop-k-preserved : goal.loop-k-preserved
loop-k-preserved c =
    let loop = c.loop-k in
    set-take _ loop.k-index loop.r c.single-r.result c.loop-k-test.true loop.invariant (bit c.single-r.ensures c.from.ensures)
