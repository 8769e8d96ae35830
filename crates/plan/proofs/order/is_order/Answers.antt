-- Before each turn the keys passed are below n, none twice, and `met` is their set (`Orders`).
-- Assumes nothing.
use native.Mathlib.Omega.{arith}
use Rattle.plan.proofs.Orders.{unlike, not_there, twice, met-none, met-more, met_all}
use Rattle.plan.proofs.Unions.{bit}
use Rattle.plan.proofs.order.is_order.Goals as goal

pub returns-then-order-n : goal.returns-then-order-n
returns-then-order-n c = unlike _ _ c.if-order-n.true

pub loop-k-init : goal.loop-k-init
loop-k-init c = met-none _ _

pub returns-then-n-k : goal.returns-then-n-k
returns-then-n-k c = not_there _ _ c.loop-k.k-index c.loop-k-test.true (omega (arith, c.from-k.ensures))

pub returns-then-met-key-ne0 : goal.returns-then-met-key-ne0
returns-then-met-key-ne0 c =
    let loop = c.loop-k in
    twice _ _ loop.met loop.k-index _ c.loop-k-test.true loop.invariant (bit c.single-key.ensures c.from-k.ensures) c.if-met-key-ne0.true

pub loop-k-preserved : goal.loop-k-preserved
loop-k-preserved c =
    let loop = c.loop-k in
    met-more _ _ loop.met loop.k-index _ c.loop-k-test.true loop.invariant (bit c.single-key.ensures c.from-k.ensures)
    (omega (arith, c.from-k.ensures)) c.if-met-key-ne0.false

pub returns : goal.returns
returns c = met_all _ _ c.loop-k.met c.loop-k.k-index c.if-order-n.false (omega arith) c.loop-k.invariant
