-- Before each turn the slots taken and those passed over, ahead of the walk over the rest, are the whole walk (`WalkTurns`). Each turn
-- takes a slot out or passes one over, so `used - i` falls.
-- Assumes nothing.
use Rattle.plan.proofs.WalkTurns.{taken, kept, done}
use Rattle.plan.proofs.pass.walk.Goals as goal

pub loop-i-preserved-then-m-cleared-ne0 : goal.loop-i-preserved-then-m-cleared-ne0
loop-i-preserved-then-m-cleared-ne0 c =
    let args = c.args in
    let loop = c.loop-i in
    taken args.masks.now args.cleared args.board loop.b loop.i loop.invariant c.loop-i-test.true (rw c.from.ensures at c.if-m-cleared-ne0.true)

pub loop-i-preserved : goal.loop-i-preserved
loop-i-preserved c =
    let args = c.args in
    let loop = c.loop-i in
    kept args.masks.now args.cleared args.board loop.b loop.i loop.invariant c.loop-i-test.true (rw c.from.ensures at c.if-m-cleared-ne0.false)

pub returns : goal.returns
returns c =
    let args = c.args in
    let loop = c.loop-i in
    done args.masks.now args.cleared args.board loop.b loop.i loop.invariant c.loop-i-test.false
