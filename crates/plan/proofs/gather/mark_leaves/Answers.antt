-- Before each turn the items listed, followed by the leaves under what stands on the stack, are all leaves (`Stack`). What lies under
-- the stack falls by one message a turn.
-- Assumes nothing.
use Rattle.plan.proofs.Stack.{opened, start, done, visitable, falls, again}
use Rattle.plan.proofs.gather.mark_leaves.Goals as goal

pub loop-l-init : goal.loop-l-init
loop-l-init c =
    let args = c.args in
    start args.messages c.requires.pass_ready c.requires.openable.forest args.listing args.root c.requires.space c.requires.openable

pub visit-l-requires : goal.visit-l-requires
visit-l-requires c =
    let args = c.args in
    let loop = c.loop-l in
    rw (c.from-from.ensures, c.from-to.ensures, c.from-m.ensures)
    (visitable args.messages c.requires.pass_ready c.requires.openable.forest (opened args.messages args.listing args.root) loop.l loop.invariant c.loop-l-test.true)

pub loop-l-smaller : goal.loop-l-smaller
loop-l-smaller c =
    let args = c.args in
    let loop = c.loop-l in
    falls args.messages c.requires.pass_ready c.requires.openable.forest (opened args.messages args.listing args.root) loop.l loop.invariant c.loop-l-test.true
    c.visit-l.result (rw (c.from-from.ensures, c.from-to.ensures, c.from-m.ensures) at c.visit-l.ensures)

pub loop-l-preserved : goal.loop-l-preserved
loop-l-preserved c =
    let args = c.args in
    let loop = c.loop-l in
    again args.messages c.requires.pass_ready c.requires.openable.forest (opened args.messages args.listing args.root) loop.l loop.invariant c.loop-l-test.true
    c.visit-l.result (rw (c.from-from.ensures, c.from-to.ensures, c.from-m.ensures) at c.visit-l.ensures)

pub returns : goal.returns
returns c =
    let args = c.args in
    let loop = c.loop-l in
    done args.messages c.requires.pass_ready c.requires.openable.forest args.listing args.root c.requires.space c.requires.openable loop.l loop.invariant
    c.loop-l-test.false
