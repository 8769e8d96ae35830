-- Before each turn the items are the leaves under the messages of the set below j (`Uncovered`).
-- Assumes nothing.
use Rattle.plan.proofs.Uncovered.{begin, openable, leave_more, leave_same, end}
use Rattle.plan.proofs.gather.leaves_of.Goals as goal
use Rattle.plan.proofs.gather.leaves_of.Goals.{then-set-single-ne0, else-set-single-ne0}

pub loop-j-init : goal.loop-j-init
loop-j-init c = begin c.args.messages c.args.set c.args.listing c.requires.pass_ready.few c.requires.listable c.requires.space

pub mark_leaves-l-requires-clause-openable : goal.mark_leaves-l-requires-clause-openable
mark_leaves-l-requires-clause-openable c =
    let args = c.args in
    let pre = c.requires in
    let loop = c.loop-j in
    openable args.messages args.set args.listing pre.pass_ready.few pre.listable pre.space loop.l loop.j c.single.result loop.invariant
    c.loop-j-test.true c.single.ensures c.if-set-single-ne0.true

pub loop-j-preserved : goal.loop-j-preserved
loop-j-preserved c =
    let args = c.args in
    let pre = c.requires in
    let loop = c.loop-j in
    elim c.if-set-single-ne0.branch [
      | then-set-single-ne0 w ↦ rw w.l-is
          (leave_more args.messages args.set args.listing pre.pass_ready.few pre.listable pre.space loop.l loop.j c.single.result loop.invariant
          c.loop-j-test.true c.single.ensures w.if-set-single-ne0.true w.mark_leaves-l.result w.mark_leaves-l.ensures)
      | else-set-single-ne0 w ↦ rw w.l-is
          (leave_same args.messages args.set args.listing pre.pass_ready.few pre.listable pre.space loop.l loop.j c.single.result loop.invariant
          c.loop-j-test.true c.single.ensures w.if-set-single-ne0.false)
    ]

pub returns : goal.returns
returns c =
    let args = c.args in
    let pre = c.requires in
    let loop = c.loop-j in
    end args.messages args.set args.listing pre.pass_ready.few pre.listable pre.space loop.l loop.j loop.invariant c.loop-j-test.false
