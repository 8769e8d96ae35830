-- Before each turn the items listed, followed by the uncovered among the rest, are the answer (`Uncovered`).
-- Assumes nothing.
use Rattle.plan.proofs.Uncovered.{free-room, list-more, list_same, done}
use Rattle.plan.proofs.gather.uncovered.Goals as goal
use Rattle.plan.proofs.gather.uncovered.Goals.{then-covered-single64-eq0, else-covered-single64-eq0}

pub bounds-l-l : goal.bounds-l-l
bounds-l-l c =
    let args = c.args in
    let pre = c.requires in
    let loop = c.loop-x in
    free-room args.live args.count args.listing pre.live pre.coverable pre.space loop.l loop.x-index c.from.result c.items_set-covered.result
    c.single64.result loop.invariant c.loop-x-test.true c.from.ensures c.single64.ensures c.items_set-covered.ensures c.if-covered-single64-eq0.true

pub loop-x-preserved : goal.loop-x-preserved
loop-x-preserved c =
    let args = c.args in
    let pre = c.requires in
    let loop = c.loop-x in
    elim c.if-covered-single64-eq0.branch [
      | then-covered-single64-eq0 w ↦ rw w.l-is
          (list-more args.live args.count args.listing pre.live pre.coverable pre.space loop.l loop.x-index c.from.result c.items_set-covered.result
          c.single64.result loop.invariant c.loop-x-test.true c.from.ensures c.single64.ensures c.items_set-covered.ensures w.if-covered-single64-eq0.true)
      | else-covered-single64-eq0 w ↦ rw w.l-is
          (list_same args.live args.count args.listing pre.live pre.coverable pre.space loop.l loop.x-index c.from.result c.items_set-covered.result
          c.single64.result loop.invariant c.loop-x-test.true c.from.ensures c.single64.ensures c.items_set-covered.ensures w.if-covered-single64-eq0.false)
    ]

pub returns : goal.returns
returns c =
    let args = c.args in
    let pre = c.requires in
    let loop = c.loop-x in
    done args.live args.count args.listing pre.live pre.coverable pre.space loop.l loop.x-index loop.invariant c.loop-x-test.false
