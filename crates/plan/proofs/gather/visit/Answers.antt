-- Before each turn the items listed, ahead of the originals of the rest, are all of them, and so with the stack (`Listings`).
-- Assumes nothing.
use Rattle.plan.proofs.Listings.{orig_room, visit_orig, msg_room, visit_msg, done}
use Rattle.plan.proofs.gather.visit.Goals as goal
use Rattle.plan.proofs.gather.visit.Goals.{then-s-lt-FACTORS, else-s-lt-FACTORS}

pub bounds-l-l : goal.bounds-l-l
bounds-l-l c =
    let args = c.args in
    let loop = c.loop-code in
    orig_room args.content.now args.from args.to args.listing c.requires loop.l loop.code-index loop.invariant c.loop-code-test.true
    c.from-s.result c.from-s.ensures c.if-s-lt-FACTORS.true

pub bounds-l-l-else-s-lt-FACTORS : goal.bounds-l-l-else-s-lt-FACTORS
bounds-l-l-else-s-lt-FACTORS c =
    let args = c.args in
    let loop = c.loop-code in
    msg_room args.content.now args.from args.to args.listing c.requires loop.l loop.code-index loop.invariant c.loop-code-test.true
    c.from-s.result c.from-s.ensures c.if-s-lt-FACTORS.false

pub loop-code-preserved : goal.loop-code-preserved
loop-code-preserved c =
    let args = c.args in
    let loop = c.loop-code in
    elim c.if-s-lt-FACTORS.branch [
      | then-s-lt-FACTORS w ↦ rw w.l-is
          (visit_orig args.content.now args.from args.to args.listing c.requires loop.l loop.code-index loop.invariant c.loop-code-test.true
          c.from-s.result c.from-s.ensures w.if-s-lt-FACTORS.true)
      | else-s-lt-FACTORS w ↦ rw w.l-is
          (visit_msg args.content.now args.from args.to args.listing c.requires loop.l loop.code-index loop.invariant c.loop-code-test.true
          c.from-s.result c.from-s.ensures w.if-s-lt-FACTORS.false)
    ]

pub returns : goal.returns
returns c =
    let args = c.args in
    let loop = c.loop-code in
    done args.content.now args.from args.to args.listing c.requires loop.l loop.code-index loop.invariant c.loop-code-test.false
