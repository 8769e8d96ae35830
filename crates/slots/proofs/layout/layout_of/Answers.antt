-- `slots::layout::layout_of` meets its contract: the keys passed have their column among the cleared keys, if they are cleared. Assumes nothing.
use Rattle.std.proofs.Common.{◌≡◌, ◌∙◌, arith, rules}
use Rattle.slots.proofs.LayoutTables.{chosen-then, chosen-else, cond_same, layout_is}
use Rattle.slots.proofs.layout.layout_of.Goals as goal
use Rattle.slots.proofs.layout.layout_of.Goals.{then-gone-key, else-gone-key}

pub loop-key-preserved : goal.loop-key-preserved
loop-key-preserved c =
    let before = c.loop-key.invariant in
    elim c.if-gone-key.branch [
      | then-gone-key w ↦ rw w.first-is record { long = search rules; chosen = chosen-then before.chosen (omega arith) w.if-gone-key.true }
      | else-gone-key w ↦ rw w.first-is record { long = before.long; chosen = chosen-else before.chosen w.if-gone-key.false }
    ]

pub returns : goal.returns
returns c =
    let args = c.args in
    let loop = c.loop-key in
    let n : loop.key ≡ 32 = omega arith in
    layout_is c.marks-gone.result loop.first args.kept.now args.cleared.now args.sizes (omega (arith, c.marks-gone.ensures.0))
    (omega (arith, loop.invariant.long)) (λ k h. c.marks-gone.ensures.1 k (omega arith))
    (λ k h. loop.invariant.chosen.below k (omega arith) ∙ cond_same (c.marks-gone.ensures.1 k (omega arith))
    (c.firsts-among.ensures.1 k (omega arith)) (c.firsts-first.ensures.1 k (omega arith)))
