-- `cholesky::unit_column` meets its contract. The loop's invariant: the slice is the definition's after the rows passed. Assumes nothing.
use mathlib.Core.Path.{refl, ◌∙◌}
use lib.Ieee.{of_bits}
use borrow.Author.Tests.{eq-eqb, ne_eqb}
use Rattle.matrix.specs.Stores.{steps}
use Rattle.cholesky.specs.Solve.{unit_column}
use Rattle.matrix.proofs.Turns.{steps-more}
use Rattle.cholesky.proofs.unit_column.Goals as goal
use Rattle.cholesky.proofs.unit_column.Goals.{then-i-c, else-i-c}

pub loop-i-init : goal.loop-i-init
unfolding unit_column steps
loop-i-init c = refl

pub loop-i-preserved : goal.loop-i-preserved
unfolding unit_column of_bits
loop-i-preserved c =
    let l = c.loop-i in
    elim c.if-i-c.branch [
      | then-i-c w ↦ steps-more _ _ _ _ _ _ _ l.invariant (rw (eq-eqb _ _ w.if-i-c.true)) (w.x-is ∙ w.put.ensures)
      | else-i-c w ↦ steps-more _ _ _ _ _ _ _ l.invariant (rw (ne_eqb _ _ w.if-i-c.false)) (w.x-is ∙ w.put-else-i-c.ensures)
    ]
