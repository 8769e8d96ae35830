-- `cholesky::inverse` meets its contract. The loop's invariant: the slice is the definition's after the columns passed. Assumes nothing.
use mathlib.Core.Path.{refl, ap, ◌∙◌}
use Rattle.cholesky.specs.Solve.{inverted, solved}
use Rattle.matrix.specs.Stores.{sweep}
use Rattle.matrix.proofs.Turns.{sweep-more}
use Rattle.cholesky.proofs.inverse.Goals as goal

pub loop-c-init : goal.loop-c-init
unfolding inverted sweep
loop-c-init c = refl

pub loop-c-preserved : goal.loop-c-preserved
unfolding inverted
loop-c-preserved c =
    sweep-more _ _ _ _ _ c.loop-c.invariant (c.solve.ensures ∙ ap (solved _ _ _ _ _) c.unit_column.ensures)
