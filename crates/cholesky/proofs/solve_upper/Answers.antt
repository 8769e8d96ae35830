-- `cholesky::solve_upper` meets its contract. The loop's invariant: the slice is the definition's after the rows passed, from the last one up. Assumes nothing.
use mathlib.Core.Path.{refl}
use Rattle.cholesky.specs.Solve.{solve_upper}
use Rattle.matrix.specs.Stores.{steps}
use Rattle.matrix.proofs.Turns.{steps-more}
use Rattle.cholesky.proofs.solve_upper.Goals as goal

pub loop-d-init : goal.loop-d-init
unfolding solve_upper steps
loop-d-init c = refl

pub loop-d-preserved : goal.loop-d-preserved
unfolding solve_upper
loop-d-preserved c = steps-more _ _ _ _ _ _ _ c.loop-d.invariant c.solved_row-t.ensures c.put.ensures
