-- `cholesky::solve_lower` meets its contract. The loop's invariant: the slice is the definition's after the rows passed. Assumes nothing.
use mathlib.Core.Path.{refl}
use native.Mathlib.Numerals.{add-one}
use Rattle.cholesky.specs.Solve.{solve_lower}
use Rattle.matrix.specs.Stores.{steps}
use Rattle.cholesky.proofs.solve_lower.Goals as goal

pub loop-i-init : goal.loop-i-init
unfolding solve_lower steps
loop-i-init c = refl

pub loop-i-preserved : goal.loop-i-preserved
unfolding solve_lower steps
loop-i-preserved c = rw add-one (cc)
