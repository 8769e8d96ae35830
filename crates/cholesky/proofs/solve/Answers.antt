-- `cholesky::solve` meets its contract: the lower solve, then the upper one at the transposed view. Assumes nothing.
use Rattle.cholesky.specs.Solve.{solved}
use Rattle.cholesky.proofs.solve.Goals as goal

pub returns : goal.returns
unfolding solved
returns c = rw (
  c.solve_upper.ensures,
  c.solve_lower.ensures,
  c.flip.ensures.0,
  c.flip.ensures.1,
  c.flip.ensures.2,
  c.requires.square,
)
