-- `cholesky::solved_row` meets its contract: it is one `deduct` and a division. Assumes nothing.
use Rattle.cholesky.specs.Solve.{solved_row}
use Rattle.cholesky.proofs.solved_row.Goals as goal

pub returns : goal.returns
unfolding solved_row
returns c = cc
