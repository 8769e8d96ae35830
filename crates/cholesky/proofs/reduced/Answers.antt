-- `cholesky::reduced` meets its contract: it is one `deduct` along two rows. Assumes nothing.
use Rattle.cholesky.specs.Factor.{reduced}
use Rattle.cholesky.proofs.reduced.Goals as goal

pub returns : goal.returns
unfolding reduced
returns c = rw (c.deduct.ensures, c.flip.ensures, c.get.ensures)
