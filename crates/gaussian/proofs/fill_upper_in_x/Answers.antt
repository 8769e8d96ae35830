-- `gaussian::fill_upper_in_x` meets its contract: in z nothing changes. Assumes nothing.
use Rattle.workspace.specs.Sums.{change}
use Rattle.gaussian.proofs.fill_upper_in_x.Goals as goal

pub returns-in-Z : goal.returns-in-Z
unfolding change
returns-in-Z c = rw c.in-Z.is

pub returns-in-X : goal.returns-in-X
returns-in-X c = rw c.in-X.is c.fill_upper_at.ensures
