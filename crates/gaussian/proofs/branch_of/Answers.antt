-- `gaussian::branch_of` meets its contract, by its two ways out. Assumes nothing.
use native.Mathlib.Omega.{arith}
use borrow.Author.Tests.{le-leb, lt-leb}
use Rattle.gaussian.proofs.branch_of.Goals as goal

pub returns-then-y-d : goal.returns-then-y-d
returns-then-y-d c = let args = c.args in rw (le-leb args.y args.d (omega (arith, c.if-y-d.true)))

pub returns-else-y-d : goal.returns-else-y-d
returns-else-y-d c = let args = c.args in rw (lt-leb args.y args.d (omega (arith, c.if-y-d.false)))
