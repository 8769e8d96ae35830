-- `cholesky::pivot` meets its contract: by whether what is left is above its share of the entry. Assumes nothing.
use mathlib.Core.Path.{◌∙◌, sym}
use lib.Ieee.{of_bits}
use Rattle.cholesky.proofs.Tolerance.{above_share, not-above}
use Rattle.cholesky.proofs.pivot.Goals as goal

pub returns-then-given-left : goal.returns-then-given-left
unfolding of_bits
returns-then-given-left c = c.root.ensures.is ∙ sym (above_share c.args.left c.args.given c.if-given-left.true)

pub returns-else-given-left : goal.returns-else-given-left
unfolding of_bits
returns-else-given-left c = sym (not-above c.args.left c.args.given c.if-given-left.false)
