-- `gaussian::message_rows` meets its contract: the rows of either branch. Assumes nothing.
use mathlib.Core.Path.{◌∙◌, sym}
use Rattle.gaussian.proofs.Branches.{rows_in_lem}
use Rattle.gaussian.proofs.message_rows.Goals as goal

pub returns-in-Z : goal.returns-in-Z
returns-in-Z c = rows_in_lem _ _ (sym c.branch_of.ensures ∙ c.in-Z.is)

pub returns-in-X : goal.returns-in-X
returns-in-X c = rows_in_lem _ _ (sym c.branch_of.ensures ∙ c.in-X.is)
