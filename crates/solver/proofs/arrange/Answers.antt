-- `solver::arrange` meets its contract: keys rising are no order at all (`proofs/Rising.antt`). Assumes nothing.
use mathlib.Core.Path.{◌∙◌}
use Rattle.solver.proofs.Rising.{lent-plan}
use Rattle.solver.proofs.arrange.Goals as goal

pub returns-clause-result_value : goal.returns-clause-result_value
returns-clause-result_value c = c.arrange_along.ensures.result_value ∙ lent-plan _ _ c.rise.ensures _ c.min.ensures
