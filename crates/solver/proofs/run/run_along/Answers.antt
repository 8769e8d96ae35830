-- `solver::run::run_along` meets its contract: the figure is put beside the end. Assumes nothing.
use Rattle.solver.proofs.Telling.{run-tells}
use Rattle.solver.proofs.run.run_along.Goals as goal

pub returns : goal.returns
returns c = let all = run-tells _ _ _ _ c.all_stages-ended.ensures in record { marginals_after = all.0; result_value = all.1 }
