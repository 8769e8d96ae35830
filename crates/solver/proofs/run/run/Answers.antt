-- `solver::run::run` meets its contract: keys rising are no order at all (`proofs/Rising.antt`). Assumes nothing.
use mathlib.Core.Path.{◌∙◌}
use lib.ListN.{length}
use Rattle.solver.proofs.Rising.{lent-run}
use Rattle.solver.proofs.Telling.{run-tells}
use Rattle.solver.proofs.run.run.Goals as goal

pub returns : goal.returns
returns c =
    let args = c.args in
    let all = run-tells _ _ _ _ (c.run_along.ensures.marginals_after
    ∙ lent-run args.g _ c.rise.ensures _ c.min.ensures args.factors.now args.messages.now (length args.work.now) args.marginals.now) in
    record { marginals_after = all.0; result_value = all.1 }
