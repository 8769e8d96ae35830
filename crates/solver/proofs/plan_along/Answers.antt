-- `solver::plan_along` meets its contract: the plan is arranged and copied out. Assumes nothing.
use mathlib.Core.Path.{ap, ◌∙◌}
use Rattle.solver.specs.Plan.{struct_of, plan_along_answer}
use Rattle.solver.proofs.Answers.{along_tells}
use Rattle.solver.proofs.plan_along.Goals as goal

pub returns : goal.returns
unfolding plan_along_answer
returns c =
    let is = c.copied.ensures ∙ ap struct_of c.arrange_along.ensures.result_value in
    record { value = is; outcome_value = along_tells _ _ _ is }
