-- `solver::plan` meets its contract: the plan is arranged and copied out. Assumes nothing.
use mathlib.Core.Path.{ap, ◌∙◌}
use Rattle.solver.specs.Plan.{struct_of, plan_answer}
use Rattle.solver.proofs.Answers.{plan_tells}
use Rattle.solver.proofs.plan.Goals as goal

pub returns : goal.returns
unfolding plan_answer
returns c =
    let is = c.copied.ensures ∙ ap struct_of c.arrange.ensures.result_value in
    record { value = is; outcome_value = plan_tells _ _ is }
