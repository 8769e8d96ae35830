-- `measured::replan`: the plan made last counts.
use Rattle.std.proofs.Common.{◌∙◌}
use Rattle.measured.proofs.Runs.{no_plan_lem, one-plan, none-made}
use Rattle.measured.proofs.replan.Goals as goal
use Rattle.measured.proofs.replan.Goals.{in-Ok, in-Err}

pub loop-init : goal.loop-init
loop-init c = no_plan_lem c.args.g

pub loop-preserved : goal.loop-preserved
loop-preserved c =
    elim c.match-arrange.branch [
      | in-Ok w ↦ w.count-is ∙ one-plan c.args.g w.in-Ok.made c.loop.counter w.in-Ok.ensures.result_value
      | in-Err w ↦ w.count-is ∙ none-made c.args.g w.in-Err.field-0 c.loop.counter w.in-Err.ensures.result_value
    ]
