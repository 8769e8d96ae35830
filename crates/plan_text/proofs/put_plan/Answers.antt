-- `plan_text::put_plan` meets its contract: the forward lines, the backward lines, and the lines of the keys. Assumes nothing.
use Rattle.factor.specs.Limits.{max_variables}
use Rattle.plan.specs.Plan.{plan_in}
use Rattle.plan.proofs.Stepping.{ready_later}
use Rattle.plan_text.specs.Text.{plan_text}
use Rattle.text.proofs.Putting.{both}
use Rattle.plan_text.proofs.put_plan.Goals as goal

pub put_pass-one-requires : goal.put_pass-one-requires
put_pass-one-requires c =
    let args = c.args in
    let pre = c.requires in
    ready_later args.n max_variables args.plan.forward args.plan.forward.active pre.0 pre.1.forward

pub put_pass-two-requires : goal.put_pass-two-requires
put_pass-two-requires c =
    let args = c.args in
    let pre = c.requires in
    ready_later args.n max_variables args.plan.backward args.plan.backward.active pre.0 pre.1.backward

pub returns : goal.returns
unfolding plan_text plan_in
returns c = both (both c.put_pass-one.ensures c.put_pass-two.ensures) c.put_keys.ensures
