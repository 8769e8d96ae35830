-- `plan_text::lay_rising`: the plan with keys rising, or its refusal.
use Rattle.plan_text.proofs.Longest.{rising-shows}
use Rattle.plan_text.proofs.lay_rising.Goals as goal

pub returns : goal.returns
returns c =
    let made = c.arrange in
    let laid = c.lay_made.ensures in
    rising-shows c.args.g made.result made.ensures.keys_le_max_variables c.args.out.now _ _ laid.value laid.out_after made.ensures.result_value
