-- `plan_text::lay_along`: the plan along the order, or its refusal.
use Rattle.plan_text.specs.Shown.{along_text}
use Rattle.plan_text.proofs.Longest.{along-shows}
use Rattle.plan_text.proofs.lay_along.Goals as goal

pub returns : goal.returns
unfolding along_text
returns c =
    let made = c.arrange_along in
    let laid = c.lay_made.ensures in
    let all = along-shows c.args.g made.result made.ensures.keys_le_max_variables c.args.out.now _ _ laid.value laid.out_after c.args.order.now made.ensures.result_value in
    record { value = all.value; out_after = all.out_after; order_len_bound = all.within }
