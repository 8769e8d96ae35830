-- `plan_text::lay_arrays`: the first run's place tells whether the text fits, and the second run lays it.
use Rattle.std.proofs.Common.{arith}
use Rattle.plan.specs.Plan.{plan_in}
use Rattle.lines.proofs.Laying.{short, whole}
use Rattle.plan_text.specs.Text.{plan_text}
use Rattle.plan_text.proofs.lay_arrays.Goals as goal

pub returns-then-out-length : goal.returns-then-out-length
returns-then-out-length c =
    let args = c.args in
    let all = short args.out.now (plan_text (plan_in args.n args.plan)) c.put_plan-length.result c.put_plan-length.ensures.place c.if-out-length.true in
    record { value = all.0; out_after = all.1 }

pub returns : goal.returns
returns c =
    let args = c.args in
    let all = whole args.out.now _ (plan_text (plan_in args.n args.plan)) c.put_plan-length.result c.put_plan-length.ensures.place (omega arith) (omega arith)
    c.put_plan.ensures.buffer in
    record { value = all.0; out_after = all.1 }
