-- `plan_text::lay_plan`: by whether the plan was made, and then by how its text was laid.
use Rattle.plan_text.proofs.Answers.{laid, refused}
use Rattle.plan_text.proofs.lay_plan.Goals as goal

pub returns-in-Ok-lay_arrays : goal.returns-in-Ok-lay_arrays
returns-in-Ok-lay_arrays c =
    let told = c.in-Ok-lay_arrays.ensures in
    let all = laid c.args.g c.args.out.now _ c.in-Ok.made _ c.in-Ok.ensures.result_value told.value told.out_after in
    record { value = all.0; out_after = all.1 }

pub returns-in-Err-lay_arrays : goal.returns-in-Err-lay_arrays
returns-in-Err-lay_arrays c =
    let told = c.in-Err-lay_arrays.ensures in
    let all = laid c.args.g c.args.out.now _ c.in-Ok.made _ c.in-Ok.ensures.result_value told.value told.out_after in
    record { value = all.0; out_after = all.1 }

pub returns-in-Err : goal.returns-in-Err
returns-in-Err c =
    let all = refused c.args.g c.args.out.now c.args.out.now c.in-Err.why c.in-Err.ensures.result_value in
    record { value = all.0; out_after = all.1 }
