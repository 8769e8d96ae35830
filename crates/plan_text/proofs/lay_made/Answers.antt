-- `plan_text::lay_made`: by whether the plan was made.
use Rattle.std.proofs.Common.{sym, ap}
use Rattle.job.proofs.Endings.{lays_same}
use Rattle.plan_text.specs.Shown.{made_text}
use Rattle.solver.specs.Stages.{read}
use Rattle.plan_text.proofs.lay_made.Goals as goal

pub returns-in-Ok : goal.returns-in-Ok
unfolding read
returns-in-Ok c =
    let all = lays_same c.args.out.now _ _ _ _ (sym (ap (λ m. made_text (read m)) c.in-Ok.is)) (c.lay_arrays.ensures.value, c.lay_arrays.ensures.out_after) in
    record { value = all.0; out_after = all.1 }

pub returns-in-Err : goal.returns-in-Err
unfolding read
returns-in-Err c =
    let all = lays_same c.args.out.now _ _ _ _ (sym (ap (λ m. made_text (read m)) c.in-Err.is)) (c.lay_refusal.ensures.value, c.lay_refusal.ensures.out_after) in
    record { value = all.0; out_after = all.1 }
