-- `solver::run::carry_out` meets its contract: a refused message ends it, else it goes on to the next pass and then to stage 3. Assumes nothing.
use mathlib.Core.Path.{ap, ◌∙◌}
use Prim.Native.Nat.{ℕ, ◌-◌}
use lib.ListN.{length}
use Rattle.plan.specs.Plan.{plan_in}
use Rattle.solver.specs.Run.{key_at}
use Rattle.solver.proofs.Stages.{forwards, backwards, stop-low, step-forward, step_fits, first_asks, second_asks, forward-ends, forward-stays}
use Rattle.solver.proofs.Stages.{gatherable, third_asks, first-refused, second-refused, third-told, enough_later}
use native.Mathlib.Omega.{arith}
use Rattle.solver.proofs.run.carry_out.Goals as goal

pub carry_pass-requires : goal.carry_pass-requires
carry_pass-requires c =
    let args = c.args in
    let all = first_asks args.g args.p c.requires.planned.0 args.places args.tables.keys.now args.tables.heads.now c.requires.planned.1 (length args.factors.now)
    (length args.messages.now) (length args.work.now) (length args.marginals.now) c.requires.enough in
    record { pass_ready = all.0; tables = all.1.0; count_in_bounds = all.1.1 }

pub step_of-requires : goal.step_of-requires
step_of-requires c =
    let args = c.args in
    ((forwards args.g args.p c.requires.planned.0).0, stop-low args.g args.factors.now _ _ c.in-Err.ensures.result_value)

pub bounds-order-step_of : goal.bounds-order-step_of
bounds-order-step_of c =
    let args = c.args in
    omega (arith, step-forward args.g args.p c.requires.planned.0 args.factors.now _ c.in-Err.ensures.result_value, c.step_of.ensures, c.requires.order_len)

pub returns-in-Err : goal.returns-in-Err
unfolding plan_in
returns-in-Err c =
    let args = c.args in
    first-refused args.g (key_at args.order.now) (plan_in args.g.variables args.p) args.places.figure args.factors.now args.messages.now args.marginals.now _ _ _
    c.in-Err.ensures.result_value c.carry_pass.ensures.messages_after (c.from-key.ensures ∙ ap (key_at args.order.now) c.step_of.ensures)

pub carry_pass-requires-2 : goal.carry_pass-requires-2
carry_pass-requires-2 c =
    let args = c.args in
    let all = second_asks args.g args.p c.requires.planned.0 args.places args.tables.keys.now args.tables.heads.now c.requires.planned.1 (length args.factors.now) _ _
    (length args.marginals.now) (enough_later c.requires.enough c.carry_pass.auto.messages c.carry_pass.auto.work) in
    record { pass_ready = all.0; tables = all.1.0; count_in_bounds = all.1.1 }

pub overflow_sub-g : goal.overflow_sub-g
overflow_sub-g c =
    let args = c.args in
    omega (arith, step_fits args.g args.p c.requires.planned.0 args.factors.now _ c.in-Err-carry_pass.ensures.result_value)

pub step_of-requires-in-Err-carry_pass : goal.step_of-requires-in-Err-carry_pass
step_of-requires-in-Err-carry_pass c =
    let args = c.args in
    ((backwards args.g args.p c.requires.planned.0).0, stop-low args.g args.factors.now _ _ c.in-Err-carry_pass.ensures.result_value)

pub overflow_sub-g-in-Err-carry_pass : goal.overflow_sub-g-in-Err-carry_pass
overflow_sub-g-in-Err-carry_pass c =
    let args = c.args in
    omega (
      arith,
      step_fits args.g args.p c.requires.planned.0 args.factors.now _ c.in-Err-carry_pass.ensures.result_value,
      c.step_of-in-Err-carry_pass.ensures,
    )

pub bounds-order-g : goal.bounds-order-g
bounds-order-g c =
    let args = c.args in
    omega (
      arith,
      step_fits args.g args.p c.requires.planned.0 args.factors.now _ c.in-Err-carry_pass.ensures.result_value,
      c.step_of-in-Err-carry_pass.ensures,
      c.requires.order_len,
    )

pub returns-in-Err-carry_pass : goal.returns-in-Err-carry_pass
unfolding plan_in
returns-in-Err-carry_pass c =
    let args = c.args in
    let ends = forward-ends args.g args.p c.requires.planned.0 args.places args.tables.keys.now args.tables.heads.now c.requires.planned.1 args.factors.now
    args.messages.now _ _ c.requires.enough _ (c.carry_pass.ensures.all_stored c.in_default.is) in
    second-refused args.g (key_at args.order.now) (plan_in args.g.variables args.p) args.places.figure args.factors.now args.messages.now args.marginals.now
    args.places.forward _ _ c.in_default.ensures.result_value c.carry_pass.ensures.messages_after c.carry_pass-2.ensures.messages_after ends _ _
    c.in-Err-carry_pass.ensures.result_value
    (c.from-key-in-Err-carry_pass.ensures ∙ ap (λ (t : ℕ). key_at args.order.now (args.g.variables - 1 - t)) c.step_of-in-Err-carry_pass.ensures)

pub third_stage-requires : goal.third_stage-requires
third_stage-requires c =
    let args = c.args in
    let enough = enough_later c.requires.enough c.carry_pass.auto.messages c.carry_pass.auto.work in
    let fw = c.carry_pass.ensures.all_stored c.in_default.is in
    let bw = c.carry_pass-2.ensures.all_stored c.in_default-carry_pass.is in
    third_asks args.g args.p c.requires.planned.0 args.places args.tables.keys.now args.tables.heads.now c.requires.planned.1 args.factors.now _ _
    (length args.marginals.now) (enough_later enough c.carry_pass-2.auto.messages c.carry_pass-2.auto.work)
    (forward-stays args.g args.p c.requires.planned.0 args.places args.tables.keys.now args.tables.heads.now c.requires.planned.1 args.factors.now _ _
    (length args.marginals.now) enough _ c.carry_pass-2.ensures.messages_after fw bw) bw

pub returns : goal.returns
unfolding plan_in
returns c =
    let args = c.args in
    let enough = enough_later c.requires.enough c.carry_pass.auto.messages c.carry_pass.auto.work in
    let fw = c.carry_pass.ensures.all_stored c.in_default.is in
    let bw = c.carry_pass-2.ensures.all_stored c.in_default-carry_pass.is in
    let ends = forward-ends args.g args.p c.requires.planned.0 args.places args.tables.keys.now args.tables.heads.now c.requires.planned.1 args.factors.now
    args.messages.now _ _ c.requires.enough _ fw in
    third-told args.g (key_at args.order.now) (plan_in args.g.variables args.p) args.places.figure args.factors.now args.messages.now
    args.marginals.now args.places.forward _ _ c.in_default.ensures.result_value c.carry_pass.ensures.messages_after
    c.carry_pass-2.ensures.messages_after ends _ _ c.in_default-carry_pass.ensures.result_value (c.third_stage.ensures _ _
    (gatherable args.g args.p c.requires.planned.0 args.places args.tables.keys.now args.tables.heads.now c.requires.planned.1 args.factors.now _ _
    (length args.marginals.now) (enough_later enough c.carry_pass-2.auto.messages c.carry_pass-2.auto.work)
    (forward-stays args.g args.p c.requires.planned.0 args.places args.tables.keys.now args.tables.heads.now c.requires.planned.1 args.factors.now _ _
    (length args.marginals.now) enough _ c.carry_pass-2.ensures.messages_after fw bw) bw))
