-- `solver::run::all_stages` meets its contract: a refused plan ends it, and so does a store that is too short; else the plan is carried out.
-- Assumes nothing.
use mathlib.Core.Path.{sym, ◌∙◌}
use lib.ListN.{length}
use Rattle.std.proofs.lemmas.Result.{err_from_is_err_and}
use Rattle.schedule.proofs.Orders.{order_each, order_long}
use Rattle.plan.specs.Plan.{plan_in}
use Rattle.solver.specs.Run.{key_at}
use Rattle.solver.proofs.Answers.{made_of, refused_run}
use Rattle.solver.proofs.Stages.{made-planned, as_held, enough-told, short-checked, enough-checked, run-made}
use Rattle.solver.proofs.run.all_stages.Goals as goal

pub returns-in_err-p : goal.returns-in_err-p
returns-in_err-p c =
    let args = c.args in
    let p = err_from_is_err_and c.from_residual.result c.from_residual.ensures.1 in
    rw (p.1, p.2, c.requires) (refused_run args.g args.order.now _ c.in_err-p.ensures.result_value args.factors.now args.messages.now (length args.work.now) args.marginals.now)

pub place_plan-places-requires-clause-planned : goal.place_plan-places-requires-clause-planned
place_plan-places-requires-clause-planned c =
    let args = c.args in
    as_held args.g _ _ (made-planned _ args.g args.order.now c.in_ok-p.ensures.result_value c.in_ok-p.ensures.keys_le_max_variables.1)

pub check_stores-requires : goal.check_stores-requires
check_stores-requires c =
    let args = c.args in
    (made_of args.g args.order.now _ c.in_ok-p.ensures.result_value).0

pub returns-in_err-check_stores : goal.returns-in_err-check_stores
returns-in_err-check_stores c =
    let args = c.args in
    let a = c.in_ok-p.field-0 in
    let of = made_of args.g args.order.now a c.in_ok-p.ensures.result_value in
    let pl = made-planned a args.g args.order.now c.in_ok-p.ensures.result_value c.in_ok-p.ensures.keys_le_max_variables.1 in
    let p = err_from_is_err_and c.from_residual-in_err-check_stores.result c.from_residual-in_err-check_stores.ensures.1 in
    rw (p.1, p.2)
    (run-made args.g args.order.now a.plan _ _ _ args.factors.now args.messages.now args.marginals.now (length args.work.now) of.1 pl c.place_plan-places.ensures _
    (short-checked args.g (key_at args.order.now) (plan_in args.g.variables a.plan) _ args.factors.now args.messages.now args.marginals.now (length args.work.now) _
    (sym c.in_err-check_stores.ensures)))

pub carry_out-requires : goal.carry_out-requires
carry_out-requires c =
    let args = c.args in
    let a = c.in_ok-p.field-0 in
    let of = made_of args.g args.order.now a c.in_ok-p.ensures.result_value in
    record {
      planned = (as_held args.g _ _ (made-planned a args.g args.order.now c.in_ok-p.ensures.result_value c.in_ok-p.ensures.keys_le_max_variables.1), c.place_plan-places.ensures);
      enough = enough-told args.g _ _ _ _ _ (sym c.in_ok-check_stores.ensures);
      order_len = order_long _ _ (order_each _ _ of.1);
    }

pub returns : goal.returns
returns c =
    let args = c.args in
    let a = c.in_ok-p.field-0 in
    let of = made_of args.g args.order.now a c.in_ok-p.ensures.result_value in
    let pl = made-planned a args.g args.order.now c.in_ok-p.ensures.result_value c.in_ok-p.ensures.keys_le_max_variables.1 in
    run-made args.g args.order.now a.plan _ _ _ args.factors.now args.messages.now args.marginals.now (length args.work.now) of.1 pl c.place_plan-places.ensures _
    (c.carry_out.ensures
    ∙ enough-checked args.g (key_at args.order.now) (plan_in args.g.variables a.plan) _ args.factors.now args.messages.now
    args.marginals.now (length args.work.now) (enough-told args.g _ _ _ _ _ (sym c.in_ok-check_stores.ensures)))
