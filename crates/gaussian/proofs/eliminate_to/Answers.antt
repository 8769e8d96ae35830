-- `gaussian::eliminate_to` meets its contract: the answer and the work store in the three endings. Assumes nothing.
use Rattle.std.proofs.Common.{length, ◌∙◌}
use Rattle.std.proofs.lemmas.Result.{err_from_is_err_and}
use Rattle.workspace.proofs.Cuts.{relaid}
use Rattle.slots.specs.Tables.{view_at}
use Rattle.gaussian.proofs.Sending.{pivot-is, unbounded_is, message-is}
use Rattle.gaussian.proofs.eliminate_to.Goals as goal

pub returns-in_err-finish : goal.returns-in_err-finish
returns-in_err-finish c =
    let args = c.args in
    let why = err_from_is_err_and c.from_residual.result c.from_residual.ensures.1 in
    let all = pivot-is args.branch args.f args.layout (view_at args.s.factors.now args.s.messages.now args.s.tables.keys.now args.s.tables.heads.now args.slots.now)
    (length args.slots.now) _ c.sum_up.ensures c.finish.new.work _ c.in_err-finish.ensures.value in
    rw (why.1, why.2) record { value = all.0; slots_after = all.1 }

pub returns-then-not-finite : goal.returns-then-not-finite
returns-then-not-finite c =
    let args = c.args in
    let all = unbounded_is args.branch args.f args.layout (view_at args.s.factors.now args.s.messages.now args.s.tables.keys.now args.s.tables.heads.now args.slots.now)
    (length args.slots.now) _ c.sum_up.ensures c.finish.new.work (relaid args.f (c.finish.auto.work ∙ c.sum_up.auto.work) c.requires.frame_laid.0)
    c.in_ok-finish.ensures.work_after _ c.finite.ensures c.if-not-finite.true in
    record { value = all.0; slots_after = all.1 }

pub returns : goal.returns
returns c =
    let args = c.args in
    let all = message-is args.branch args.f args.layout (view_at args.s.factors.now args.s.messages.now args.s.tables.keys.now args.s.tables.heads.now args.slots.now)
    (length args.slots.now) _ c.sum_up.ensures c.finish.new.work (relaid args.f (c.finish.auto.work ∙ c.sum_up.auto.work) c.requires.frame_laid.0)
    c.in_ok-finish.ensures.work_after _ c.finite.ensures c.if-not-finite.false in
    record { value = all.0; slots_after = all.1 }
