-- `gaussian::eliminate_slots` meets its contract: a message is sent from the work store, and a refusal leaves the message store. Assumes nothing.
use Rattle.std.proofs.Common.{◌≡◌, length, arith}
use Rattle.std.proofs.lemmas.Result.{err_from_is_err_and}
use Rattle.gaussian.proofs.Outcomes.{refusal-stored, few_rows, has_room, message_sent}
use Rattle.gaussian.proofs.Telling.{stored-tells}
use Rattle.gaussian.proofs.eliminate_slots.Goals as goal

pub send-requires : goal.send-requires
send-requires c =
    let n : length c.args.a.sizes ≡ 32 = omega arith in
    record {
      d_bound = rw (c.dim_of-u.ensures, c.dim_of-d.ensures) (
        c.requires.asked.total,
        few_rows n c.requires.asked _ c.eliminate_in.ensures.value _ c.in_ok-rows.was,
        omega (arith, c.requires.asked.enough, c.eliminate_in.auto.work),
      );
      d_in_bounds = rw c.dim_of-d.ensures (has_room n c.requires.asked _ c.eliminate_in.ensures.value _ c.in_ok-rows.was _ _ c.requires.roomy);
    }

pub returns : goal.returns
returns c =
    let args = c.args in
    let n : length args.a.sizes ≡ 32 = omega arith in
    let all = stored-tells _ _ _ _ _ (message_sent n c.requires.asked _ c.eliminate_in.ensures.value _ c.in_ok-rows.was _ c.eliminate_in.ensures.sizes_after _ _
    args.to (rw (← c.dim_of-u.ensures, ← c.dim_of-d.ensures) c.send.ensures)) in
    record { value = all.0; messages_after = all.1.0; result_value = all.1.1 }

pub returns-in_err-rows : goal.returns-in_err-rows
returns-in_err-rows c =
    let why = err_from_is_err_and c.from_residual.result c.from_residual.ensures.1 in
    let is = c.in_err-rows.ensures.value in
    let all = stored-tells _ _ _ _ _ (is, refusal-stored _ _ c.args.messages.now c.args.to is) in
    rw (why.1, why.2) record { value = all.0; messages_after = all.1.0; result_value = all.1.1 }
