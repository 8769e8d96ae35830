-- `plan_answer::copy_out` meets its contract: each pass is one call and the keys are one, and `answer-is` puts them together. Assumes nothing.
use Rattle.plan_answer.proofs.Copies.{answer-is}
use Rattle.plan_answer.proofs.copy_out.Goals as goal

pub returns : goal.returns
returns c =
    let args = c.args in
    answer-is args.n args.p _ _ _ c.message_table.ensures c.message_table-2.ensures c.key_table.ensures
