-- `plan_answer::message_table` meets its contract. The loop's invariant: the messages passed stand in the first places, the others are blank. Assumes nothing.
use mathlib.Core.Path.{◌∙◌}
use native.Mathlib.Omega.{arith}
use Rattle.factor.specs.Limits.{max_variables}
use Rattle.plan.specs.Pass.{messages_of}
use Rattle.plan.proofs.Sending.{messages-length}
use Rattle.plan_answer.specs.Answer.{message_of}
use Rattle.plan_answer.specs.Answer as spec
use Rattle.schedule.specs.Pass.{no_message}
use Rattle.plan_answer.proofs.Filling.{map_more, map-done}
use Rattle.plan_answer.proofs.message_table.Goals as goal

pub loop-j-preserved : goal.loop-j-preserved
loop-j-preserved c =
    let args = c.args in
    let loop = c.loop-j in
    map_more message_of (messages_of args.p) _ loop.messages loop.j no_message _ (omega (arith, messages-length args.p)) (omega arith) loop.invariant
    c.message_of.ensures

pub returns : goal.returns
unfolding spec.message_table
returns c =
    let args = c.args in
    let loop = c.loop-j in
    loop.invariant ∙ map-done message_of (messages_of args.p) spec.blank_message max_variables loop.j (omega (arith, messages-length args.p))
