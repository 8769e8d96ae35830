use mathlib.Core.Path.{◌≡◌}
use mathlib.Core.List.{◌++◌, map}
use lib.ListN.{take, drop}
use Rattle.plan.specs.Pass.{messages_of}
use Rattle.plan_answer.specs.Answer.{message_of}
use Rattle.plan_answer.proofs.message_table.Given as goal

abbrev pub invariant-loop-j : goal.invariant-loop-j
invariant-loop-j l = l.messages ≡ map message_of (take l.j (messages_of l.p)) ++ drop l.j l.initial.messages
