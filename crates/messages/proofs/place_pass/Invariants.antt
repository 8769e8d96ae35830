use Rattle.plan.specs.Pass.{messages_of}
use Rattle.messages.proofs.Placing.{Progress}
use Rattle.messages.proofs.place_pass.Given as goal

abbrev pub invariant-loop-j : goal.invariant-loop-j
invariant-loop-j l = Progress l.g (messages_of l.p) l.shift l.start l.initial.keys l.initial.heads l.keys l.heads l.next l.j
