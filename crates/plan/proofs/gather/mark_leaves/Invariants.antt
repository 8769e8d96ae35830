use Rattle.plan.proofs.Stack.{Opening}
use Rattle.schedule.specs.Messages.{heavy}
use Rattle.plan.specs.Pass.{messages_of}
use Rattle.plan.specs.Gather.{stack_of}
use Rattle.plan.proofs.gather.mark_leaves.Given as goal

abbrev pub invariant-loop-l : goal.invariant-loop-l
invariant-loop-l l = Opening l.messages l.initial.l l.l

abbrev pub decreases-loop-l : goal.decreases-loop-l
decreases-loop-l l = heavy (messages_of l.messages) (stack_of l.l)
