use Rattle.plan.proofs.Alive.{AliveTo}
use Rattle.plan.proofs.gather.alive_messages.Given as goal

abbrev pub invariant-loop-i : goal.invariant-loop-i
invariant-loop-i l = AliveTo l.t l.messages l.upto l.within l.i
