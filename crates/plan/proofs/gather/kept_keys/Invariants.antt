use Rattle.plan.proofs.Unions.{KeptTo}
use Rattle.plan.proofs.gather.kept_keys.Given as goal

abbrev pub invariant-loop-j : goal.invariant-loop-j
invariant-loop-j l = KeptTo l.messages l.set l.j l.r
