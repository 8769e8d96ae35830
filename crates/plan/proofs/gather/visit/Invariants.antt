use Rattle.plan.proofs.Listings.{Visiting}
use Rattle.plan.proofs.gather.visit.Given as goal

abbrev pub invariant-loop-code : goal.invariant-loop-code
invariant-loop-code l = Visiting l.code-items l.initial.l l.l l.code-index
