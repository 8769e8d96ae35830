use Rattle.plan.specs.Mask.{Union}
use Rattle.plan.proofs.masks.union.Given as goal

abbrev pub invariant-loop-n : goal.invariant-loop-n
invariant-loop-n l = Union l.sets 0 l.n-index l.n-items l.r
