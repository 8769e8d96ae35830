use lib.ListN.{take}
use Rattle.plan.specs.Mask.{Set}
use Rattle.plan.proofs.factors.mask_of.Given as goal

abbrev pub invariant-loop-k : goal.invariant-loop-k
invariant-loop-k l = Set (take l.k-index l.k-items) l.r
