use lib.ListN.{take}
use Rattle.plan.specs.Mask.{Set}
use Rattle.plan.proofs.gather.items_set.Given as goal

abbrev pub invariant-loop-x : goal.invariant-loop-x
invariant-loop-x l = Set (take l.x-index l.x-items) l.r
