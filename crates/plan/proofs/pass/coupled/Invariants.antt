use lib.ListN.{take}
use Rattle.plan.specs.Pass.{Coupled}
use Rattle.plan.proofs.pass.coupled.Given as goal

abbrev pub invariant-loop-s : goal.invariant-loop-s
invariant-loop-s l = Coupled l.masks l.active (take l.s-index l.s-items) l.r
