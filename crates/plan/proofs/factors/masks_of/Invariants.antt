use Rattle.plan.proofs.FactorMasks.{MaskedTo}
use Rattle.plan.proofs.factors.masks_of.Given as goal

abbrev pub invariant-loop-i : goal.invariant-loop-i
invariant-loop-i l = MaskedTo l.factors l.r l.i
