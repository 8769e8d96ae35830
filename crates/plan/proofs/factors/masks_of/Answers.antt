-- Before each turn the first i sets are those of the factors, and the rest are empty (`FactorMasks`).
-- Assumes nothing.
use native.Mathlib.Omega.{arith}
use Rattle.plan.proofs.FactorMasks.{masked_none, masked_done}
use Rattle.plan.proofs.factors.masks_of.Goals as goal

pub loop-i-init : goal.loop-i-init
loop-i-init c = masked_none c.args.factors

pub returns : goal.returns
returns c = masked_done c.args.factors c.loop-i.r c.args.count c.loop-i.i c.loop-i.invariant (omega arith)
