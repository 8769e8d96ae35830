-- Before each turn the first i places hold the numbers below i (`Rising`).
-- Assumes nothing.
use mathlib.Core.Path.{refl}
use native.Mathlib.Omega.{arith}
use Rattle.schedule.specs.Count.{from}
use Rattle.plan.proofs.Rising.{rise_more}
use Rattle.plan.proofs.plan.rise.Goals as goal

pub loop-i-init : goal.loop-i-init
unfolding from
loop-i-init c = refl

pub loop-i-preserved : goal.loop-i-preserved
loop-i-preserved c = rise_more c.loop-i.list c.loop-i.i (omega arith) c.loop-i.invariant
