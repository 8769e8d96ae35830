use Prim.Native.Nat.{◌-◌}
use Rattle.plan.proofs.WalkTurns.{Turned}
use Rattle.plan.proofs.pass.walk.Given as goal

abbrev pub invariant-loop-i : goal.invariant-loop-i
invariant-loop-i l = Turned l.masks l.cleared l.initial.b l.b l.i

abbrev pub decreases-loop-i : goal.decreases-loop-i
decreases-loop-i l = l.b.used - l.i
