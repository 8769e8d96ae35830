use Rattle.std.proofs.Common.{◌-◌}
use Rattle.root.proofs.Loop.{Inv}
use Rattle.root.proofs.by_digits.Given as goal

abbrev pub invariant-loop-q : goal.invariant-loop-q
invariant-loop-q l = Inv l.m l.a l.q l.r l.j

abbrev pub decreases-loop-q : goal.decreases-loop-q
decreases-loop-q l = 80 - l.j
