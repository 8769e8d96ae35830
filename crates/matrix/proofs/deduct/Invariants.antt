use mathlib.Core.Path.{◌≡◌}
use Rattle.matrix.specs.Sums.{deduct_of}
use Rattle.matrix.proofs.deduct.Given as goal

abbrev pub invariant-loop-k : goal.invariant-loop-k
invariant-loop-k l = l.left ≡ deduct_of l.v l.a l.av l.i l.b l.bv l.j l.lo l.k
