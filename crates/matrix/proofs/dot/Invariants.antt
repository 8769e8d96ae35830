use mathlib.Core.Path.{◌≡◌}
use Rattle.matrix.specs.Sums.{dot_of}
use Rattle.matrix.proofs.dot.Given as goal

abbrev pub invariant-loop-k : goal.invariant-loop-k
invariant-loop-k l = l.sum ≡ dot_of l.a l.av l.i l.b l.bv l.j l.k
