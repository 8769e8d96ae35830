use Prim.Native.Nat.{◌+◌}
use mathlib.Core.Path.{◌≡◌}
use Rattle.matrix.specs.Sums.{dot_of}
use Rattle.matrix.proofs.dots.Given as goal

abbrev pub invariant-loop-k : goal.invariant-loop-k
invariant-loop-k l = (l.s0 ≡ dot_of l.a.s.now l.a.v l.i l.b.s.now l.b.v l.j l.k) × (l.s1 ≡ dot_of l.a.s.now l.a.v (l.i + 1) l.b.s.now l.b.v l.j l.k) × (l.s2 ≡ dot_of l.a.s.now l.a.v (l.i + 2) l.b.s.now l.b.v l.j l.k) × (l.s3 ≡ dot_of l.a.s.now l.a.v (l.i + 3) l.b.s.now l.b.v l.j l.k)
