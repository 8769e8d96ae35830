use mathlib.Core.Path.{◌≡◌}
use Rattle.matrix.specs.Products.{product}
use Rattle.matrix.proofs.gemm.Given as goal

abbrev pub invariant-loop-j : goal.invariant-loop-j
invariant-loop-j l = l.c ≡ product l.how l.cv l.a.rows l.a.s.now l.a.v l.b.s.now l.b.v l.a.columns l.initial.c l.j
