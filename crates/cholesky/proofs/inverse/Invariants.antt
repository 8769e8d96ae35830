use mathlib.Core.Path.{◌≡◌}
use Rattle.cholesky.specs.Solve.{inverted}
use Rattle.cholesky.proofs.inverse.Given as goal

abbrev pub invariant-loop-c : goal.invariant-loop-c
invariant-loop-c l = l.x ≡ inverted l.l.s.now l.l.v l.n l.xv l.initial.x l.c
