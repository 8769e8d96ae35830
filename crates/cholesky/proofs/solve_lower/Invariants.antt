use mathlib.Core.Path.{◌≡◌}
use Rattle.cholesky.specs.Solve.{solve_lower}
use Rattle.cholesky.proofs.solve_lower.Given as goal

abbrev pub invariant-loop-i : goal.invariant-loop-i
invariant-loop-i l = l.x ≡ solve_lower l.l.s.now l.l.v l.xv l.c l.initial.x l.i
