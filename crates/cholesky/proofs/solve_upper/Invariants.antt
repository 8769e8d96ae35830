use mathlib.Core.Path.{◌≡◌}
use Rattle.cholesky.specs.Solve.{solve_upper}
use Rattle.cholesky.proofs.solve_upper.Given as goal

abbrev pub invariant-loop-d : goal.invariant-loop-d
invariant-loop-d l = l.x ≡ solve_upper l.u.s.now l.u.v l.u.rows l.xv l.c l.initial.x l.d
