use mathlib.Core.Path.{◌≡◌}
use Rattle.cholesky.specs.Solve.{unit_column}
use Rattle.cholesky.proofs.unit_column.Given as goal

abbrev pub invariant-loop-i : goal.invariant-loop-i
invariant-loop-i l = l.x ≡ unit_column l.xv l.c l.initial.x l.i
