use mathlib.Core.Path.{◌≡◌}
use Rattle.matrix.specs.Triangles.{filled_column}
use Rattle.matrix.proofs.fill_upper_column.Given as goal

abbrev pub invariant-loop-i : goal.invariant-loop-i
invariant-loop-i l = l.c ≡ filled_column l.v l.j l.initial.c l.i
