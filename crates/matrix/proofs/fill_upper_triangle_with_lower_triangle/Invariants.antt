use mathlib.Core.Path.{◌≡◌}
use Rattle.matrix.specs.Triangles.{filled_upper}
use Rattle.matrix.proofs.fill_upper_triangle_with_lower_triangle.Given as goal

abbrev pub invariant-loop-j : goal.invariant-loop-j
invariant-loop-j l = l.c ≡ filled_upper l.v l.initial.c l.j
