use mathlib.Core.Path.{◌≡◌}
use Rattle.matrix.specs.Triangles.{filled_diagonal}
use Rattle.matrix.proofs.fill_diagonal.Given as goal

abbrev pub invariant-loop-d : goal.invariant-loop-d
invariant-loop-d l = l.c ≡ filled_diagonal l.v l.x l.initial.c l.d
