use mathlib.Core.Path.{◌≡◌}
use Rattle.workspace.specs.Blocks.{stamp}
use Rattle.workspace.proofs.stamp.Given as goal

abbrev pub invariant-loop-j : goal.invariant-loop-j
invariant-loop-j l = l.c ≡ stamp l.how l.cv l.a.rows l.a.s.now l.a.v l.initial.c l.j
