use mathlib.Core.Path.{◌≡◌}
use Rattle.workspace.specs.Blocks.{solved_columns}
use Rattle.workspace.proofs.solve_columns.Given as goal

abbrev pub invariant-loop-j : goal.invariant-loop-j
invariant-loop-j l = l.x ≡ solved_columns l.l l.u l.initial.x l.j
