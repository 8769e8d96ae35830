use mathlib.Core.Path.{◌≡◌}
use Rattle.matrix.specs.Stores.{block_column}
use Rattle.workspace.specs.Blocks.{stamp_entry}
use Rattle.workspace.proofs.stamp_column.Given as goal

abbrev pub invariant-loop-i : goal.invariant-loop-i
invariant-loop-i l = l.c ≡ block_column l.cv (stamp_entry l.how l.a.s.now l.a.v) l.j l.initial.c l.i
