-- `workspace::solve_columns` meets its contract. The loop's invariant: the slice is the definition's after the columns passed. Assumes nothing.
use mathlib.Core.Path.{refl}
use native.Mathlib.Numerals.{add-one}
use Rattle.matrix.specs.Stores.{sweep}
use Rattle.workspace.specs.Blocks.{solved_columns}
use Rattle.workspace.proofs.solve_columns.Goals as goal

pub loop-j-init : goal.loop-j-init
unfolding solved_columns sweep
loop-j-init c = refl

pub loop-j-preserved : goal.loop-j-preserved
unfolding solved_columns sweep
loop-j-preserved c = rw add-one (cc)
