-- `workspace::stamp_column` meets its contract. The loop's invariant: the slice is the definition's after the rows passed. Assumes nothing.
use mathlib.Core.Path.{refl}
use native.Mathlib.Numerals.{add-one}
use Rattle.matrix.specs.Stores.{steps, block_column}
use Rattle.workspace.proofs.stamp_column.Goals as goal

pub loop-i-init : goal.loop-i-init
unfolding block_column steps
loop-i-init c = refl

pub loop-i-preserved : goal.loop-i-preserved
unfolding block_column steps
loop-i-preserved c = rw add-one (cc)
