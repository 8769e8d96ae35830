-- `matrix::gemm_column` meets its contract. The loop's invariant: the slice is the definition's after the rows passed. Assumes nothing.
use mathlib.Core.Path.{refl}
use Rattle.matrix.specs.Stores.{block_column, steps}
use Rattle.matrix.proofs.gemm_column.Goals as goal

pub loop-q-init : goal.loop-q-init
unfolding block_column steps
loop-q-init c = refl
