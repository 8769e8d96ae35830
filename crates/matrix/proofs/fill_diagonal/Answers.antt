-- `matrix::fill_diagonal` meets its contract. The loop's invariant: the slice is the definition's after the entries passed. Assumes nothing.
use mathlib.Core.Path.{refl}
use native.Mathlib.Numerals.{add-one}
use Rattle.matrix.specs.Stores.{steps}
use Rattle.matrix.specs.Triangles.{filled_diagonal}
use Rattle.matrix.proofs.fill_diagonal.Goals as goal

pub loop-d-init : goal.loop-d-init
unfolding filled_diagonal steps
loop-d-init c = refl

pub loop-d-preserved : goal.loop-d-preserved
unfolding filled_diagonal steps
loop-d-preserved c = rw add-one (cc)
