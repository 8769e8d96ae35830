-- `matrix::fill_upper_triangle_with_lower_triangle` meets its contract. The loop's invariant: the slice is the definition's after the columns passed.
-- Assumes nothing.
use mathlib.Core.Path.{refl}
use native.Mathlib.Numerals.{add-one}
use Rattle.matrix.specs.Stores.{sweep}
use Rattle.matrix.specs.Triangles.{filled_upper}
use Rattle.matrix.proofs.fill_upper_triangle_with_lower_triangle.Goals as goal

pub loop-j-init : goal.loop-j-init
unfolding filled_upper sweep
loop-j-init c = refl

pub loop-j-preserved : goal.loop-j-preserved
unfolding filled_upper sweep
loop-j-preserved c = rw add-one (cc)
