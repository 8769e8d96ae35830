-- `matrix::dot` meets its contract. The loop's invariant: the sum is the definition's at the terms passed. Assumes nothing.
use mathlib.Core.Path.{refl}
use native.Mathlib.Numerals.{add-one}
use lib.Ieee.{of_bits}
use Rattle.matrix.specs.Sums.{dot_of, accumulate}
use Rattle.matrix.proofs.dot.Goals as goal

pub loop-k-init : goal.loop-k-init
unfolding dot_of accumulate of_bits
loop-k-init c = refl

pub loop-k-preserved : goal.loop-k-preserved
unfolding dot_of accumulate
loop-k-preserved c = rw add-one (cc)
