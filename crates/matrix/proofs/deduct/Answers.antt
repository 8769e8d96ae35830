-- `matrix::deduct` meets its contract. The loop's invariant: `left` is the definition's at the terms passed. Assumes nothing.
use mathlib.Core.Path.{refl}
use native.Mathlib.Numerals.{add-one}
use Rattle.matrix.specs.Sums.{deduct_of, deduct}
use Rattle.matrix.proofs.deduct.Goals as goal

pub loop-k-init : goal.loop-k-init
unfolding deduct_of deduct
loop-k-init c = refl

pub loop-k-preserved : goal.loop-k-preserved
unfolding deduct_of deduct
loop-k-preserved c = rw add-one (cc)
