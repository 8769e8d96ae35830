-- `matrix::dots` meets its contract. The loop's invariant: each sum is the definition's at the terms passed. Assumes nothing.
use mathlib.Core.Path.{refl}
use lib.Ieee.{of_bits}
use Rattle.matrix.specs.Sums.{dot_of, accumulate}
use Rattle.matrix.proofs.Turns.{dot-more}
use Rattle.matrix.proofs.dots.Goals as goal

pub loop-k-init : goal.loop-k-init
unfolding dot_of accumulate of_bits
loop-k-init c = (refl, refl, refl, refl)

pub loop-k-preserved : goal.loop-k-preserved
loop-k-preserved c =
    let loop = c.loop-k in (
      dot-more _ _ _ _ _ _ _ _ _ _ loop.invariant.0 c.get.ensures c.get-x.ensures,
      dot-more _ _ _ _ _ _ _ _ _ _ loop.invariant.1 c.get-in-loop-k.ensures c.get-x.ensures,
      dot-more _ _ _ _ _ _ _ _ _ _ loop.invariant.2 c.get-in-loop-k-2.ensures c.get-x.ensures,
      dot-more _ _ _ _ _ _ _ _ _ _ loop.invariant.3 c.get-in-loop-k-3.ensures c.get-x.ensures,
    )
