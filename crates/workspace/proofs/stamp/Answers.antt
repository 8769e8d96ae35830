-- `workspace::stamp` meets its contract. The loop's invariant: the slice is the definition's after the columns passed. Assumes nothing.
use mathlib.Core.Path.{refl}
use native.Mathlib.Numerals.{add-one}
use Rattle.matrix.specs.Stores.{sweep, block}
use Rattle.workspace.specs.Blocks.{stamp}
use Rattle.workspace.proofs.stamp.Goals as goal

pub loop-j-init : goal.loop-j-init
unfolding stamp block sweep
loop-j-init c = refl

pub loop-j-preserved : goal.loop-j-preserved
unfolding stamp block sweep
loop-j-preserved c = rw add-one (cc)
