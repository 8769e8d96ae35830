-- `workspace::frame_of` meets its contract: the offsets are the definition's. Assumes nothing.
use mathlib.Core.Path.{refl}
use Rattle.workspace.specs.Frames.{frame_of}
use Rattle.workspace.proofs.frame_of.Goals as goal

pub returns : goal.returns
unfolding frame_of
returns c = refl
