-- `workspace::fill_diagonal_at` meets its contract: the diagonal changes the part of A. Assumes nothing.
use mathlib.Core.Path.{refl}
use lib.Ieee.{of_bits}
use Rattle.workspace.specs.declared.Part.TheVariants.{A}
use Rattle.workspace.proofs.Cuts.{at_part}
use Rattle.workspace.proofs.fill_diagonal_at.Goals as goal

pub returns : goal.returns
unfolding of_bits
returns c =
    let args = c.args in
    at_part args.f args.work.now _ A _ _ _ c.requires.frame_laid refl refl c.fill_diagonal.auto.c c.fill_diagonal.ensures
