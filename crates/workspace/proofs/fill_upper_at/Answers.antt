-- `workspace::fill_upper_at` meets its contract: the triangle changes the part of W. Assumes nothing.
use mathlib.Core.Path.{refl}
use Rattle.workspace.specs.declared.Part.TheVariants.{W}
use Rattle.workspace.proofs.Cuts.{at_part}
use Rattle.workspace.proofs.fill_upper_at.Goals as goal

pub returns : goal.returns
returns c =
    let args = c.args in
    at_part args.f args.work.now _ W _ _ _ c.requires refl refl c.fill_upper_triangle_with_lower_triangle.auto.c
    c.fill_upper_triangle_with_lower_triangle.ensures
