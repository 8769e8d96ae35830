-- `workspace::subtract_at` meets its contract: the store is cut behind G, and one part of the rest is changed. Assumes nothing.
use mathlib.Core.Path.{refl}
use native.Mathlib.Omega.{arith}
use Rattle.matrix.specs.Views.{part, flip, columns}
use Rattle.matrix.specs.Products.{product}
use Rattle.matrix.specs.declared.Update.TheVariants.{Subtract}
use Rattle.workspace.specs.Parts.{part_from, part_to}
use Rattle.workspace.proofs.Cuts.{behind, picked}
use Rattle.workspace.proofs.Parts.{part_take}
use Rattle.workspace.proofs.subtract_at.Goals as goal

pub returns : goal.returns
unfolding product
returns c =
    let f = c.args.f in
    let t = c.args.work.now in
    let right = c.args.right in
    let low = c.requires.right_bound.0 in
    behind f t _ _ _ c.args.which
    (λ l x. product Subtract (columns f.rows) f.rows (part l f.g f.a) (flip (columns f.cleared)) (part l (part_from f right) (part_to f right))
    (columns f.cleared) f.cleared x c.args.w)
    _ f.a _ _ c.requires.frame_laid c.requires.a_bound.0 c.split_at_mut-low.ensures.front c.split_at_mut-low.ensures.back (rw c.begin.ensures refl)
    (rw c.end.ensures refl) c.gemm_tr.auto.c (rw (← c.begin-2.ensures, ← c.end-2.ensures) c.gemm_tr.ensures)
    (λ x. rw (part_take t f.a f.g f.a (omega arith) (omega arith), part_take t f.a (part_from f right) (part_to f right) low (omega arith), picked f t right) refl)
