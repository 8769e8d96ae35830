-- `workspace::solve_at` meets its contract: the store is cut behind S, and one part of the rest is changed. Assumes nothing.
use mathlib.Core.Path.{refl}
use Rattle.workspace.specs.Blocks.{solved_columns}
use Rattle.workspace.proofs.Cuts.{behind}
use Rattle.workspace.proofs.InPlace.{one-list}
use Rattle.workspace.proofs.Parts.{part_first}
use Rattle.workspace.proofs.solve_at.Goals as goal

pub returns : goal.returns
returns c =
    let v = c.args in
    record {
      matrices_after =
          behind v.f v.work.now _ _ _ v.which (λ l x. solved_columns l v.f.cleared x v.m) _ v.f.h _ _ c.requires.frame_laid c.requires.h_bound.0
          c.split_at_mut-s.ensures.front c.split_at_mut-s.ensures.back (rw c.begin.ensures refl) (rw c.end.ensures refl) c.solve_columns.auto.x
          c.solve_columns.ensures (λ x. rw (part_first v.work.now v.f.h) refl);
      in_one_list =
          one-list v.f v.work.now _ _ _ v.which v.m _ _ c.requires.frame_laid c.requires.h_bound.0 c.requires.h_bound.1 c.split_at_mut-s.ensures.front
          c.split_at_mut-s.ensures.back (rw c.begin.ensures refl) (rw c.end.ensures refl) c.solve_columns.ensures;
    }
