-- `gaussian::marginal::marginalize` meets its contract: the message in the work store is the one that the marginal is made of. Assumes nothing.
use Rattle.std.proofs.Common.{◌≡◌, arith, length, get_or, ◌≤◌, ◌∙◌, sym, ap, Err}
use Rattle.slots.proofs.Adding.{fits-part}
use Rattle.slots.specs.Views.{factor_numbers}
use Rattle.gaussian.proofs.Telling.{last-tells}
use Rattle.gaussian.proofs.Branches.{Spans, spans}
use Rattle.gaussian.proofs.Outcomes.{few_rows, marginal-pivot, marginal_unbounded, marginal-message}
use Rattle.gaussian.proofs.marginal.marginalize.Goals as goal
use Rattle.gaussian.proofs.marginal.marginalize.Goals.{After-dim_of, After-frame_of-f}

-- the message of the last elimination has no more rows than columns, and stands within the work store
few : (c : After-dim_of) → c.in-Ok.rows ≤ c.dim_of-size.result
few c =
    let n : length c.args.sizes ≡ 32 = omega arith in
    let h = few_rows n c.requires.asked _ c.eliminate_in.ensures.value _ c.in-Ok.is in
    omega (arith, c.dim_of-size.ensures)

ends : (c : After-frame_of-f) → c.in-Ok.rows ≤ c.dim_of-size.result → Spans c.in-Ok.rows c.dim_of-size.result c.frame_of-f.result
ends c h =
    spans c.dim_of.result c.in-Ok.rows c.dim_of-size.result _ c.frame_of-f.ensures
    (omega (arith, c.requires.asked.total, c.dim_of-size.ensures, c.dim_of.ensures)) h

pub frame_of-f-requires : goal.frame_of-f-requires
frame_of-f-requires c =
    let h = few c in (
      omega (arith, c.requires.asked.total, c.dim_of-size.ensures, c.dim_of.ensures),
      omega (arith, h, c.requires.asked.total),
      omega (arith, c.requires.asked.total, c.dim_of-size.ensures),
    )

pub offset_bounds-work-f : goal.offset_bounds-work-f
offset_bounds-work-f c = let s = ends (goal.at.offset_bounds-work-f c).After-frame_of-f (few (goal.at.offset_bounds-work-f c).After-dim_of) in omega arith

pub slice_bounds-from-count : goal.slice_bounds-from-count
slice_bounds-from-count c = let s = ends (goal.at.slice_bounds-from-count c).After-frame_of-f (few (goal.at.slice_bounds-from-count c).After-dim_of) in omega arith

pub slice_bounds-from-start : goal.slice_bounds-from-start
slice_bounds-from-start c = let s = ends (goal.at.slice_bounds-from-start c).After-frame_of-f (few (goal.at.slice_bounds-from-start c).After-dim_of) in omega arith

pub slice_bounds-from-end : goal.slice_bounds-from-end
slice_bounds-from-end c = let s = ends (goal.at.slice_bounds-from-end c).After-frame_of-f (few (goal.at.slice_bounds-from-end c).After-dim_of) in omega (arith, c.requires.asked.enough, c.eliminate_in.auto.work)

pub from-requires : goal.from-requires
from-requires c =
    let h = few (goal.at.from-requires c).After-dim_of in
    let s = ends (goal.at.from-requires c).After-frame_of-f h in (
      omega (arith, c.requires.key_bound, c.dim_of-size.ensures),
      omega (arith, h, c.requires.asked.total, c.dim_of-size.ensures),
      fits-part c.eliminate_in.new.work c.frame_of-f.result.a c.frame_of-f.result.end (factor_numbers c.in-Ok.rows c.dim_of-size.result)
          (omega (arith, s.within, c.requires.asked.enough, c.eliminate_in.auto.work)) (omega (arith, s.ends)),
    )

pub returns-in-Ok : goal.returns-in-Ok
returns-in-Ok c =
    let args = c.args in
    let n : length args.sizes ≡ 32 = omega arith in
    let all = last-tells _ _ _ _ (marginal-message n c.requires.asked _ c.eliminate_in.ensures.value _
    c.in-Ok.is c.eliminate_in.new.work c.eliminate_in.ensures.sizes_after args.key
    (get_or args.sizes args.key 0) c.dim_of-size.result _ _ _ (omega (arith, c.dim_of-size.ensures)) c.dim_of-size.ensures
    c.dim_of.ensures c.frame_of-f.ensures c.from.ensures.value) in
    record { value = all.0; told_value = all.1 }

pub returns-in-Err-Pivot : goal.returns-in-Err-Pivot
returns-in-Err-Pivot c =
    let all = last-tells _ _ _ _ (marginal-pivot c.args.key (get_or c.args.sizes c.args.key 0) _
    (sym (c.in-Err-Pivot.is ∙ ap Err c.in-Err-Pivot.field-0-is) ∙ c.eliminate_in.ensures.value)) in
    record { value = all.0; told_value = all.1 }

pub returns-in-Err-NotFinite : goal.returns-in-Err-NotFinite
returns-in-Err-NotFinite c =
    let all = last-tells _ _ _ _ (marginal_unbounded c.args.key (get_or c.args.sizes c.args.key 0) _
    (sym (c.in-Err-NotFinite.is ∙ ap Err c.in-Err-NotFinite.field-0-is) ∙ c.eliminate_in.ensures.value)) in
    record { value = all.0; told_value = all.1 }
