-- `slots::add_slots` meets its contract: the sums and the row after the slots passed. Assumes nothing.
use Rattle.std.proofs.Common.{refl, ◌∙◌}
use Rattle.workspace.specs.Sums.{turns}
use Rattle.slots.specs.Views.{rows_of_all, with_views}
use Rattle.slots.proofs.Reading.{rows_more, views-more}
use Rattle.slots.proofs.add_slots.Goals as goal

pub loop-number-init : goal.loop-number-init
unfolding rows_of_all with_views turns
loop-number-init c = record { work = refl; t = refl; row = refl; sums = refl }

pub loop-number-preserved : goal.loop-number-preserved
loop-number-preserved c =
    let args = c.args in
    let loop = c.loop-number in
    let kept = loop.invariant in
    let added = c.add_slot-row in
    record {
      work = added.auto.work ∙ kept.work;
      t = added.auto.t ∙ kept.t;
      row = rows_more args.layout args.s.factors.now args.s.messages.now args.s.tables.keys.now args.s.tables.heads.now args.slots.now loop.number-index _ _ c.head_at-h.ensures kept.row _
          added.ensures.value;
      sums = views-more args.layout args.s.factors.now args.s.messages.now args.s.tables.keys.now args.s.tables.heads.now args.slots.now loop.number-index _ _ c.head_at-h.ensures kept.row
          args.branch args.f _ _ _ kept.sums added.ensures.work_after;
    }
