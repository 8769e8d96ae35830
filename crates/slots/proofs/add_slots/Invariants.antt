use Rattle.std.proofs.Common.{◌≡◌, length}
use Rattle.workspace.specs.Parts.{matrices_in}
use Rattle.slots.specs.Views.{rows_of_all, with_views}
use Rattle.slots.specs.Tables.{view_at}
use Rattle.slots.proofs.add_slots.Given as goal

abbrev pub invariant-loop-number : goal.invariant-loop-number
invariant-loop-number l =
    record {
      work : length l.work ≡ length l.initial.work;
      t : length l.t ≡ length l.initial.t;
      row : l.row ≡ rows_of_all l.layout (view_at l.s.factors.now l.s.messages.now l.s.tables.keys.now l.s.tables.heads.now l.slots) l.number-index;
      sums : matrices_in l.f l.work
          ≡ with_views l.branch l.f l.layout (view_at l.s.factors.now l.s.messages.now l.s.tables.keys.now l.s.tables.heads.now l.slots) (matrices_in l.f l.initial.work) l.number-index;
    }
