use Rattle.std.proofs.Common.{◌≡◌, length}
use Rattle.blocks.specs.Blocks.{column_of}
use Rattle.workspace.specs.Parts.{matrices_in}
use Rattle.slots.specs.Views.{with_products}
use Rattle.slots.proofs.sums.add_products.Given as goal

abbrev pub invariant-loop-key : goal.invariant-loop-key
invariant-loop-key l =
    record {
      work : length l.work ≡ length l.initial.work;
      column : l.column ≡ column_of l.layout.size l.keys l.key-index;
      sums : matrices_in l.f l.work ≡ with_products l.branch l.f l.layout l.keys l.y l.a l.k l.t (matrices_in l.f l.initial.work) l.key-index;
    }
