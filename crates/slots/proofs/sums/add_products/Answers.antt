-- `slots::sums::add_products` meets its contract: the sums and the column after the keys passed. Assumes nothing.
use Rattle.std.proofs.Common.{◌≡◌, ◌+◌, ◌*◌, ◌≤◌, refl, ap, arith, length, ◌∙◌}
use Rattle.blocks.specs.Blocks.{column_of}
use Rattle.workspace.specs.Sums.{turns}
use Rattle.slots.specs.Views.{with_products}
use Rattle.slots.specs.declared.layout.Spot.{Spot}
use Rattle.slots.proofs.Adding.{column_fits, fits-block, products_more}
use Rattle.slots.proofs.sums.add_products.Goals as goal
use Rattle.slots.proofs.sums.add_products.Goals.{After-find-o}

-- the block column of the key at hand stands in A
fits : (c : After-find-o) → (c.loop-key.column + c.find-o.result.size ≡ column_of c.args.layout.size c.args.keys.now (c.loop-key.key-index + 1))
    × (c.loop-key.column + c.find-o.result.size ≤ 32) × ((c.loop-key.column + c.find-o.result.size) * c.args.y ≤ length c.args.a.now)
fits c = column_fits c.loop-key.key-index c.requires.wide c.loop-key-test.true c.loop-key.invariant.column (ap (λ (s : Spot). s.size) c.find-o.ensures)

pub loop-key-init : goal.loop-key-init
unfolding with_products turns column_of
loop-key-init c = record { work = refl; column = refl; sums = refl }

pub block_at-b-requires : goal.block_at-b-requires
block_at-b-requires c = (fits c).2

pub add_product-requires-clause-y_in_bounds : goal.add_product-requires-clause-y_in_bounds
add_product-requires-clause-y_in_bounds c = (c.requires.rows_value.2, fits-block c.args.a.now _ _ c.loop-key.column _ c.block_at-b.ensures (fits (goal.at.add_product-requires-clause-y_in_bounds c).After-find-o).2)

pub overflow_add-column : goal.overflow_add-column
overflow_add-column c = omega (arith, (fits (goal.at.overflow_add-column c).After-find-o).1)

pub loop-key-preserved : goal.loop-key-preserved
loop-key-preserved c =
    let args = c.args in
    let loop = c.loop-key in
    let kept = loop.invariant in
    record {
      work = c.add_product.auto.work ∙ kept.work;
      column = (fits (goal.at.loop-key-preserved c).After-find-o).0;
      sums = products_more args.branch args.f args.layout args.keys.now args.y args.a.now args.k _ args.t.now _ _ _ _ loop.key-index loop.column kept.sums
          kept.column c.find-o.ensures c.block_at-b.ensures c.add_product.ensures;
    }
