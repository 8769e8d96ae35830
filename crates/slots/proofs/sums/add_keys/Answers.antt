-- `slots::sums::add_keys` meets its contract: the sums and the column after the keys passed. Assumes nothing.
use Rattle.std.proofs.Common.{◌≡◌, ◌+◌, ◌*◌, ◌≤◌, refl, ap, arith, length, ◌∙◌}
use Rattle.blocks.specs.Blocks.{column_of}
use Rattle.workspace.specs.Sums.{turns}
use Rattle.slots.specs.Views.{with_keys}
use Rattle.slots.specs.declared.layout.Spot.{Spot}
use Rattle.slots.proofs.Adding.{column_fits, fits-block, keys-more, scratch}
use Rattle.slots.proofs.sums.add_keys.Goals as goal
use Rattle.slots.proofs.sums.add_keys.Goals.{After-find-k}

-- the block column of the key at hand stands in A
fits : (c : After-find-k) → (c.loop-key.column + c.find-k.result.size ≡ column_of c.args.layout.size c.args.keys.now (c.loop-key.key-index + 1))
    × (c.loop-key.column + c.find-k.result.size ≤ 32) × ((c.loop-key.column + c.find-k.result.size) * c.args.y ≤ length c.args.a.now)
fits c = column_fits c.loop-key.key-index c.requires.wide c.loop-key-test.true c.loop-key.invariant.column (ap (λ (s : Spot). s.size) c.find-k.ensures)

pub loop-key-init : goal.loop-key-init
unfolding with_keys turns column_of
loop-key-init c = record { work = refl; t = refl; column = refl; sums = refl }

pub block_at-b-requires : goal.block_at-b-requires
block_at-b-requires c = (fits c).2

pub add_key-requires-clause-branch_fits : goal.add_key-requires-clause-branch_fits
add_key-requires-clause-branch_fits c =
    let k = c.requires.known c.loop-key.key-index c.loop-key-test.true in (
      c.requires.branch_fits.0,
      rw c.find-k.ensures k.sits,
      rw c.find-k.ensures (scratch _ _ _ _ k.small c.requires.branch_fits.1 c.loop-key.invariant.t),
    )

pub add_key-requires-clause-size_in_bounds : goal.add_key-requires-clause-size_in_bounds
add_key-requires-clause-size_in_bounds c =
    (fits-block c.args.a.now _ _ c.loop-key.column _ c.block_at-b.ensures (fits (goal.at.add_key-requires-clause-size_in_bounds c).After-find-k).2, c.requires.y_in_bounds.0, c.requires.y_in_bounds.1)

pub overflow_add-column : goal.overflow_add-column
overflow_add-column c = omega (arith, (fits (goal.at.overflow_add-column c).After-find-k).1)

pub loop-key-preserved : goal.loop-key-preserved
loop-key-preserved c =
    let args = c.args in
    let loop = c.loop-key in
    let kept = loop.invariant in
    record {
      work = c.add_key.auto.work ∙ kept.work;
      t = c.add_key.auto.t ∙ kept.t;
      column = (fits (goal.at.loop-key-preserved c).After-find-k).0;
      sums = keys-more args.branch args.f args.layout args.row args.keys.now args.y args.a.now args.xi.now args.w.now _ _ _ _ _ loop.key-index loop.column kept.sums
          kept.column c.find-k.ensures c.block_at-b.ensures c.add_key.ensures;
    }
