-- `slots::count_rows` meets its contract: the rows of the slots passed, at most 32 each. Assumes nothing.
use Rattle.std.proofs.Common.{◌≤◌, refl, arith}
use Rattle.factor.specs.Limits.{max_total}
use Rattle.slots.specs.Tables.{rows_by_all}
use Rattle.slots.proofs.Reading.{count-more, rows_bound}
use Rattle.slots.proofs.count_rows.Goals as goal
use Rattle.slots.proofs.count_rows.Goals.{After-rows_of-rows}

pub loop-number-init : goal.loop-number-init
unfolding rows_by_all
loop-number-init c = record { counted = refl; few = omega arith }

-- the slot at hand has few rows
few : (c : After-rows_of-rows) → c.rows_of-rows.result ≤ max_total
few c =
    rw (c.rows_of-rows.ensures, c.head_at-h.ensures)
    (rows_bound c.args.layout c.args.tables.keys.now _ (c.requires.counted c.loop-number.number-index c.loop-number-test.true).rows)

pub overflow_add-rows : goal.overflow_add-rows
overflow_add-rows c = omega (arith, few c, c.requires.few)

pub loop-number-preserved : goal.loop-number-preserved
loop-number-preserved c =
    let args = c.args in
    let loop = c.loop-number in
    record {
      counted = count-more args.layout args.tables.keys.now args.tables.heads.now args.slots.now loop.number-index _ _ _ loop.invariant.counted c.head_at-h.ensures
          c.rows_of-rows.ensures;
      few = omega (arith, few c);
    }
