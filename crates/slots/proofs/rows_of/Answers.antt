-- `slots::rows_of` meets its contract: a prior on a cleared key adds no rows. Assumes nothing.
use Rattle.slots.specs.Tables.{rows_by}
use Rattle.slots.proofs.rows_of.Goals as goal

pub returns-then-layout-keys : goal.returns-then-layout-keys
unfolding rows_by
returns-then-layout-keys c = rw (c.if-h.true, c.if-layout-keys.true)
