-- `slots::slot_of` meets its contract: a number below the originals' limit is an original's. Assumes nothing.
use borrow.Author.Tests.{lt-ltb, le-ltb}
use Rattle.slots.specs.Tables.{numbered_slot}
use Rattle.slots.proofs.slot_of.Goals as goal

pub returns-then-number-lt-FACTORS : goal.returns-then-number-lt-FACTORS
unfolding numbered_slot
returns-then-number-lt-FACTORS c = rw (lt-ltb _ _ c.if-number-lt-FACTORS.true)

pub returns : goal.returns
unfolding numbered_slot
returns c = rw (le-ltb _ _ c.if-number-lt-FACTORS.false)
