-- `direct::check` meets its contract: the factors listed are those of the graph when their keys are looked at. Assumes nothing.
use Rattle.factor.proofs.Counting.{tells}
use Rattle.direct.proofs.Asking.{slots-known}
use Rattle.direct.proofs.check.Goals as goal

pub all_placed-requires : goal.all_placed-requires
all_placed-requires c =
    let args = c.args in
    (tells c.valid.ensures.0 c.if-not-valid.false, slots-known args.g args.slots.now args.kept.now args.cleared.now (tells c.all_known.ensures c.if-not-all_known.false))
