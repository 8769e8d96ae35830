-- The masks agree with the factors' keys, so registered factors are all that the plan asks beside an order (`Rising`).
-- Assumes nothing.
use Rattle.plan.proofs.Rising.{sound}
use Rattle.plan.proofs.plan.plan_of.Goals as goal

pub make_plan-requires : goal.make_plan-requires
make_plan-requires c =
    let args = c.args in
    sound args.factors args.count args.n c.requires.registered c.masks_of-keys.result c.masks_of-keys.ensures args.live args.order args.lives c.requires.ordered
