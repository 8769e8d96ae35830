-- `measured::strips_ordered_run`: whichever way the reading ended, the number and the stores are those of that ending.
use Rattle.std.proofs.Common.{arith}
use lib.Ieee.{of_bits}
use Rattle.measured.specs.Measured.{stores}
use Rattle.measured.proofs.Ordered.{small, place-small, ran_is, refused-is}
use Rattle.measured.proofs.strips_ordered_run.Goals as goal

pub ran_number-requires : goal.ran_number-requires
ran_number-requires c = small _ _ _ _ _ _ _ _ _ c.run_along.ensures.marginals_after

pub marked-requires : goal.marked-requires
unfolding of_bits
marked-requires c = (omega arith, place-small c.args.job.now c.read-read.result c.read-read.ensures.value.0 _ c.in-Err.is)

pub returns-in-Ok : goal.returns-in-Ok
unfolding of_bits
returns-in-Ok c =
    let args = c.args in
    let all = ran_is args.job.now c.read-read.result c.read-read.ensures.value.0 args.order.now (stores args.messages.now args.marginals.now) _
    c.read-read.ensures.store_after _ c.in-Ok.is _ _ _ _ c.run_along.ensures.marginals_after c.ran_number.ensures in
    record { value = all.0; marginals_after = all.1 }

pub returns-in-Err : goal.returns-in-Err
unfolding of_bits
returns-in-Err c =
    let args = c.args in
    let all = refused-is args.job.now c.read-read.result c.read-read.ensures.value.0 args.order.now (stores args.messages.now args.marginals.now) _ _
    c.in-Err.is c.marked.ensures.0 in
    record { value = all.0; marginals_after = all.1 }
