-- `measured::ran_number`: the figure and the refusal are small, so the sum fits.
use Rattle.std.proofs.Common.{subst, arith}
use Rattle.job.proofs.Refusals.{Keyed}
use Rattle.measured.proofs.ran_number.Goals as goal

pub overflow_mul-figure : goal.overflow_mul-figure
overflow_mul-figure c = record { fits = omega (arith, c.requires.0) }

pub marked-requires : goal.marked-requires
marked-requires c =
    let keyed = subst Keyed c.in-Err.is c.requires.1 in
    (keyed.0, omega (arith, keyed.1))

pub overflow_add-result : goal.overflow_add-result
overflow_add-result c = record { fits = omega (arith, c.marked.ensures.1, c.requires.0) }

pub returns-in-Ok : goal.returns-in-Ok
returns-in-Ok c = rw c.in-Ok.is (omega arith)

pub returns-in-Err : goal.returns-in-Err
returns-in-Err c = rw c.in-Err.is (omega (arith, c.marked.ensures.0))
