-- `measured::number_in`: a refusal's number is small, so the mark can be added.
use Rattle.std.proofs.Common.{refl, arith}
use Rattle.measured.proofs.Runs.{few}
use Rattle.measured.proofs.number_in.Goals as goal

pub overflow_add-result : goal.overflow_add-result
overflow_add-result c = record { fits = omega (arith, few _ c.in-Err.why c.code.ensures) }

pub returns-in-Err : goal.returns-in-Err
returns-in-Err c = rw (c.in-Err.is, c.code.ensures) refl
