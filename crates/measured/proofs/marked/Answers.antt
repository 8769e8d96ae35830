-- `measured::marked` meets its contract: the parts are small, so the sum fits. Assumes nothing.
use mathlib.Core.Path.{refl}
use Prim.Native.Nat.{◌≤◌}
use native.Mathlib.Omega.{arith}
use Rattle.measured.proofs.Runs.{few}
use Rattle.measured.proofs.marked.Goals as goal

number : (c : goal.After-code) → c.code.result ≤ 30
number c = few _ c.args.why c.code.ensures

pub overflow_mul-result : goal.overflow_mul-result
overflow_mul-result c = record { fits = omega (arith, number c) }

pub overflow_add-result : goal.overflow_add-result
overflow_add-result c = record { fits = omega (arith, number c) }

pub overflow_add-result-2 : goal.overflow_add-result-2
overflow_add-result-2 c = record { fits = omega (arith, number c, c.requires.0) }

pub overflow_add-result-3 : goal.overflow_add-result-3
overflow_add-result-3 c = record { fits = omega (arith, number c, c.requires.0, c.requires.1) }

pub returns : goal.returns
returns c = (rw c.code.ensures refl, omega (arith, number c, c.requires.0, c.requires.1))
