-- `factor::weighing::store_factor` meets its contract: its arrays have room for a factor of the most rows, and begin as zeros. Assumes nothing.
use Prim.Native.Nat.{◌*◌, ◌≤◌, ℕ}
use mathlib.Core.List.{List}
use mathlib.Core.Path.{◌≡◌}
use native.Mathlib.Nat.{mul-le-mul}
use lib.Ieee.{Float, of_bits}
use lib.ListN.{length-replicate, replicate}
use Rattle.factor.proofs.Laying.{front_replicate}
use Rattle.factor.proofs.Telling.{weighed_tells}
use Rattle.factor.specs.Limits.{max_rows}
use Rattle.matrix.specs.Sums.{plus_zero}
use Rattle.cholesky.specs.Answers.{FormLent}
use Rattle.factor.proofs.weighing.store_factor.Goals as goal

-- a square of the most rows has room
room : (n : ℕ) → n ≤ max_rows → n * n ≤ max_rows * max_rows
room n l = mul-le-mul l l

lent : (n : ℕ) (l xi w : List Float) → l ≡ replicate (n * n) plus_zero → xi ≡ replicate n plus_zero → w ≡ replicate (n * n) plus_zero → FormLent n l xi w
lent n l xi w el ex ew = record { of_l = rw el (length-replicate (n * n) plus_zero); of_x = rw ex (length-replicate n plus_zero); of_y = ew }

pub store_by-requires-clause-form_lent : goal.store_by-requires-clause-form_lent
unfolding of_bits
store_by-requires-clause-form_lent c =
    let n = c.args.n in
    let square = front_replicate plus_zero (max_rows * max_rows) (n * n) (room n c.requires.rows) in
    lent n _ _ _ square (front_replicate plus_zero max_rows n c.requires.rows) square

pub returns-clause-result_value : goal.returns-clause-result_value
returns-clause-result_value c = weighed_tells _ _ c.store_by.ensures.value
