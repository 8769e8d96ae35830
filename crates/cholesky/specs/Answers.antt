-- Inner: what the code of `cholesky` answers, and what its slices then hold.
use Rattle.std.specs.Prelude.{ℕ, ◌*◌, List, length, replicate, Float, ◌≡◌, Result, Ok, Err}
use Rattle.matrix.specs.Sums.{plus_zero}
use Rattle.cholesky.specs.declared.Fault.{Fault}
use Rattle.cholesky.specs.declared.Fault.TheVariants.{Pivot, NotFinite}
use Rattle.cholesky.specs.Factor.{Left, whole, stuck}
use Rattle.cholesky.specs.Forms.{Form, form, pivot, not_finite}

-- the answer, and what the list then holds
abbrev pub factored_as : Left → Result (Unit {0}) Fault
factored_as (whole s) = Ok tt
factored_as (stuck s) = Err Pivot

abbrev pub list_of : Left → List Float
list_of (whole s) = s
list_of (stuck s) = s

-- what the code answers, with what its slices then hold
unfoldable pub told : Result (Unit {0}) Fault → (x m : List Float) → Form
told (Ok u) x m = form x m
told (Err Pivot) x m = pivot
told (Err NotFinite) x m = not_finite

unfoldable pub end_of : Form → Result (Unit {0}) Fault
end_of (form x m) = Ok tt
end_of pivot = Err Pivot
end_of not_finite = Err NotFinite

-- what `exchange` is lent: a matrix and a vector of n rows, and zeros for the inverse
pub record FormLent (n : ℕ) (l x y : List Float) : Type 0 where
  pub of_l : length l ≡ n * n
  pub of_x : length x ≡ n
  pub of_y : y ≡ replicate (n * n) plus_zero
