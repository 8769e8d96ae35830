-- Inner: what a factor's store holds: A, and xi and W of a mean and a variance, which are the other form of their Gaussian.
use Rattle.std.specs.Prelude.{◌≡◌, List, ◌++◌, ℕ, ◌+◌, ◌*◌, ◌≤◌, Float, length}
use Rattle.cholesky.specs.Forms.{Form, form, pivot, not_finite}
use Rattle.factor.specs.Limits.{max_rows}
use Rattle.factor.specs.Factor.{lay}

-- a store after A, xi and W are stored from a place on; a refusal leaves it
abbrev pub form_laid : Form → (a store : List Float) (at : ℕ) → List Float
form_laid (form xi w) a store at = lay store at (a ++ xi ++ w)
form_laid pivot a store at = store
form_laid not_finite a store at = store

-- what `store_factor` is lent: the numbers of n rows, and a store with room for them
pub record FactorRoom (n at : ℕ) (a mean variance store : List Float) : Type 0 where
  pub rows : n ≤ max_rows
  pub of_mean : length mean ≡ n
  pub of_variance : length variance ≡ n * n
  pub room : at + (length a + n + n * n) ≤ length store
