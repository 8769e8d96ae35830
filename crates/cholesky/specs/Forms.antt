-- The two forms of a Gaussian: mean and covariance, and xi and W. Each has a vector of n numbers and an n × n matrix, and each is made from the other by the
-- same steps. Definitions only.
use Rattle.std.specs.Prelude.{cond, List, ℕ, ◌*◌, Float, replicate}
use Rattle.matrix.specs.Views.{columns}
use Rattle.matrix.specs.Sums.{plus_zero}
use Rattle.matrix.specs.Finite.{all_finite}
use Rattle.cholesky.specs.Factor.{Left, whole, stuck, factor}
use Rattle.cholesky.specs.Solve.{solved, inverted}

-- the vector and the matrix of the other form, or that the matrix given has a refused pivot, or that a number computed is not finite
pub data Form : Type 0 where
  form : (x m : List Float) → Form
  pivot : Form
  not_finite : Form

-- the form, if all its numbers are finite; that they aren't is 6 for a factor and 17 for a marginal
unfoldable pub finite_form : (x m : List Float) → Form
finite_form x m = cond (all_finite x) (cond (all_finite m) (form x m) not_finite) not_finite

-- with the Cholesky factor l of the matrix the vector is solved and the matrix inverted
unfoldable pub exchanged_by : (n : ℕ) (x : List Float) → Left → Form
exchanged_by n x (whole l) = finite_form (solved l (columns n) n (columns n) 0 x) (inverted l (columns n) n (columns n) (replicate (n * n) plus_zero) n)
exchanged_by n x (stuck l) = pivot

unfoldable pub exchanged : (n : ℕ) (x m : List Float) → Form
exchanged n x m = exchanged_by n x (factor (columns n) n m n)
