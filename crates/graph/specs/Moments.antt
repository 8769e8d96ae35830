-- Where means and covariances stand in a marginal store: one key after the other, rising; of each key the mean, then the covariance column
-- by column. Definitions only.
use Rattle.std.specs.Prelude.{ℕ, ◌+◌, ◌*◌, List, get_or}
use Rattle.factor.specs.Counting.{sum}

-- the numbers of the mean and the covariance of a variable of size s
abbrev pub moment_numbers : ℕ → ℕ
moment_numbers s = s + s * s

-- where those of key k begin
unfoldable pub start_of : List ℕ → ℕ → ℕ
start_of sizes k = sum (λ i. moment_numbers (get_or sizes i 0)) k

-- the mean of component c of key k, and its variance, which stands on the diagonal of the covariance
abbrev pub mean_place : (sizes : List ℕ) (k c : ℕ) → ℕ
mean_place sizes k c = start_of sizes k + c

abbrev pub variance_place : (sizes : List ℕ) (k c : ℕ) → ℕ
variance_place sizes k c = start_of sizes k + get_or sizes k 0 + (c * get_or sizes k 0 + c)
