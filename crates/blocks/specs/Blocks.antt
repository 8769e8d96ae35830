-- The block columns of one factor: document 01, "Kept, and written anew". Definitions only.
use Rattle.std.specs.Prelude.{ℕ, zero, suc, ◌+◌, ◌*◌, List, get_or, Float}
use Rattle.matrix.specs.Views.{part}

-- ---- the block columns

-- the first column of the i-th key of a factor
unfoldable pub column_of : (sizes keys : List ℕ) (i : ℕ) → ℕ
column_of sizes keys zero = 0
column_of sizes keys (suc i) = column_of sizes keys i + get_or sizes (get_or keys i 0) 0

-- the block column of s columns from column c on: that part of A, which has y rows
abbrev pub block_column_of : (a : List Float) (y c s : ℕ) → List Float
block_column_of a y c s = part a (c * y) ((c + s) * y)
