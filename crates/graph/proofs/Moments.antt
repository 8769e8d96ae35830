-- The numbers of the keys follow one another. Assumes nothing.
use Prim.Native.Nat.{ℕ, ◌+◌}
use mathlib.Core.Path.{◌≡◌, refl}
use mathlib.Core.List.{List}
use lib.ListN.{get_or}
use Rattle.factor.specs.Counting.{sum}
use Rattle.factor.proofs.Counting.{sum_more}
use Rattle.graph.specs.Moments.{moment_numbers, start_of}

pub start_none : (sizes : List ℕ) → start_of sizes 0 ≡ 0
unfolding start_of sum
start_none sizes = refl

pub start_more : (sizes : List ℕ) (k : ℕ) → start_of sizes (k + 1) ≡ start_of sizes k + moment_numbers (get_or sizes k 0)
unfolding start_of
start_more sizes k = sum_more (λ i. moment_numbers (get_or sizes i 0)) k
