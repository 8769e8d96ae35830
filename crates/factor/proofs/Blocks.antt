-- The layout of a factor's blocks, place by place. Assumes nothing.
use Prim.Native.Nat.{ℕ, ◌+◌, ◌≤◌, ◌<◌}
use mathlib.Core.Path.{◌≡◌, refl, sym, ap, ◌∙◌}
use mathlib.Core.List.{List}
use native.Mathlib.Omega.{arith}
use lib.ListN.{get_or, length, get_or-eq_default}
use Rattle.factor.specs.Factor.{size_of, first_column}
use Rattle.factor.specs.Counting.{sum}
use Rattle.factor.proofs.Counting.{sum-none, sum_more, sum-le}

-- a key that the size table has no place for has size 0
pub no_size : (sizes : List ℕ) (key : ℕ) → length sizes ≤ key → size_of sizes key ≡ 0
no_size sizes key l = get_or-eq_default sizes 0 l

pub first-none : (sizes keys : List ℕ) → first_column sizes keys 0 ≡ 0
unfolding first_column
first-none sizes keys = sum-none _

-- the next block begins where this one ends
pub first_more : (sizes keys : List ℕ) (j key size : ℕ) → key ≡ get_or keys j 0 → size ≡ size_of sizes key → first_column sizes keys (j + 1)
    ≡ first_column sizes keys j + size
unfolding first_column
first_more sizes keys j key size e s = sum_more (λ i. size_of sizes (get_or keys i 0)) j
    ∙ ap (λ (x : ℕ). sum (λ i. size_of sizes (get_or keys i 0)) j + x) (ap (size_of sizes) (sym e) ∙ sym s)

-- later blocks begin no earlier
pub first-le : (sizes keys : List ℕ) (i j : ℕ) → i ≤ j → first_column sizes keys i ≤ first_column sizes keys j
unfolding first_column
first-le sizes keys i j l = sum-le (λ k. size_of sizes (get_or keys k 0)) i j l

-- a block ends within the columns of the places that go past it
pub block-ends : (sizes keys : List ℕ) (j n : ℕ) → j < n → first_column sizes keys j + size_of sizes (get_or keys j 0) ≤ first_column sizes keys n
block-ends sizes keys j n l = omega (
  arith,
  first_more sizes keys j (get_or keys j 0) (size_of sizes (get_or keys j 0)) refl refl,
  first-le sizes keys (j + 1) n (omega arith),
)
