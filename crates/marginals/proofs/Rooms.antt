-- The numbers of the keys before one, and its own, have room where those of all keys have, and these are few. Assumes nothing.
use mathlib.Core.Path.{◌≡◌, refl, sym}
use mathlib.Core.Bool.{true}
use Prim.Native.Nat.{ℕ, zero, suc, ◌+◌, ◌*◌, ◌≤◌, ◌<◌}
use native.Mathlib.Omega.{arith}
use native.Mathlib.Decide.{dec_lt}
use native.Mathlib.Nat.{mul-le-mul}
use borrow.Author.Tests.{eqb-true}
use Rattle.factor.specs.Limits.{max_variables, max_size, max_total}
use Rattle.factor.specs.Counting.{sum}
use Rattle.factor.proofs.Counting.{every-at, sum-le, sum-stop}
use Rattle.graph.specs.Record.{size_at, clear, total, valid}
use Rattle.graph.specs.declared.Graph.{Graph}
use Rattle.graph.proofs.Validity.{size-most, valid-variables, valid-total, valid-clear, valid-size}
use Rattle.marginals.specs.Marginals.{marginal_numbers}
use Rattle.graph.specs.Moments.{start_of}
use Rattle.graph.proofs.Moments.{start_more}

sum_times : (f h : ℕ → ℕ) (k n : ℕ) → ((i : ℕ) → i < n → f i ≤ k * h i) → sum f n ≤ k * sum h n
unfolding sum
sum_times f h k zero e = omega arith
sum_times f h k (suc n) e = omega (arith, sum_times f h k n (λ i l. e i (omega arith)), e n (omega arith))

module _ (g : Graph) (v : valid g ≡ true) where
  pub key-room : (k : ℕ) → k < g.variables → start_of g.sizes k + (size_at g k + size_at g k * size_at g k) ≤ marginal_numbers g
  unfolding start_of
  key-room k h = omega (
    arith,
    start_more g.sizes k,
    sum-le (λ i. size_at g i + size_at g i * size_at g i) (k + 1) max_variables
        (omega (arith, valid-variables g v)),
  )

  -- the places after the registered variables have size 0
  no_size : (k : ℕ) → g.variables ≤ k → k < max_variables → size_at g k ≡ 0
  unfolding clear
  no_size k h l = eqb-true _ _ (every-at _ 1 (valid-clear g v k h l))

  pub size_few : (k : ℕ) → k < max_variables → size_at g k ≤ max_size
  size_few k l = go (dec_lt k g.variables)
    where
      go : Dec (k < g.variables) → size_at g k ≤ max_size
      go (yes h) = size-most _ (valid-size g v k h)
      go (no h) = omega (arith, no_size k (omega arith) l)

  -- no key has more than 7 numbers for each of its columns
  pub numbers-most : marginal_numbers g ≤ 7 * max_total
  unfolding start_of total
  numbers-most =
      omega (
        arith,
        sum_times (λ i. size_at g i + size_at g i * size_at g i) (λ i. size_at g i) 7 max_variables
            (λ i l. let m : size_at g i * size_at g i ≤ max_size * size_at g i = mul-le-mul (size_few i l) (omega arith) in omega arith),
        valid-total g v,
      )

  pub all-numbers : start_of g.sizes g.variables ≡ marginal_numbers g
  unfolding start_of
  all-numbers = sym (sum-stop (λ i. size_at g i + size_at g i * size_at g i) g.variables max_variables (valid-variables g v) (λ i h l. rw (no_size i h l) refl))
