-- The mean and the covariance stand at the start of their arrays, and the others hold zeros. Assumes nothing.
use Prim.Native.Nat.{ℕ, ◌+◌, ◌-◌, ◌*◌, ◌≤◌}
use mathlib.Core.Path.{◌≡◌, refl, ap, ◌∙◌}
use mathlib.Core.List.{List, ◌++◌}
use native.Mathlib.Omega.{arith}
use native.Mathlib.Nat.{mul-le-mul}
use lib.ListN.{length, take, drop, replicate, length-replicate}
use lib.Ieee.{Float}
use Rattle.std.proofs.lemmas.List.{take-replicate, drop-replicate}
use Rattle.matrix.specs.Views.{part}
use Rattle.matrix.specs.Sums.{plus_zero}
use Rattle.factor.specs.Limits.{max_size, max_total}
use Rattle.std.specs.Prelude.{Result, Ok, Err}
use Rattle.cholesky.specs.declared.Fault.{Fault}
use Rattle.cholesky.specs.declared.Fault.TheVariants.{Pivot, NotFinite}
use Rattle.gaussian.specs.Marginals.{moments_of}
use Rattle.gaussian.specs.declared.marginal.MarginalFault.TheVariants as fault
use Rattle.cholesky.specs.Answers.{told}
use Rattle.gaussian.specs.Answers.{marginal_answer, marginal_at, marginal_of, moments_in, padded_floats}
use Rattle.slots.specs.Views.{factor_numbers}

-- the start of an array of zeros
pub zeros-long : (n s : ℕ) → s ≤ n → length (take s (replicate n plus_zero)) ≡ s
zeros-long n s h = ap length (take-replicate s n plus_zero h) ∙ length-replicate s plus_zero

-- a list at the start of an array of zeros
padded-is : (n s : ℕ) (t : List Float) → length t ≡ s → t ++ drop s (replicate n plus_zero) ≡ padded_floats n t
padded-is n s t e = rw (e, drop-replicate s n plus_zero) refl

-- what a marginal is made of is small
pub small : (rows size : ℕ) (message : List Float) → (size ≤ max_size) × (rows ≤ max_total) × (factor_numbers rows size ≤ length message)
    → size * size ≤ max_size * max_size
small rows size message p = mul-le-mul p.0 p.0

module _ (key s y : ℕ) (message mean covariance : List Float) (r : Result (Unit {0}) Fault)
    (told_as : moments_of y s (take (y * s) message) (part message (y * s) (y * s + y)) (part message (y * s + y) (y * s + y + y * y)) ≡ told r mean covariance)
  where
    moments-are : moments_in y s message ≡ told r mean covariance
    moments-are = let n : y * s - 0 ≡ y * s = omega arith in rw n told_as

    pub from-done : length mean ≡ s → length covariance ≡ s * s → r ≡ Ok tt
        → Ok (marginal_at key s (mean ++ drop s (replicate max_size plus_zero)) (covariance ++ drop (s * s) (replicate (max_size * max_size) plus_zero)))
        ≡ marginal_of key s y message
    unfolding marginal_of marginal_answer told
    from-done lm lc e = rw (moments-are, e, padded-is max_size s mean lm, padded-is (max_size * max_size) (s * s) covariance lc)

    pub from-pivot : r ≡ Err Pivot → Err fault.Pivot ≡ marginal_of key s y message
    unfolding marginal_of marginal_answer told
    from-pivot e = rw (moments-are, e)

    pub from_unbounded : r ≡ Err NotFinite → Err fault.NotFinite ≡ marginal_of key s y message
    unfolding marginal_of marginal_answer told
    from_unbounded e = rw (moments-are, e)
