-- Decimals: how they grow by a digit, and how long they are. Assumes nothing.
use Prim.Native.Nat.{ℕ, zero, suc, ◌+◌, ◌/◌, ◌%◌, ◌^◌, ◌≤◌, ◌<◌}
use mathlib.Core.Path.{◌≡◌, refl, ap, ◌∙◌}
use mathlib.Core.Bool.{Bool, true, false}
use mathlib.Core.List.{List, [], ◌∷◌, ◌++◌}
use native.Mathlib.Omega.{arith}
use borrow.Author.Tests.{lt-ltb, le-ltb, ltb-true, ltb-false}
use lib.Dec.{ltb}
use lib.ListN.{length, length-append}
use Rattle.text.specs.Decimals.{decimal_by, decimal, field_text}

by_ten : (P : Type 0) (x : ℕ) → (x < 10 → P) → (10 ≤ x → P) → P
by_ten P x f g = go (ltb x 10) refl
  where
    go : (b : Bool) → ltb x 10 ≡ b → P
    go true e = f (ltb-true _ _ e)
    go false e = g (ltb-false _ _ e)

-- more turns than needed change nothing
turns_suffice : (m n x : ℕ) → x < m → x < n → decimal_by m x ≡ decimal_by n x
unfolding decimal_by
turns_suffice zero n x l k = let z : ◌≡◌ {A = ℕ} 0 1 = omega arith in cc
turns_suffice (suc m) zero x l k = let z : ◌≡◌ {A = ℕ} 0 1 = omega arith in cc
turns_suffice (suc m) (suc n) x l k =
    by_ten (decimal_by (suc m) x ≡ decimal_by (suc n) x) x (λ t. rw (lt-ltb x 10 t))
    (λ t. rw (le-ltb x 10 t) (ap (λ (s : List ℕ). s ++ ((48 + x % 10) ∷ [])) (turns_suffice m n (x / 10) (omega arith) (omega arith))))

pub one-digit : (x : ℕ) → x < 10 → decimal x ≡ (48 + x) ∷ []
unfolding decimal decimal_by
one-digit x l = rw (lt-ltb x 10 l)

pub more_digits : (x : ℕ) → 10 ≤ x → decimal x ≡ decimal (x / 10) ++ ((48 + x % 10) ∷ [])
unfolding decimal decimal_by
more_digits x l = rw (le-ltb x 10 l) (ap (λ (s : List ℕ). s ++ ((48 + x % 10) ∷ [])) (turns_suffice x (suc (x / 10)) (x / 10) (omega arith) (omega arith)))

pub one-length : (x : ℕ) → x < 10 → length (decimal x) ≡ 1
one-length x l = rw (one-digit x l)

pub more-length : (x : ℕ) → 10 ≤ x → length (decimal x) ≡ length (decimal (x / 10)) + 1
more-length x l = ap length (more_digits x l) ∙ length-append (decimal (x / 10)) ((48 + x % 10) ∷ [])

-- a number below a power of ten has no more digits than its exponent
pub few_digits : (k x : ℕ) → x < 10 ^ suc k → length (decimal x) ≤ suc k
few_digits zero x l = by_ten (length (decimal x) ≤ 1) x (λ t. omega (arith, one-length x t)) (λ t. omega arith)
few_digits (suc k) x l = by_ten (length (decimal x) ≤ suc (suc k)) x (λ t. omega (arith, one-length x t))
    (λ t. omega (arith, more-length x t, few_digits k (x / 10) (omega arith)))

pub field_length : (n : ℕ) → length (field_text n) ≡ length (decimal n) + 1
unfolding field_text
field_length n = omega arith
