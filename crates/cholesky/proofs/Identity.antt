-- Cholesky, the solve and the inverse of an identity of any dimension: no pivot is refused, and the numbers are 0.0 and 1.0 throughout. Assumes nothing.
use Prim.Native.Nat.{ℕ, zero, suc, ◌+◌, ◌-◌, ◌*◌, ◌≤◌, ◌<◌}
use mathlib.Core.Path.{◌≡◌, refl, ap, ap₂, ◌∙◌}
use mathlib.Core.Bool.{Bool, true, false, cond}
use mathlib.Core.List.{List}
use mathlib.Core.Logic.{◌⊎◌, inl, inr}
use native.Mathlib.Omega.{arith}
use lib.Dec.{eqb}
use lib.ListN.{get_or, length, replicate, length-replicate, get_or-replicate}
use lib.Ieee.{Float, nan, binary64, sub, mul, div}
use Rattle.matrix.specs.Views.{place, entry, flip, columns}
use Rattle.matrix.specs.Sums.{plus_zero, one, terms, deduct_of}
use Rattle.matrix.specs.Stores.{sweep, block, block_column}
use Rattle.matrix.specs.Triangles.{diagonal_of}
use Rattle.matrix.specs.Finite.{is_finite, all_finite}
use Rattle.matrix.specs.declared.View.{View}
use Rattle.matrix.proofs.Entries.{steps-at, block-length}
use Rattle.matrix.proofs.Dense.{dense, fills}
use Rattle.matrix.proofs.Diagonal.{on_diagonal, same_place, other_place, turned-place, diagonal-entry}
use Rattle.matrix.proofs.Numbers.{all-finite}
use Rattle.cholesky.specs.Factor.{whole, factor}
use Rattle.cholesky.specs.Solve.{solved_row, solve_lower, solve_upper, solved, unit_column, inverted}
use Rattle.cholesky.proofs.Diagonal.{nothing_off, idle, one-rooted, diagonal-factor}

-- ---- arithmetic on 0.0 and 1.0 is exact

-- one of the two
pub Bit : Float → Type 0
Bit x = (x ≡ plus_zero) ⊎ (x ≡ one)

zero_times : (x : Float) → Bit x → mul binary64 plus_zero x ≡ plus_zero
unfolding Bit mul
zero_times x (inl e) = rw e
zero_times x (inr e) = rw e

less_zero : (x : Float) → Bit x → sub binary64 x plus_zero ≡ x
unfolding Bit sub
less_zero x (inl e) = rw e
less_zero x (inr e) = rw e

by_one : (x : Float) → Bit x → div binary64 x one ≡ x
unfolding Bit div
by_one x (inl e) = rw e
by_one x (inr e) = rw e

-- ---- a list that holds an identity at a view

abbrev pub unit : ℕ → ℕ → Float
unit i j = on_diagonal one i j

unit_bit : (i j : ℕ) → Bit (unit i j)
unfolding Bit on_diagonal
unit_bit i j = go (eqb i j)
  where
    go : (b : Bool) → (cond b one plus_zero ≡ plus_zero) ⊎ (cond b one plus_zero ≡ one)
    go true = inr refl
    go false = inl refl

unfoldable pub Identity : View → ℕ → List Float → Type 0
Identity v n s = (i j : ℕ) → i < n → j < n → entry s v i j ≡ unit i j

pub turned : (v : View) (n : ℕ) (s : List Float) → Identity v n s → Identity (flip v) n s
unfolding Identity
turned v n s I i j hi hj = ap (λ (p : ℕ). get_or s p nan) (omega arith) ∙ I j i hj hi ∙ turned-place one j i

-- ---- the solves, on a column of 0.0 and 1.0

module _ (l : List Float) (lv : View) (n : ℕ) (I : Identity lv n l) (x : List Float) (xv : View) (c : ℕ) (bits : (i : ℕ) → i < n → Bit (entry x xv i c)) where
  -- off the diagonal the row is 0.0, so the entry stays
  row_is : (i lo m : ℕ) → i < n → lo + m ≤ n → ((k : ℕ) → k < m → i ≡ lo + k → ⊥) → solved_row l lv i x xv c lo m ≡ entry x xv i c
  unfolding solved_row deduct_of Identity
  row_is i lo m hi hm off =
      ap₂ (div binary64)
      (nothing_off (entry x xv i c) (λ k. terms l lv i x xv c (lo + k)) m (less_zero (entry x xv i c) (bits i hi))
      (λ k h. ap (λ (y : Float). mul binary64 y (entry x xv (lo + k) c)) (I i (lo + k) hi (omega arith) ∙ other_place one i (lo + k) (off k h))
      ∙ zero_times (entry x xv (lo + k) c) (bits (lo + k) (omega arith))))
      (I i i hi hi ∙ same_place one i)
      ∙ by_one (entry x xv i c) (bits i hi)

  lower_is : solve_lower l lv xv c x n ≡ x
  unfolding solve_lower
  lower_is = idle (λ i. place xv i c) (λ i t. solved_row l lv i t xv c 0 i) x n (λ i h. row_is i 0 i h (omega arith) (λ k p e. omega arith))

  upper_is : solve_upper l lv n xv c x n ≡ x
  unfolding solve_upper
  upper_is =
      idle (λ d. place xv (n - (d + 1)) c) (λ d t. solved_row l lv (n - (d + 1)) t xv c (n - (d + 1) + 1) d) x n
      (λ d h. row_is (n - (d + 1)) (n - (d + 1) + 1) d (omega arith) (omega arith) (λ k p e. omega arith))

pub solved-is : (l : List Float) (lv : View) (n : ℕ) → Identity lv n l → (x : List Float) (xv : View) (c : ℕ)
    → ((i : ℕ) → i < n → Bit (entry x xv i c)) → solved l lv n xv c x ≡ x
unfolding solved
solved-is l lv n I x xv c bits = rw (lower_is l lv n I x xv c bits) (upper_is l (flip lv) n (turned lv n l I) x xv c bits)

-- ---- dense identities

abbrev pub identity_of : ℕ → List Float
identity_of n = diagonal_of one n

identity-is : (n : ℕ) → Identity (columns n) n (identity_of n)
unfolding Identity
identity-is n = diagonal-entry one n

pub identity-factor : (n : ℕ) → factor (columns n) n (identity_of n) n ≡ whole (identity_of n)
identity-factor n = diagonal-factor one one one-rooted n

pub identity-solve : (n : ℕ) → solved (identity_of n) (columns n) n (columns n) 0 (replicate n plus_zero) ≡ replicate n plus_zero
unfolding Bit
identity-solve n =
    solved-is (identity_of n) (columns n) n (identity-is n) (replicate n plus_zero) (columns n) 0
    (λ i h. inl (ap (λ (p : ℕ). get_or (replicate n plus_zero) p nan) (omega arith) ∙ get_or-replicate n i plus_zero nan h))

unit_column_is : (n m : ℕ) (t : List Float) → unit_column (columns n) m t n ≡ block_column (columns n) (λ i j old. cond (eqb i j) one plus_zero) m t n
unfolding unit_column block_column
unit_column_is n m t = refl

unit_column_bit : (n m : ℕ) (t : List Float) (i : ℕ) → m < n → i < n → length t ≡ n * n → Bit (entry (unit_column (columns n) m t n) (columns n) i m)
unfolding unit_column on_diagonal
unit_column_bit n m t i hm hi e =
    rw
    (steps-at (λ i. place (columns n) i m) (λ i u. cond (eqb i m) one plus_zero) t i n (λ j p q z. omega arith) hi
    (dense n n (length t) (omega arith) i m hi hm))
    (unit_bit i m)

module _ (n : ℕ) (x : List Float) (long : length x ≡ n * n) where
  -- the columns of the inverse are the unit vectors
  columns-are : (m : ℕ) → m ≤ n → inverted (identity_of n) (columns n) n (columns n) x m ≡ block (columns n) n (λ i j old. cond (eqb i j) one plus_zero) x m
  unfolding inverted sweep block
  columns-are zero h = refl
  columns-are (suc m) h = rw (columns-are m (omega arith)) (last (block (columns n) n (λ i j old. cond (eqb i j) one plus_zero) x m)
      (block-length (columns n) n (λ i j old. cond (eqb i j) one plus_zero) x m ∙ long))
    where
      last : (t : List Float) → length t ≡ n * n → solved (identity_of n) (columns n) n (columns n) m (unit_column (columns n) m t n)
          ≡ block_column (columns n) (λ i j old. cond (eqb i j) one plus_zero) m t n
      last t e = solved-is (identity_of n) (columns n) n (identity-is n) (unit_column (columns n) m t n) (columns n) m
          (λ i p. unit_column_bit n m t i h p e) ∙ unit_column_is n m t

  pub identity-inverse : inverted (identity_of n) (columns n) n (columns n) x n ≡ identity_of n
  unfolding diagonal_of
  identity-inverse = columns-are n (omega arith) ∙ fills n n (λ i j. cond (eqb i j) one plus_zero) x (replicate (n * n) plus_zero) long
      (length-replicate (n * n) plus_zero)

-- ---- zeros are finite

pub zeros-finite : (n : ℕ) → all_finite (replicate n plus_zero) ≡ true
zeros-finite n = all-finite (replicate n plus_zero) (λ k h. ap is_finite (get_or-replicate n k plus_zero nan (omega (arith, length-replicate n plus_zero))))
