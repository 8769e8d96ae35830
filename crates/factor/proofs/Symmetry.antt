-- What makes a matrix symmetric: the pairs above the diagonal decide; and one whose mirrored entries are the same passes. Assumes nothing.
use Prim.Native.Nat.{ℕ, zero, suc, ◌*◌, ◌<◌}
use mathlib.Core.Path.{◌≡◌, refl, sym, ◌∙◌}
use mathlib.Core.Bool.{Bool, true, false, false≢true, beq}
use mathlib.Core.List.{List, [], ◌∷◌}
use native.Mathlib.Decide.{dec_lt, ℕ_discrete}
use native.Mathlib.Omega.{arith}
use borrow.Author.Tests.{ne_eqb, not-false, not-true}
use lib.Ieee.{Float, nan, inf, fin, up, down, level, eq, ne, is_nan}
use lib.ListN.{length, get_or}
use Rattle.matrix.specs.Views.{entry, columns}
use Rattle.matrix.specs.Finite.{is_finite, all_finite}
use Rattle.matrix.specs.Triangles.{diagonal_of}
use Rattle.matrix.proofs.Dense.{dense}
use Rattle.matrix.proofs.Numbers.{equals_itself}
use Rattle.matrix.proofs.Diagonal.{turned-place, diagonal-length, diagonal-entry, diagonal-finite}
use Rattle.factor.specs.Counting.{all}
use Rattle.factor.specs.Factor.{mirrored, symmetric}
use Rattle.factor.proofs.Counting.{and_left, and_right, same_truth, all-at, all_of}

-- ---- two numbers

beq_turned : (s t : Bool) → beq s t ≡ beq t s
beq_turned true true = refl
beq_turned true false = refl
beq_turned false true = refl
beq_turned false false = refl

level_turned : (s : Bool) (a : ℕ) (t : Bool) (b : ℕ) → level s a t b ≡ level t b s a
level_turned s a t b = go (ℕ_discrete a b)
  where
    go : Dec (a ≡ b) → level s a t b ≡ level t b s a
    go (yes e) = rw (e, beq_turned s t)
    go (no h) = rw (ne_eqb a b h, ne_eqb b a (λ e. h (sym e)))

-- the order doesn't matter
eq_turned : (x y : Float) → eq x y ≡ eq y x
unfolding eq
eq_turned nan nan = refl
eq_turned nan (inf t) = refl
eq_turned nan (fin t n d) = refl
eq_turned (inf s) nan = refl
eq_turned (inf s) (inf t) = beq_turned s t
eq_turned (inf s) (fin t n d) = refl
eq_turned (fin s m e) nan = refl
eq_turned (fin s m e) (inf t) = refl
eq_turned (fin s m e) (fin t n d) = level_turned s (m * up e * down d) t (n * up d * down e)

finite_no_nan : (x : Float) → is_finite x ≡ true → is_nan x ≡ false
unfolding is_nan
finite_no_nan nan h = absurd (false≢true h)
finite_no_nan (inf s) h = refl
finite_no_nan (fin s m e) h = refl

-- what a comparison of two numbers read tells of the entries
module _ {x y a b : Float} (ex : x ≡ a) (ey : y ≡ b) where
  pub differ : ne x y ≡ true → eq a b ≡ false
  unfolding ne
  differ h = rw (ex, ey) at (not-true (eq x y) h)

  pub agree : ne x y ≡ false → eq a b ≡ true
  unfolding ne
  agree h = rw (ex, ey) at (not-false (eq x y) h)

-- ---- a matrix of n rows and columns

finite-at : (s : List Float) (k : ℕ) → all_finite s ≡ true → k < length s → is_finite (get_or s k nan) ≡ true
unfolding all_finite
finite-at [] k h l = absurd (omega arith)
finite-at (x ∷ s) zero h l = and_left (is_finite x) (all_finite s) h
finite-at (x ∷ s) (suc k) h l = finite-at s k (and_right (is_finite x) (all_finite s) h) (omega arith)

-- each pair compares equal
pub symmetric-at : (n : ℕ) (s : List Float) → symmetric n s ≡ true → (i j : ℕ) → i < n → j < n → mirrored n s i j ≡ true
unfolding symmetric
symmetric-at n s h i j li lj = all-at _ n i (all-at _ n j h lj) li

pub symmetric_of : (n : ℕ) (s : List Float) → ((i j : ℕ) → i < n → j < n → mirrored n s i j ≡ true) → symmetric n s ≡ true
unfolding symmetric
symmetric_of n s h = all_of _ n (λ j lj. all_of _ n (λ i li. h i j li lj))

module _ (n : ℕ) (s : List Float) (long : length s ≡ n * n) (finite : all_finite s ≡ true) where
  itself : (i j : ℕ) → i < n → j < n → eq (entry s (columns n) i j) (entry s (columns n) i j) ≡ true
  itself i j li lj = equals_itself _ (finite_no_nan _ (finite-at s _ finite (dense n n (length s) (omega (arith, long)) i j li lj)))

  module _ (h : all (λ j. all (λ i. mirrored n s i j) j) n ≡ true) where
    above : (i j : ℕ) → i < j → j < n → mirrored n s i j ≡ true
    above i j l k = all-at _ j i (all-at _ n j h k) l

    everywhere : (i j : ℕ) → i < n → j < n → mirrored n s i j ≡ true
    everywhere i j li lj = by_order (dec_lt i j) (dec_lt j i)
      where
        by_order : Dec (i < j) → Dec (j < i) → mirrored n s i j ≡ true
        by_order (yes l) d = above i j l lj
        by_order (no h) (yes l) = eq_turned (entry s (columns n) i j) (entry s (columns n) j i) ∙ above j i l li
        by_order (no h) (no k) = let e : i ≡ j = omega arith in rw e (itself j j lj lj)

  -- the pairs above the diagonal decide
  pub above_decides : symmetric n s ≡ all (λ j. all (λ i. mirrored n s i j) j) n
  above_decides =
      same_truth (symmetric n s) (all (λ j. all (λ i. mirrored n s i j) j) n)
      (λ h. all_of _ n (λ j lj. all_of _ j (λ i li. symmetric-at n s h i j (omega arith) lj)))
      (λ h. symmetric_of n s (everywhere h))

  -- one whose mirrored entries are the same is symmetric
  pub same-mirrored : ((i j : ℕ) → i < n → j < n → entry s (columns n) i j ≡ entry s (columns n) j i) → symmetric n s ≡ true
  same-mirrored h = symmetric_of n s (λ i j li lj. rw (h i j li lj) (itself j i lj li))

-- a variance that is made where none is given passes
pub diagonal-symmetric : (x : Float) (n : ℕ) → is_finite x ≡ true → symmetric n (diagonal_of x n) ≡ true
diagonal-symmetric x n h = same-mirrored n (diagonal_of x n) (diagonal-length x n) (diagonal-finite x n h)
    (λ i j li lj. diagonal-entry x n i j li lj ∙ turned-place x i j ∙ sym (diagonal-entry x n j i lj li))
