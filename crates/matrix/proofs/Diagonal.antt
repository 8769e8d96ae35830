-- What a diagonal holds, entry by entry: x where the row is the column, and +0.0 elsewhere. Assumes nothing.
use Prim.Native.Nat.{ℕ, ◌*◌, ◌/◌, ◌%◌, ◌<◌}
use mathlib.Core.Path.{◌≡◌, refl, sym, ◌∙◌}
use mathlib.Core.Bool.{Bool, true, false, cond}
use native.Mathlib.Decide.{ℕ_discrete}
use native.Mathlib.Omega.{arith}
use borrow.Author.Tests.{eq-eqb, ne_eqb}
use lib.Dec.{eqb}
use lib.ListN.{length, get_or, replicate, length-replicate}
use lib.Ieee.{Float, nan}
use Rattle.matrix.specs.Views.{entry, columns}
use Rattle.matrix.specs.Sums.{plus_zero}
use Rattle.matrix.specs.Triangles.{diagonal_of}
use Rattle.matrix.specs.Finite.{is_finite, all_finite}
use Rattle.matrix.proofs.Entries.{apart, block-length, block_at}
use Rattle.matrix.proofs.Dense.{dense, whole-at}
use Rattle.matrix.proofs.Numbers.{all-finite}

-- ---- an entry

unfoldable pub on_diagonal : (x : Float) (i j : ℕ) → Float
on_diagonal x i j = cond (eqb i j) x plus_zero

pub same_place : (x : Float) (i : ℕ) → on_diagonal x i i ≡ x
unfolding on_diagonal
same_place x i = rw (eq-eqb i i refl)

pub other_place : (x : Float) (i j : ℕ) → (i ≡ j → ⊥) → on_diagonal x i j ≡ plus_zero
unfolding on_diagonal
other_place x i j h = rw (ne_eqb i j h)

pub turned-place : (x : Float) (i j : ℕ) → on_diagonal x i j ≡ on_diagonal x j i
turned-place x i j = go (ℕ_discrete i j)
  where
    go : Dec (i ≡ j) → on_diagonal x i j ≡ on_diagonal x j i
    go (yes e) = rw e
    go (no h) = other_place x i j h ∙ sym (other_place x j i (λ e. h (sym e)))

finite-place : (x : Float) (i j : ℕ) → is_finite x ≡ true → is_finite (on_diagonal x i j) ≡ true
unfolding on_diagonal
finite-place x i j h = go (eqb i j)
  where
    go : (b : Bool) → is_finite (cond b x plus_zero) ≡ true
    go true = h
    go false = refl

-- ---- the whole

module _ (x : Float) (n : ℕ) where
  pub diagonal-length : length (diagonal_of x n) ≡ n * n
  unfolding diagonal_of
  diagonal-length = block-length (columns n) n (λ i j old. cond (eqb i j) x plus_zero) (replicate (n * n) plus_zero) n ∙ length-replicate (n * n) plus_zero

  pub diagonal-entry : (i j : ℕ) → i < n → j < n → entry (diagonal_of x n) (columns n) i j ≡ on_diagonal x i j
  unfolding diagonal_of on_diagonal
  diagonal-entry i j hi hj =
      block_at (columns n) n (λ i j old. cond (eqb i j) x plus_zero) (replicate (n * n) plus_zero) i j n (apart (columns n) n n refl (omega arith)) hi hj
      (dense n n (length (replicate (n * n) plus_zero)) (omega (arith, length-replicate (n * n) plus_zero)) i j hi hj)

  -- by its places, column by column
  pub diagonal-at : (k : ℕ) → k < n * n → get_or (diagonal_of x n) k nan ≡ on_diagonal x (k % n) (k / n)
  diagonal-at k h = let w = whole-at n n k h in rw w.3 at (diagonal-entry (k % n) (k / n) w.1 w.2)

  pub diagonal-finite : is_finite x ≡ true → all_finite (diagonal_of x n) ≡ true
  diagonal-finite h = all-finite (diagonal_of x n)
      (λ k l. rw (diagonal-at k (omega (arith, diagonal-length))) (finite-place x (k % n) (k / n) h))
