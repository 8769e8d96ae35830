-- How an exchange ends, how long what it leaves is, and that a diagonal and an identity pass. Assumes nothing.
use Prim.Native.Nat.{ℕ, ◌*◌}
use mathlib.Core.Path.{◌≡◌, refl, sym, ◌∙◌}
use mathlib.Core.Bool.{Bool, true, false, cond}
use mathlib.Core.List.{List}
use mathlib.Core.Logic.{◌≢◌}
use native.Mathlib.Omega.{arith}
use lib.Ieee.{Float}
use lib.ListN.{length, replicate, length-replicate}
use Rattle.matrix.specs.Views.{columns}
use Rattle.matrix.specs.Sums.{plus_zero, one}
use Rattle.matrix.specs.Triangles.{diagonal_of}
use Rattle.matrix.specs.Finite.{all_finite}
use Rattle.matrix.specs.declared.View.{View}
use Rattle.matrix.proofs.Entries.{steps-length, sweep-length}
use Rattle.matrix.proofs.Diagonal.{diagonal-finite}
use Rattle.cholesky.specs.Factor.{Left, whole, stuck, factor}
use Rattle.cholesky.specs.Solve.{solve_lower, solve_upper, solved, unit_column, inverted}
use Rattle.cholesky.specs.Forms.{form, pivot, not_finite, finite_form, exchanged_by, exchanged}
use Rattle.std.proofs.Common.{Result, Ok, Err}
use Rattle.cholesky.specs.declared.Fault.{Fault}
use Rattle.cholesky.specs.declared.Fault.TheVariants.{Pivot, NotFinite}
use Rattle.cholesky.proofs.Diagonal.{Rooted, diagonal-factor}
use Rattle.cholesky.proofs.Identity.{identity_of, identity-factor, identity-solve, identity-inverse, zeros-finite}
use Rattle.cholesky.specs.Answers.{factored_as, list_of, told}

-- ---- the ways out

module _ (n : ℕ) (x : List Float) where
  whole_by : (F : Left) (u : Unit {0}) → factored_as F ≡ Ok u
      → exchanged_by n x F ≡ finite_form (solved (list_of F) (columns n) n (columns n) 0 x)
      (inverted (list_of F) (columns n) n (columns n) (replicate (n * n) plus_zero) n)
  unfolding exchanged_by
  whole_by (whole l) u e = refl
  whole_by (stuck l) u e = cc

  stuck_by : (F : Left) (f : Fault) (y z : List Float) → factored_as F ≡ Err f → exchanged_by n x F ≡ told (Err f) y z
  unfolding exchanged_by told
  stuck_by (whole l) f y z e = cc
  stuck_by (stuck l) Pivot y z e = refl
  stuck_by (stuck l) NotFinite y z e = cc

  module _ (m y z : List Float) (r : Result (Unit {0}) Fault) (er : r ≡ factored_as (factor (columns n) n m n)) where
    pub pivot-refused : (f : Fault) → r ≡ Err f → exchanged n x m ≡ told (Err f) y z
    unfolding exchanged
    pivot-refused f e = stuck_by (factor (columns n) n m n) f y z (sym er ∙ e)

    module _ (l z₀ : List Float) (el : l ≡ list_of (factor (columns n) n m n)) (u : Unit {0}) (e : r ≡ Ok u) (ez₀ : z₀ ≡ replicate (n * n) plus_zero)
        (ey : y ≡ solved l (columns n) n (columns n) 0 x) (ez : z ≡ inverted l (columns n) n (columns n) z₀ n) (b : Bool) (eb : b ≡ all_finite y) where
      both : exchanged n x m ≡ finite_form y z
      unfolding exchanged
      both = whole_by (factor (columns n) n m n) u (sym er ∙ e) ∙ sym (rw (ey, ez, ez₀, el))

      pub vector_refused : b ≡ false → exchanged n x m ≡ told (Err NotFinite) y z
      unfolding finite_form told
      vector_refused h = both ∙ simp (sym eb ∙ h)

      module _ (h : b ≡ true) (d : Bool) (ed : d ≡ all_finite z) where
        pub matrix_refused : d ≡ false → exchanged n x m ≡ told (Err NotFinite) y z
        unfolding finite_form told
        matrix_refused g = both ∙ simp (sym eb ∙ h, sym ed ∙ g)

        pub exchange-done : d ≡ true → exchanged n x m ≡ told (Ok tt) y z
        unfolding finite_form told
        exchange-done g = both ∙ simp (sym eb ∙ h, sym ed ∙ g)

-- ---- lengths

solved-length : (l : List Float) (lv : View) (n : ℕ) (xv : View) (c : ℕ) (x : List Float) → length (solved l lv n xv c x) ≡ length x
unfolding solved solve_lower solve_upper
solved-length l lv n xv c x = steps-length _ _ _ n ∙ steps-length _ _ x n

inverted-length : (l : List Float) (lv : View) (n : ℕ) (xv : View) (x : List Float) (m : ℕ) → length (inverted l lv n xv x m) ≡ length x
unfolding inverted unit_column
inverted-length l lv n xv x m = sweep-length _ x m (λ c t. solved-length l lv n xv c (unit_column xv c t n) ∙ steps-length _ _ t n)

-- the other form has a vector as long as the one given, and a matrix of n × n numbers
module _ (n : ℕ) (x y z : List Float) where
  bounded-long : (a b : List Float) → length a ≡ length x → length b ≡ n * n → finite_form a b ≡ form y z → (length y ≡ length x) × (length z ≡ n * n)
  unfolding finite_form
  bounded-long a b la lb e = go (all_finite a) (all_finite b) e
    where
      go : (p q : Bool) → cond p (cond q (form a b) not_finite) not_finite ≡ form y z → (length y ≡ length x) × (length z ≡ n * n)
      go true true h = let ea : a ≡ y = cc in let eb : b ≡ z = cc in (rw ea at la, rw eb at lb)
      go true false h = absurd (let z : ◌≡◌ {A = ℕ} 0 1 = cc in omega arith)
      go false q h = absurd (let z : ◌≡◌ {A = ℕ} 0 1 = cc in omega arith)

  by_long : (F : Left) → exchanged_by n x F ≡ form y z → (length y ≡ length x) × (length z ≡ n * n)
  unfolding exchanged_by
  by_long (whole l) e = bounded-long _ _ (solved-length l (columns n) n (columns n) 0 x)
      (inverted-length l (columns n) n (columns n) (replicate (n * n) plus_zero) n ∙ length-replicate (n * n) plus_zero) e
  by_long (stuck l) e = absurd (let z : ◌≡◌ {A = ℕ} 0 1 = cc in omega arith)

pub exchanged-long : (n : ℕ) (x m y z : List Float) → exchanged n x m ≡ form y z → (length y ≡ length x) × (length z ≡ n * n)
unfolding exchanged
exchanged-long n x m y z e = by_long n x y z (factor (columns n) n m n) e

-- ---- a diagonal of a number that has a root is never refused a pivot

form-or-not : (x m : List Float) → finite_form x m ≢ pivot
unfolding finite_form
form-or-not x m = by (all_finite x) (all_finite m)
  where
    by : (b c : Bool) → cond b (cond c (form x m) not_finite) not_finite ≢ pivot
    by true true e = absurd (let z : ◌≡◌ {A = ℕ} 0 1 = cc in omega arith)
    by true false e = absurd (let z : ◌≡◌ {A = ℕ} 0 1 = cc in omega arith)
    by false c e = absurd (let z : ◌≡◌ {A = ℕ} 0 1 = cc in omega arith)

whole_passes : (n : ℕ) (v l : List Float) → exchanged_by n v (whole l) ≢ pivot
unfolding exchanged_by
whole_passes n v l = form-or-not (solved l (columns n) n (columns n) 0 v) (inverted l (columns n) n (columns n) (replicate (n * n) plus_zero) n)

pub diagonal_passes : (x r : Float) → Rooted x r → (n : ℕ) (v : List Float) → exchanged n v (diagonal_of x n) ≢ pivot
unfolding exchanged
diagonal_passes x r ok n v e = whole_passes n v (diagonal_of r n) (rw (diagonal-factor x r ok n) at e)

-- ---- a vector of zeros and the identity are exchanged at every size: no pivot is refused, and all numbers are finite

pub identity-exchanged : (n : ℕ) → exchanged n (replicate n plus_zero) (identity_of n) ≡ form (replicate n plus_zero) (identity_of n)
unfolding exchanged exchanged_by finite_form
identity-exchanged n =
    simp (
      identity-factor n,
      identity-solve n,
      identity-inverse n (replicate (n * n) plus_zero) (length-replicate (n * n) plus_zero),
      zeros-finite n,
      diagonal-finite one n refl,
    )
