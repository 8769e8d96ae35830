-- Cholesky of a diagonal of one number, of any dimension: no pivot is refused, and the factor is the diagonal of its root. Assumes nothing.
use Prim.Native.Nat.{ℕ, zero, suc, ◌+◌, ◌-◌, ◌*◌, ◌/◌, ◌%◌, ◌≤◌, ◌<◌}
use mathlib.Core.Path.{◌≡◌, refl, ap, ap₂, sym, ◌∙◌}
use mathlib.Core.List.{List}
use native.Mathlib.Decide.{ℕ_discrete}
use native.Mathlib.Omega.{arith}
use lib.ListN.{get_or, length}
use lib.Seq.{set-get_or, ext_get_or}
use lib.Ieee.{Float, nan, binary64, sub, mul, div, lt}
use Rattle.root.specs.Root.{root_of}
use Rattle.std.proofs.Common.{Some}
use Rattle.matrix.specs.Views.{place, entry, flip, columns, Apart}
use Rattle.matrix.specs.Sums.{plus_zero, one, terms, deduct, deduct_of}
use Rattle.matrix.specs.Stores.{steps}
use Rattle.matrix.specs.Triangles.{filled_diagonal, diagonal_of}
use Rattle.matrix.proofs.Entries.{steps-length, steps_other, steps-at, apart}
use Rattle.matrix.proofs.Dense.{dense, whole-at}
use Rattle.matrix.proofs.Diagonal.{on_diagonal, same_place, other_place, diagonal-length, diagonal-entry, diagonal-at}
use Rattle.cholesky.specs.Factor.{pivot_of, whole, below, rooted, factor_column, factor, reduced}

-- ---- nothing is taken off, and nothing changes

-- terms that are all 0.0 take nothing off
pub nothing_off : (x : Float) (f : ℕ → Float) (n : ℕ) → sub binary64 x plus_zero ≡ x → ((k : ℕ) → k < n → f k ≡ plus_zero) → deduct x f n ≡ x
unfolding deduct
nothing_off x f zero b h = refl
nothing_off x f (suc n) b h = rw (nothing_off x f n b (λ k l. h k (omega arith)), h n (omega arith)) b

-- stores that put back what stands there change nothing
pub idle : (at : ℕ → ℕ) (f : ℕ → List Float → Float) (s : List Float) (n : ℕ) → ((k : ℕ) → k < n → f k s ≡ get_or s (at k) nan) → steps at f s n ≡ s
unfolding steps
idle at f s zero h = refl
idle at f s (suc n) h = rw (idle at f s n (λ k l. h k (omega arith)), h n (omega arith)) (set-get_or s (at n) nan)

zero_by_zero : mul binary64 plus_zero plus_zero ≡ plus_zero
unfolding mul
zero_by_zero = refl

zero-kept : sub binary64 plus_zero plus_zero ≡ plus_zero
unfolding sub
zero-kept = refl

-- ---- the factor

-- r is the root of x, from which taking 0.0 off changes nothing; and 0.0 divided by r is 0.0
pub record Rooted (x r : Float) : Type 0 where
  pub root : pivot_of x x ≡ Some r
  pub kept : sub binary64 x plus_zero ≡ x
  pub zero_over : div binary64 plus_zero r ≡ plus_zero

module _ (x r : Float) (ok : Rooted x r) (n : ℕ) where
  -- what j columns leave
  abbrev left : ℕ → List Float
  left j = filled_diagonal (columns n) r (diagonal_of x n) j

  left-long : (j : ℕ) → length (left j) ≡ n * n
  unfolding filled_diagonal
  left-long j = steps-length (λ d. place (columns n) d d) (λ d t. r) (diagonal_of x n) j ∙ diagonal-length x n

  separate : Apart (columns n) n n
  separate = apart (columns n) n n refl (omega arith)

  -- beside the diagonal 0.0 stands as before
  beside : (j i k : ℕ) → j ≤ n → i < n → k < n → (i ≡ k → ⊥) → entry (left j) (columns n) i k ≡ plus_zero
  unfolding filled_diagonal
  beside j i k hj hi hk h =
      steps_other (λ d. place (columns n) d d) (λ d t. r) (diagonal_of x n) (place (columns n) i k) j
      (λ d l e. let w = separate d d i k (omega arith) (omega arith) hi hk e in h (sym w.0 ∙ w.1))
      ∙ diagonal-entry x n i k hi hk
      ∙ other_place x i k h

  -- from column j on the diagonal is as given, and before it the root stands there
  ahead : (j i : ℕ) → j ≤ i → i < n → entry (left j) (columns n) i i ≡ x
  unfolding filled_diagonal
  ahead j i l hi =
      steps_other (λ d. place (columns n) d d) (λ d t. r) (diagonal_of x n) (place (columns n) i i) j
      (λ d m e. let w = separate d d i i (omega arith) (omega arith) hi hi e in omega (arith, w.0))
      ∙ diagonal-entry x n i i hi hi
      ∙ same_place x i

  behind : (j i : ℕ) → i < j → j ≤ n → entry (left j) (columns n) i i ≡ r
  unfolding filled_diagonal
  behind j i l hj =
      steps-at (λ d. place (columns n) d d) (λ d t. r) (diagonal_of x n) i j
      (λ d m q e. let w = separate d d i i (omega arith) (omega arith) (omega arith) (omega arith) e in omega (arith, w.0)) l
      (dense n n (length (diagonal_of x n)) (omega (arith, diagonal-length x n)) i i (omega arith) (omega arith))

  -- left of column j both rows are 0.0, so the entry stays
  stays : (m i j : ℕ) → m ≤ n → j ≤ i → i < n → sub binary64 (entry (left m) (columns n) i j) plus_zero ≡ entry (left m) (columns n) i j
      → reduced (left m) (columns n) i j ≡ entry (left m) (columns n) i j
  unfolding reduced deduct_of
  stays m i j hm l hi b =
      nothing_off (entry (left m) (columns n) i j) (λ k. terms (left m) (columns n) i (left m) (flip (columns n)) j (0 + k)) j b
      (λ k h. ap₂ (mul binary64) (beside m i (0 + k) hm hi (omega arith) (λ e. omega arith))
      (ap (λ (p : ℕ). get_or (left m) p nan) (omega arith) ∙ beside m j k hm (omega arith) (omega arith) (λ e. omega arith))
      ∙ zero_by_zero)

  below-is : (j d : ℕ) → j + d < n → below (columns n) j (left (suc j)) d ≡ left (suc j)
  unfolding below
  below-is j d h =
      idle (λ k. place (columns n) (j + suc k) j) (λ k t. div binary64 (reduced t (columns n) (j + suc k) j) (entry t (columns n) j j)) (left (suc j)) d
      (λ k l.
      let z : entry (left (suc j)) (columns n) (j + suc k) j ≡ plus_zero =
      beside (suc j) (j + suc k) j (omega arith) (omega arith) (omega arith) (λ e. omega arith) in
      ap₂ (div binary64) (stays (suc j) (j + suc k) j (omega arith) (omega arith) (omega arith) (rw z zero-kept) ∙ z)
      (behind (suc j) j (omega arith) (omega arith))
      ∙ ok.zero_over
      ∙ sym z)

  column_is : (j d : ℕ) → j + d < n → factor_column (columns n) j d (whole (left j)) ≡ whole (left (suc j))
  unfolding factor_column rooted filled_diagonal steps
  column_is j d h =
      let e : entry (left j) (columns n) j j ≡ x = ahead j j (omega arith) (omega arith) in
      rw (stays j j j (omega arith) (omega arith) (omega arith) (rw e ok.kept) ∙ e, e, ok.root) (ap whole (below-is j d h))

  columns-are : (j : ℕ) → j ≤ n → factor (columns n) n (diagonal_of x n) j ≡ whole (left j)
  unfolding factor filled_diagonal steps
  columns-are zero h = refl
  columns-are (suc j) h = rw (columns-are j (omega arith)) (column_is j (n - suc j) (omega arith))

  -- with all columns done the root stands on the whole diagonal
  all-rooted : left n ≡ diagonal_of r n
  all-rooted =
      ext_get_or nan (left n) (diagonal_of r n) (left-long n ∙ sym (diagonal-length r n))
      (λ k l.
      let h : k < n * n = omega (arith, left-long n) in
      let w = whole-at n n k h in
      (rw w.3 at (at_place (k % n) (k / n) w.1 w.2)) ∙ sym (diagonal-at r n k h))
    where
      at_place : (i j : ℕ) → i < n → j < n → entry (left n) (columns n) i j ≡ on_diagonal r i j
      at_place i j hi hj = go (ℕ_discrete i j)
        where
          go : Dec (i ≡ j) → entry (left n) (columns n) i j ≡ on_diagonal r i j
          go (yes e) = rw e (behind n j hj (omega arith) ∙ sym (same_place r j))
          go (no h) = beside n i j (omega arith) hi hj h ∙ sym (other_place r i j h)

  pub diagonal-factor : factor (columns n) n (diagonal_of x n) n ≡ whole (diagonal_of r n)
  diagonal-factor = columns-are n (omega arith) ∙ ap whole all-rooted

pub one-rooted : Rooted one one
unfolding pivot_of root_of sub mul div lt
one-rooted = record { root = refl; kept = refl; zero_over = refl }
