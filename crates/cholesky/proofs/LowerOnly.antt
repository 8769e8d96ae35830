-- A factorisation reads the lower triangle alone: where two lists agree there, so do the answers and what stands there at the end. Assumes nothing.
use Prim.Native.Nat.{ℕ, zero, suc, ◌+◌, ◌-◌, ◌≤◌, ◌<◌}
use mathlib.Core.Path.{◌≡◌, refl, ap, ap₂, ◌∙◌, sym}
use mathlib.Core.List.{List}
use native.Mathlib.Decide.{ℕ_discrete}
use native.Mathlib.Omega.{arith}
use lib.ListN.{set, get_or, length, length-set}
use lib.Seq.{get_or-set_same, get_or-set_other}
use lib.Ieee.{Float, nan, binary64, mul, div}
use Rattle.std.proofs.Common.{Option, Some, None}
use Rattle.matrix.specs.Views.{place, entry, Inside, flip}
use Rattle.matrix.specs.Sums.{terms, deduct_of}
use Rattle.matrix.specs.Stores.{steps}
use Rattle.matrix.specs.declared.View.{View}
use Rattle.matrix.proofs.Agreement.{deduct-same}
use Rattle.cholesky.specs.Factor.{pivot_of, Left, whole, stuck, below, rooted, factor_column, factor, reduced}
use Rattle.cholesky.specs.Answers.{factored_as, list_of}

-- two lists that hold the same lower triangle, and hold it whole
pub record Alike (v : View) (n : ℕ) (s t : List Float) : Type 0 where
  pub left-inside : Inside v n n (length s)
  pub right_inside : Inside v n n (length t)
  pub same : (i j : ℕ) → j ≤ i → i < n → entry s v i j ≡ entry t v i j

module _ (v : View) (n : ℕ) where
  -- the same store on both sides
  alike_set : (s t : List Float) (a b : ℕ) (x y : Float) → a < n → b < n → x ≡ y → Alike v n s t → Alike v n (set s (place v a b) x) (set t (place v a b) y)
  alike_set s t a b x y ha hb e A =
      record {
        left-inside = λ i j p q. rw length-set (A.left-inside i j p q);
        right_inside = λ i j p q. rw length-set (A.right_inside i j p q);
        same = λ i j p q. at i j p q (ℕ_discrete (place v i j) (place v a b));
      }
    where
      at : (i j : ℕ) → j ≤ i → i < n → Dec (place v i j ≡ place v a b) → entry (set s (place v a b) x) v i j ≡ entry (set t (place v a b) y) v i j
      at i j p q (yes h) = rw h (get_or-set_same s (place v a b) x nan (A.left-inside a b ha hb) ∙ e
          ∙ sym (get_or-set_same t (place v a b) y nan (A.right_inside a b ha hb)))
      at i j p q (no h) = get_or-set_other s (place v a b) (place v i j) x nan h ∙ A.same i j p q ∙ sym (get_or-set_other t (place v a b) (place v i j) y nan h)

  alike_reduced : (s t : List Float) (i j : ℕ) → j ≤ i → i < n → Alike v n s t → reduced s v i j ≡ reduced t v i j
  unfolding reduced deduct_of
  alike_reduced s t i j p q A =
      rw (A.same i j p q)
      (deduct-same (entry t v i j) (λ k. terms s v i s (flip v) j (0 + k)) (λ k. terms t v i t (flip v) j (0 + k)) j
      (λ k h. ap₂ (mul binary64) (A.same i (0 + k) (omega arith) q) (turn s k ∙ A.same j (0 + k) (omega arith) (omega arith) ∙ sym (turn t k))))
    where
      turn : (w : List Float) (k : ℕ) → entry w (flip v) (0 + k) j ≡ entry w v j (0 + k)
      turn w k = ap (λ (p : ℕ). get_or w p nan) (omega arith)

  alike_below : (s t : List Float) (j d : ℕ) → j + d < n → Alike v n s t → Alike v n (below v j s d) (below v j t d)
  unfolding below steps
  alike_below s t j zero h A = A
  alike_below s t j (suc d) h A = more (below v j s d) (below v j t d) (alike_below s t j d (omega arith) A)
    where
      more : (a b : List Float) → Alike v n a b
          → Alike v n (set a (place v (j + suc d) j) (div binary64 (reduced a v (j + suc d) j) (entry a v j j)))
          (set b (place v (j + suc d) j) (div binary64 (reduced b v (j + suc d) j) (entry b v j j)))
      more a b B = alike_set a b (j + suc d) j _ _ h (omega arith) (ap₂ (div binary64) (alike_reduced a b (j + suc d) j (omega arith) h B)
          (B.same j j (omega arith) (omega arith))) B

  -- both are whole, or both are stuck, and the lists are alike
  data Both : Left → Left → Type 0 where
    wholes : (s t : List Float) → Alike v n s t → Both (whole s) (whole t)
    stucks : (s t : List Float) → Alike v n s t → Both (stuck s) (stuck t)

  both-rooted : (s t : List Float) (j d : ℕ) (q : Option Float) → j + d < n → Alike v n s t → Both (rooted v j s d q) (rooted v j t d q)
  unfolding rooted
  both-rooted s t j d (Some r) h A = wholes _ _ (alike_below _ _ j d h (alike_set s t j j r r (omega arith) (omega arith) refl A))
  both-rooted s t j d None h A = stucks s t A

  both_column : (j d : ℕ) → j + d < n → {F G : Left} → Both F G → Both (factor_column v j d F) (factor_column v j d G)
  unfolding factor_column
  both_column j d h (wholes s t A) =
      rw (alike_reduced s t j j (omega arith) (omega arith) A, A.same j j (omega arith) (omega arith))
      (both-rooted s t j d (pivot_of (reduced t v j j) (entry t v j j)) h A)
  both_column j d h (stucks s t A) = stucks s t A

  both-factor : (s t : List Float) (j : ℕ) → j ≤ n → Alike v n s t → Both (factor v n s j) (factor v n t j)
  unfolding factor
  both-factor s t zero h A = wholes s t A
  both-factor s t (suc j) h A = both_column j (n - suc j) (omega arith) (both-factor s t j (omega arith) A)

  both-answer : {F G : Left} → Both F G → (factored_as F ≡ factored_as G) × Alike v n (list_of F) (list_of G)
  both-answer (wholes s t A) = (refl, A)
  both-answer (stucks s t A) = (refl, A)

  pub lower_only : (s t : List Float) → Alike v n s t → (factored_as (factor v n s n) ≡ factored_as (factor v n t n)) × Alike v n (list_of (factor v n s n))
      (list_of (factor v n t n))
  lower_only s t A = both-answer (both-factor s t n (omega arith) A)
