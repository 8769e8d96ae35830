-- The walk as a loop over an array of slots: what is done, and what is still to do from the place i on.
-- Assumes nothing.
use mathlib.Core.Path.{◌≡◌, refl, sym, ap, ap₂, ◌∙◌}
use mathlib.Core.Bool.{Bool, true, false}
use mathlib.Core.List.{List, [], ◌∷◌, ◌++◌}
use Prim.Native.Nat.{ℕ, zero, suc, ◌-◌, ◌≤◌, ◌<◌}
use native.Mathlib.Omega.{arith}
use lib.ListN.{length, get_or, take, drop, set}
use lib.Seq.{take-suc, length-take-le, drop-append-le, drop-cons, get_or-take, get_or-drop, take-set-le, take-suc-set}
use borrow.Author.Tests.{ltb-true, ltb-false}
use lib.Dec.{ltb}
use Rattle.factor.specs.Limits.{max_factors}
use Rattle.schedule.specs.Pass.{Slot, Walked, last_of, init_of, filled, walk}
use Rattle.schedule.proofs.Walks.{ahead, walk_on_taken, walk_on_left}
use Rattle.plan.specs.Pass.{pick_slot, pass_slot, mask_at}

-- the taken slots are those of the content from f₀ on; the first i slots stay
abbrev pub state : (Slot → Bool) → List Slot → List Slot → ℕ → ℕ → ℕ → ℕ → Walked
state p S C i u f f₀ = ahead (drop f₀ (take f C)) (take i S) (walk p (length (drop i (take u S))) (drop i (take u S)))

last-take : (r : Slot) (R : List Slot) (v : ℕ) (d : Slot) → v ≤ length R → last_of r (take v R) ≡ get_or (r ∷ R) v d
last-take r R zero d h = refl
last-take r [] (suc v) d h = absurd (omega arith)
last-take r (q ∷ R) (suc v) d h = last-take q R v d (omega arith)

init_take' : (r : Slot) (R : List Slot) (v : ℕ) → v ≤ length R → init_of r (take v R) ≡ take v (r ∷ R)
init_take' r R zero h = refl
init_take' r [] (suc v) h = absurd (omega arith)
init_take' r (q ∷ R) (suc v) h = ap (λ (t : List Slot). r ∷ t) (init_take' q R v (omega arith))

-- the last slot stands in the place i
pub filled-drop : (S : List Slot) (i u : ℕ) (d : Slot) → i ≤ u → u < length S → drop i (take u (set S i (get_or S u d))) ≡ filled (drop (suc i) (take (suc u) S))
unfolding filled
filled-drop [] i u d h k = absurd (omega arith)
filled-drop (s ∷ S) zero zero d h k = refl
filled-drop (s ∷ []) zero (suc u) d h k = absurd (omega arith)
filled-drop (s ∷ r ∷ R) zero (suc u) d h k =
    ap₂ (λ (x : Slot) (t : List Slot). x ∷ t) (sym (last-take r R u d (omega arith))) (sym (init_take' r R u (omega arith)))
filled-drop (s ∷ S) (suc i) zero d h k = absurd (omega arith)
filled-drop (s ∷ S) (suc i) (suc u) d h k = filled-drop S i u d (omega arith) (omega arith)

rest_cons : (S : List Slot) (i u : ℕ) (d : Slot) → i < u → u ≤ length S → drop i (take u S) ≡ get_or S i d ∷ drop (suc i) (take u S)
rest_cons S i u d h k =
    drop-cons (take u S) i d (omega (arith, length-take-le u S k)) ∙ ap (λ (x : Slot). x ∷ drop (suc i) (take u S)) (get_or-take u S i d h)

module _ (p : Slot → Bool) (S C : List Slot) (i f f₀ : ℕ) (d : Slot) where
  pub take_turn : (u : ℕ) → i ≤ u → u < length S → f < length C → f₀ ≤ f → p (get_or S i d) ≡ true
      → state p S C i (suc u) f f₀ ≡ state p (set S i (get_or S u d)) (set C f (get_or S i d)) i u (suc f) f₀
  take_turn u h k m l e =
      ap (λ (r : List Slot). ahead (drop f₀ (take f C)) (take i S) (walk p (length r) r)) (rest_cons S i (suc u) d (omega arith) (omega arith))
      ∙ walk_on_taken p (drop f₀ (take f C)) (take i S) (get_or S i d) (drop (suc i) (take (suc u) S)) e
      ∙ ap (λ (r : List Slot). ahead (drop f₀ (take f C) ++ (get_or S i d ∷ [])) (take i S) (walk p (length r) r)) (sym (filled-drop S i u d h k))
      ∙ ap₂ (λ (x y : List Slot). ahead x y (walk p (length (drop i (take u (set S i (get_or S u d))))) (drop i (take u (set S i (get_or S u d))))))
      (sym (drop-append-le f₀ (take f C) (get_or S i d ∷ []) (omega (arith, length-take-le f C (omega arith))))
      ∙ ap (drop f₀) (sym (take-suc-set C f (get_or S i d) m)))
      (sym (take-set-le i S i (get_or S u d) (omega arith)))

  pub keep_turn : (u : ℕ) → i < u → u ≤ length S → p (get_or S i d) ≡ false → state p S C i u f f₀ ≡ state p S C (suc i) u f f₀
  keep_turn u h k e =
      ap (λ (r : List Slot). ahead (drop f₀ (take f C)) (take i S) (walk p (length r) r)) (rest_cons S i u d h k)
      ∙ walk_on_left p (drop f₀ (take f C)) (take i S) (get_or S i d) (drop (suc i) (take u S)) e
      ∙ ap (λ (x : List Slot). ahead (drop f₀ (take f C)) x (walk p (length (drop (suc i) (take u S))) (drop (suc i) (take u S))))
      (sym (take-suc S i d (omega arith)))

-- the mask of a slot by its number
pub mask_at_lem : (masks : List ℕ) (x : ℕ) → mask_at masks (pass_slot x) ≡ get_or masks x 0
unfolding pass_slot mask_at
mask_at_lem masks x = go (ltb x max_factors) refl
  where
    go : (b : Bool) → ltb x max_factors ≡ b → mask_at masks (pick_slot b x) ≡ get_or masks x 0
    go true e = get_or-take max_factors masks x 0 (ltb-true x max_factors e)
    go false e = get_or-drop max_factors masks (x - max_factors) 0 ∙ ap (λ (n : ℕ). get_or masks n 0) (omega (arith, ltb-false x max_factors e))
