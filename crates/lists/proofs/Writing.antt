-- Lists in the first places of an array, grown by one entry at a time. Assumes nothing.
use mathlib.Core.Path.{◌≡◌, refl, ap, ◌∙◌}
use mathlib.Core.Bool.{Bool, true, false, cond}
use mathlib.Core.List.{List, [], ◌∷◌, ◌++◌, map, append-nil, append_assoc}
use Prim.Native.Nat.{ℕ, ◌+◌, ◌≤◌, ◌<◌}
use native.Mathlib.Numerals.{add-one}
use native.Mathlib.Omega.{arith}
use borrow.Author.Tests.{ltb-false}
use lib.Dec.{ltb}
use lib.ListN.{length, take, set}
use lib.Seq.{take-suc-set}
use Rattle.factor.specs.Limits.{max_factors}
use Rattle.schedule.specs.Count.{rising_where}
use Rattle.plan.specs.Pass.{pick_slot, pass_slot}
use Rattle.plan.proofs.Prefixes.{map-append}
use Rattle.plan.proofs.Unions.{rising-more}
use Rattle.lists.specs.Lists.{slot_number, raised}

-- one entry more
grown : (list base : List ℕ) (to x : ℕ) → to < length list → take to list ≡ base → take (to + 1) (set list to x) ≡ base ++ (x ∷ [])
grown list base to x h e = ap (λ (m : ℕ). take m (set list to x)) (add-one to) ∙ take-suc-set list to x h ∙ ap (λ (t : List ℕ). t ++ (x ∷ [])) e

module _ (f : ℕ → ℕ) where
  -- after j turns the members of a set below j follow what stood before
  abbrev pub Put : (p : ℕ → Bool) (list₀ : List ℕ) (at : ℕ) (list : List ℕ) (to j : ℕ) → Type 0
  Put p list₀ at list to j = (to ≤ at + j) × (take to list ≡ take at list₀ ++ map f (rising_where j p))

  module _ (p : ℕ → Bool) (list₀ list l : List ℕ) (at to j : ℕ) (room : at + j < length list) (put : Put p list₀ at list to j) where
    pub put_in : (t : ℕ) → p j ≡ true → l ≡ set list to (f j) → t ≡ to + 1 → Put p list₀ at l t (j + 1)
    put_in t h el et =
        rw (el, et, rising-more p j, h, map-append f (rising_where j p) (j ∷ [])) (
          omega (arith, put.0),
          grown list (take at list₀ ++ map f (rising_where j p)) to (f j) (omega (arith, put.0)) put.1
              ∙ append_assoc (take at list₀) (map f (rising_where j p)) (f j ∷ []),
        )

    pub put_off : (t : ℕ) → p j ≡ false → l ≡ list → t ≡ to → Put p list₀ at l t (j + 1)
    put_off t h el et = rw (el, et, rising-more p j, h, append-nil (rising_where j p)) (omega (arith, put.0), put.1)

-- the slot of a number, and the number that it has among the lists
pub raised_is : (shift s : ℕ) → raised shift s ≡ slot_number shift (pass_slot s)
unfolding raised pass_slot slot_number
raised_is shift s = go (ltb s max_factors) refl
  where
    go : (b : Bool) → ltb s max_factors ≡ b → cond b s (s + shift) ≡ slot_number shift (pick_slot b s)
    go true e = refl
    go false e = omega (arith, ltb-false s max_factors e)
