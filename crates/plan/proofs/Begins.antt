-- The pass before its first step, and along an order.
-- Assumes nothing.
use mathlib.Core.Path.{◌≡◌, refl, sym, ap, ap₂, subst, ◌∙◌}
use mathlib.Core.Bool.{Bool}
use mathlib.Core.List.{List, [], ◌∷◌, ◌++◌, map, reverse, reverse_aux}
use Prim.Native.Nat.{ℕ, suc, ◌+◌, ◌≤◌, ◌<◌}
use native.Mathlib.Numerals.{add-one}
use native.Mathlib.Decide.{dec_lt}
use native.Mathlib.Omega.{arith}
use borrow.Author.Tests.{lt-ltb}
use lib.Dec.{T}
use lib.ListN.{length, get_or, take, replicate, length-replicate, get_or-replicate, get_or-eq_default, length-reverse}
use lib.Seq.{take_at, drop_at, get_or-take, take-suc, length-take-le}
use Rattle.factor.specs.Limits.{max_variables, max_factors}
use Rattle.schedule.specs.Count.{mem, from}
use Rattle.schedule.specs.Pass.{Slot, original, closed, slot_keys, state_after, step, full_pass}
use Rattle.plan.specs.Limits.{pass_slots}
use Rattle.plan.specs.Mask.{has}
use Rattle.plan.specs.Pass.{pick_slot, pass_slot, mask_at, messages_of, Means, Steps, Live, Order, Agrees}
use Rattle.plan.specs.Pass.{Begins, Passes}
use Rattle.plan.specs.declared.pass.Pass.{Pass}
use Rattle.plan.proofs.Digits.{has-zero}
use Rattle.plan.proofs.Prefixes.{map-take}
use Rattle.plan.proofs.Membership.{mem-nil}

slot_orig : (x : ℕ) → x < max_factors → pass_slot x ≡ original x
unfolding pass_slot
slot_orig x h = ap (λ (b : Bool). pick_slot b x) (lt-ltb x max_factors h)

originals : (l : List ℕ) → ((i : ℕ) → i < length l → get_or l i 0 < max_factors) → map pass_slot l ≡ map original l
originals [] h = refl
originals (x ∷ l) h = ap₂ (λ (s : Slot) (t : List Slot). s ∷ t) (slot_orig x (h 0 (omega arith))) (originals l (λ i k. h (suc i) (omega arith)))

pub zero-at : (n i : ℕ) → ◌≡◌ {A = ℕ} (get_or (replicate n 0) i 0) 0
zero-at n i = go (dec_lt i n)
  where
    go : Dec (i < n) → ◌≡◌ {A = ℕ} (get_or (replicate n 0) i 0) 0
    go (yes h) = get_or-replicate n i 0 0 h
    go (no h) = get_or-eq_default (replicate n 0) 0 (omega (arith, length-replicate {A = ℕ} n 0))

abbrev pub begun : List ℕ → List ℕ → ℕ → Pass
begun masks slots count = record {
  masks = masks;
  cleared = replicate max_variables 0;
  steps = replicate max_variables 0;
  starts = replicate max_variables 0;
  ends = replicate max_variables 0;
  count = 0;
  active = 0;
  board = record { slots = slots; used = count; content = replicate pass_slots 0; filled = 0 };
}

module _ (keys live slots : List ℕ) (count : ℕ) (long : length keys ≡ max_factors) (long' : length live ≡ max_factors) (lv : Live live count)
    (first : take count slots ≡ take count live) where
  -- the masks of the originals, and none yet of a message
  abbrev masks : List ℕ
  masks = keys ++ replicate max_variables 0

  masks-are : (K : ℕ → List ℕ) → Agrees keys K → (s : Slot) (j : ℕ) → has j (mask_at masks s) ≡ mem j (slot_keys K [] s)
  unfolding mask_at slot_keys
  masks-are K h (original i) j = ap (λ (l : List ℕ). has j (get_or l i 0)) (take_at keys (replicate max_variables 0) max_factors long) ∙ h i j
  masks-are K h (closed i) j =
      ap (λ (l : List ℕ). has j (get_or l i 0)) (drop_at keys (replicate max_variables 0) max_factors long)
      ∙ ap (has j) (zero-at max_variables i) ∙ has-zero j ∙ sym (mem-nil j)

  pub begins : Begins keys live count (begun masks slots count)
  unfolding state_after messages_of from
  begins n K f h = record {
    few = f;
    keys = λ j. has-zero j ∙ sym (mem-nil j);
    below = λ j t. absurd (subst T (has-zero j) t);
    slots = sym (map-take pass_slot count slots) ∙ ap (map pass_slot) first
        ∙ originals (take count live) (λ i k. let l : i < count = omega (arith, length-take-le count live (omega (arith, lv.few))) in rw
        (get_or-take count live i 0 l) (lv.low i l));
    messages = refl;
    masks = masks-are K h;
  }

-- ---- along an order
pub reverse_on : {A : Type 0} (a : List A) (x : A) (r : List A) → reverse_aux (a ++ (x ∷ [])) r ≡ x ∷ reverse_aux a r
reverse_on [] x r = refl
reverse_on (y ∷ a) x r = reverse_on a x (y ∷ r)

pub reverse-take : (l : List ℕ) (t : ℕ) → t < length l → reverse (take (t + 1) l) ≡ get_or l t 0 ∷ reverse (take t l)
reverse-take l t h = ap (λ (n : ℕ). reverse (take n l)) (add-one t) ∙ ap reverse (take-suc l t 0 h) ∙ reverse_on (take t l) (get_or l t 0) []

-- from the pass p₀ before the first step, p is the pass before the step t
abbrev pub Along : List ℕ → ℕ → Pass → ℕ → Pass → Type 0
Along order n p₀ t p = (K : ℕ → List ℕ) (N : List ℕ) → Means n K p₀ (state_after n K N []) → Means n K p (state_after n K N (reverse (take t order)))

pub along-more : (order : List ℕ) (n : ℕ) (p₀ : Pass) (t : ℕ) (p r : Pass) → length order ≡ max_variables → Order order n → t < n → Along order n p₀ t p
    → Steps (get_or order t 0) t p r → Along order n p₀ (t + 1) r
unfolding state_after
along-more order n p₀ t p r long o h inv s K N m =
    subst (λ (l : List ℕ). Means n K r (state_after n K N l)) (sym (reverse-take order t (omega (arith, o.few))))
    (subst (λ (k : ℕ). Means n K r (step n K k (get_or order t 0) (state_after n K N (reverse (take t order)))))
    (sym (length-reverse (take t order) ∙ length-take-le t order (omega (arith, o.few))))
    (s n K (state_after n K N (reverse (take t order))) (o.low t h) (inv K N m)))

pub along-done : (keys live order : List ℕ) (count n : ℕ) (p₀ p : Pass) → n ≤ max_variables → Begins keys live count p₀ → Along order n p₀ n p
    → Passes keys (take count live) (take n order) n p
unfolding full_pass
along-done keys live order count n p₀ p f b inv K ag = (inv K (take count live) (b n K f ag)).messages
