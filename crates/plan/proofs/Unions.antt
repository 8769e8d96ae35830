-- Sets that a loop makes: of masks, of numbers, of messages.
-- Assumes nothing.
use mathlib.Core.Path.{◌≡◌, refl, sym, ap, ap₂, subst, ◌∙◌}
use mathlib.Core.Bool.{Bool, true, false, ◌||◌}
use mathlib.Core.List.{List, [], ◌∷◌, ◌++◌, map, append-nil}
use Prim.Native.Nat.{ℕ, zero, suc, ◌+◌, ◌-◌, ◌^◌, ◌≤◌, ◌<◌}
use native.Mathlib.Numerals.{add-one}
use native.Mathlib.Nat.{zero-add}
use native.Mathlib.Omega.{arith}
use borrow.Author.Tests.{lt-ltb, le-ltb}
use lib.Bits.{bit_and, bit_or}
use lib.Dec.{T, eqb, eqb→eq, eqb_refl, not_T}
use lib.ListN.{length, get_or, take}
use lib.Seq.{take-suc, get_or-drop}
use Rattle.factor.specs.Limits.{max_variables, max_factors}
use Rattle.schedule.specs.Count.{mem, any, put_if, keep, from, joined, rising_where}
use Rattle.schedule.specs.Pass.{Slot, original, closed, ClosedFactor, no_message, at}
use Rattle.schedule.specs.Gather.{messages_in}
use Rattle.schedule.proofs.Counts.{and_i, and_l, and_r, keep_append}
use Rattle.schedule.proofs.Runs.{msgs_append}
use Rattle.schedule.proofs.Sums.{joined-append, from_snoc}
use Rattle.plan.specs.Mask.{has, keys_in, Union, Set}
use Rattle.plan.specs.Pass.{pick_slot, pass_slot, msg_at, messages_of}
use Rattle.plan.specs.declared.pass.Pass.{Pass}
use Rattle.plan.proofs.Digits.{has-and, has-or, has-zero, has-single, some-has}
use Rattle.plan.proofs.Prefixes.{or-false, any-take, map-append}
use Rattle.plan.proofs.Membership.{sure_true, sure_false, mem-nil, mem-cons, mem-append, mem-rising, rising_on}

-- ---- of masks
pub union_more : (masks numbers : List ℕ) (i r : ℕ) → i < length numbers → Union masks 0 i numbers r
    → Union masks 0 (i + 1) numbers (bit_or r (get_or masks (get_or numbers i 0) 0))
union_more masks numbers i r h inv j =
    has-or j r (get_or masks (get_or numbers i 0) 0)
    ∙ ap (λ (t : Bool). t || has j (get_or masks (get_or numbers i 0) 0)) (inv j)
    ∙ sym (any-take (λ x. has j (get_or masks x 0)) numbers i 0 h)

pub union-none : (masks numbers : List ℕ) → Union masks 0 0 numbers 0
unfolding any
union-none masks numbers j = has-zero j

-- ---- of numbers
pub set-none : Set [] 0
set-none j = has-zero j ∙ sym (mem-nil j)

pub set-append : (a b : List ℕ) (r s : ℕ) → Set a r → Set b s → Set (a ++ b) (bit_or r s)
set-append a b r s h k j = has-or j r s ∙ ap₂ (λ (x y : Bool). x || y) (h j) (k j) ∙ sym (mem-append j a b)

-- a one, shifted by a number that was read from x
pub bit : {s x y : ℕ} → s ≡ 2 ^ y → y ≡ x → s ≡ 2 ^ x
bit e h = e ∙ ap (λ (k : ℕ). 2 ^ k) h

set-one : (x r : ℕ) → r ≡ 2 ^ x → Set (x ∷ []) r
set-one x r e j = ap (has j) e ∙ has-single j x ∙ sym (or-false (eqb j x)) ∙ ap (λ (t : Bool). eqb j x || t) (sym (mem-nil j)) ∙ sym (mem-cons j x [])

pub set-take : (l : List ℕ) (i r s : ℕ) → i < length l → Set (take i l) r → s ≡ 2 ^ get_or l i 0 → Set (take (i + 1) l) (bit_or r s)
set-take l i r s h inv e =
    subst (λ (t : List ℕ). Set t (bit_or r s)) (sym (ap (λ (n : ℕ). take n l) (add-one i) ∙ take-suc l i 0 h))
    (set-append (take i l) (get_or l i 0 ∷ []) r s inv (set-one (get_or l i 0) s e))

-- ---- a slot by its number
pub slot_low : (x : ℕ) → x < max_factors → pass_slot x ≡ original x
unfolding pass_slot
slot_low x h = ap (λ (b : Bool). pick_slot b x) (lt-ltb x max_factors h)

pub slot_high : (x : ℕ) → max_factors ≤ x → pass_slot x ≡ closed (x - max_factors)
unfolding pass_slot
slot_high x h = ap (λ (b : Bool). pick_slot b x) (le-ltb x max_factors h)

-- the messages among the first slots
module _ (codes : List ℕ) (i r : ℕ) (l : i < length codes) (inv : Set (messages_in (map pass_slot (take i codes))) r) where
  abbrev x : ℕ
  x = get_or codes i 0

  messages : messages_in (map pass_slot (take (i + 1) codes)) ≡ messages_in (map pass_slot (take i codes)) ++ messages_in (pass_slot x ∷ [])
  messages =
      ap (λ (n : ℕ). messages_in (map pass_slot (take n codes))) (add-one i) ∙ ap (λ (t : List ℕ). messages_in (map pass_slot t)) (take-suc codes i 0 l)
      ∙ ap messages_in (map-append pass_slot (take i codes) (x ∷ [])) ∙ msgs_append (map pass_slot (take i codes)) (pass_slot x ∷ [])

  pub inner_msg : (s : ℕ) → max_factors ≤ x → s ≡ 2 ^ (x - max_factors) → Set (messages_in (map pass_slot (take (i + 1) codes))) (bit_or r s)
  inner_msg s k e =
      subst (λ (t : List ℕ). Set t (bit_or r s)) (sym (messages ∙ ap (λ (t : Slot). messages_in (map pass_slot (take i codes)) ++ messages_in (t ∷ []))
      (slot_high x k)))
      (set-append (messages_in (map pass_slot (take i codes))) ((x - max_factors) ∷ []) r s inv (set-one (x - max_factors) s e))

  pub inner_orig : x < max_factors → Set (messages_in (map pass_slot (take (i + 1) codes))) r
  inner_orig k =
      subst (λ (t : List ℕ). Set t r) (sym (messages ∙ ap (λ (t : Slot). messages_in (map pass_slot (take i codes)) ++ messages_in (t ∷ [])) (slot_low x k)
      ∙ append-nil (messages_in (map pass_slot (take i codes))))) inv

-- ---- a loop over the numbers of a set
pub in_set : (set j s : ℕ) → s ≡ 2 ^ j → (bit_and set s ≡ 0 → ⊥) → has j set ≡ true
in_set set j s e h = go (some-has (bit_and set s) h)
  where
    go : (i : ℕ) × T (has i (bit_and set s)) → has j set ≡ true
    go (i, t) =
        let b = subst T (has-and i set s) t in
        let q : i ≡ j = eqb→eq i j (subst T (ap (has i) e ∙ has-single i j) (and_r (has i set) (has i s) b)) in
        sure_true (has j set) (subst (λ (k : ℕ). T (has k set)) q (and_l (has i set) (has i s) b))

pub off_set : (set j s : ℕ) → s ≡ 2 ^ j → bit_and set s ≡ 0 → has j set ≡ false
off_set set j s e h = go (has j set) refl
  where
    go : (b : Bool) → has j set ≡ b → b ≡ false
    go false q = refl
    go true q =
        absurd (subst T (ap (has j) h ∙ has-zero j)
        (subst T (sym (has-and j set s)) (and_i (has j set) (has j s) (subst T (sym q) tt) (subst T (sym (ap (has j) e ∙ has-single j j)) (eqb_refl j)))))

keep_one : (p : ℕ → Bool) (j : ℕ) → keep p (j ∷ []) ≡ put_if (p j) j []
unfolding keep
keep_one p j = refl

pub rising-more : (p : ℕ → Bool) (j : ℕ) → rising_where (j + 1) p ≡ rising_where j p ++ put_if (p j) j []
unfolding rising_where
rising-more p j =
    ap (λ (n : ℕ). keep p (from 0 n)) (add-one j) ∙ ap (keep p) (from_snoc 0 j) ∙ keep_append p (from 0 j) ((0 + j) ∷ [])
    ∙ ap (λ (n : ℕ). keep p (from 0 j) ++ keep p (n ∷ [])) (zero-add j) ∙ ap (λ (l : List ℕ). keep p (from 0 j) ++ l) (keep_one p j)

pub rising-zero : (p : ℕ → Bool) → rising_where 0 p ≡ []
unfolding rising_where from keep
rising-zero p = refl

-- the message i of a pass
pub at_from : {A : Type 0} (f : ℕ → A) (a n i : ℕ) (d : A) → i < n → get_or (map f (from a n)) i d ≡ f (a + i)
unfolding from
at_from f a zero i d h = absurd (omega arith)
at_from f a (suc n) zero d h = ap f (omega arith)
at_from f a (suc n) (suc i) d h = at_from f (suc a) n i d (omega arith) ∙ ap f (omega arith)

pub at_msg : (p : Pass) (i : ℕ) → i < p.count → at (messages_of p) i ≡ msg_at p i
unfolding messages_of
at_msg p i h = at_from (msg_at p) 0 p.count i no_message h ∙ ap (msg_at p) (zero-add i)

-- ---- the kept keys of the messages of a set
abbrev pub kept_at : Pass → ℕ → List ℕ
kept_at p j = (at (messages_of p) j).kept

joined-one : (g : ℕ → List ℕ) (j : ℕ) → joined g (j ∷ []) ≡ g j ++ []
unfolding joined
joined-one g j = refl

joined-nil : (g : ℕ → List ℕ) → joined g [] ≡ []
unfolding joined
joined-nil g = refl

-- one more number, in the set or not
pub joined_in : (g : ℕ → List ℕ) (p : ℕ → Bool) (j : ℕ) → p j ≡ true → joined g (rising_where (j + 1) p) ≡ joined g (rising_where j p) ++ g j
joined_in g p j e =
    ap (joined g) (rising-more p j ∙ ap (λ (b : Bool). rising_where j p ++ put_if b j []) e) ∙ joined-append g (rising_where j p) (j ∷ [])
    ∙ ap (λ (l : List ℕ). joined g (rising_where j p) ++ l) (joined-one g j ∙ append-nil (g j))

pub joined_off : (g : ℕ → List ℕ) (p : ℕ → Bool) (j : ℕ) → p j ≡ false → joined g (rising_where (j + 1) p) ≡ joined g (rising_where j p)
joined_off g p j e = ap (joined g) (rising-more p j ∙ ap (λ (b : Bool). rising_where j p ++ put_if b j []) e ∙ append-nil (rising_where j p))

pub joined-zero : (g : ℕ → List ℕ) (p : ℕ → Bool) → joined g (rising_where 0 p) ≡ []
joined-zero g p = ap (joined g) (rising-zero p) ∙ joined-nil g

-- the numbers of a set that are all below n
pub keys_in-below : (n set : ℕ) → n ≤ max_variables → ((j : ℕ) → T (has j set) → j < n) → keys_in set ≡ rising_where n (λ j. has j set)
unfolding keys_in
keys_in-below n set f h = rising_on n max_variables (λ j. has j set) f (λ j l. sure_false (has j set) (not_T (has j set) (λ t. omega (arith, h j t))))

kept-mask : (p : Pass) (j : ℕ) → j < p.count → kept_at p j ≡ keys_in (get_or p.masks (max_factors + j) 0)
unfolding msg_at
kept-mask p j h = ap (λ (m : ClosedFactor). m.kept) (at_msg p j h) ∙ ap keys_in (get_or-drop max_factors p.masks j 0)

low-mem : (m i : ℕ) → i < max_variables → has i m ≡ mem i (keys_in m)
unfolding keys_in
low-mem m i h = sym (mem-rising max_variables (λ j. has j m) i (λ t. h))

abbrev pub KeptTo : Pass → ℕ → ℕ → ℕ → Type 0
KeptTo p set j r = (i : ℕ) → i < max_variables → has i r ≡ mem i (joined (kept_at p) (rising_where j (λ k. has k set)))

pub kept-none : (p : Pass) (set : ℕ) → KeptTo p set 0 0
kept-none p set i h = has-zero i ∙ sym (mem-nil i) ∙ ap (mem i) (sym (joined-zero (kept_at p) (λ k. has k set)))

pub kept_in : (p : Pass) (set j r : ℕ) → j < p.count → has j set ≡ true → KeptTo p set j r
    → KeptTo p set (j + 1) (bit_or r (get_or p.masks (max_factors + j) 0))
kept_in p set j r h e inv i l =
    has-or i r (get_or p.masks (max_factors + j) 0)
    ∙ ap₂ (λ (x y : Bool). x || y) (inv i l) (low-mem (get_or p.masks (max_factors + j) 0) i l ∙ ap (mem i) (sym (kept-mask p j h)))
    ∙ sym (mem-append i (joined (kept_at p) (rising_where j (λ k. has k set))) (kept_at p j))
    ∙ ap (mem i) (sym (joined_in (kept_at p) (λ k. has k set) j e))

pub kept_off : (p : Pass) (set j r : ℕ) → has j set ≡ false → KeptTo p set j r → KeptTo p set (j + 1) r
kept_off p set j r e inv i l = inv i l ∙ ap (mem i) (sym (joined_off (kept_at p) (λ k. has k set) j e))
