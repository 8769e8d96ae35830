-- A step: the masks are the lists of the definition.
-- Assumes nothing.
use mathlib.Core.Path.{◌≡◌, refl, sym, ap, ap₂, subst, ◌∙◌}
use mathlib.Core.Bool.{Bool, true, false, not, ◌&&◌, ◌||◌}
use mathlib.Core.Logic.{◌≢◌, ◌⊎◌, inl, inr}
use mathlib.Core.List.{List, [], ◌∷◌}
use Prim.Native.Nat.{ℕ, ◌^◌, ◌≤◌, ◌<◌}
use native.Mathlib.Omega.{arith}
use lib.Bits.{bit_and, bit_or, bit_xor}
use lib.Dec.{T, eqb, eqb→eq}
use lib.ListN.{get_or, take}
use Rattle.factor.specs.Limits.{max_variables}
use Rattle.schedule.specs.Count.{mem, any, keep, from, rising_where}
use Rattle.schedule.specs.Pass.{ClosedFactor, State, slot_keys, outside, keys_if, coupled, stays, append, sending, closing, step}
use Rattle.schedule.proofs.Counts.{and_l, and_r, or_e}
use Rattle.plan.specs.Mask.{has, keys_in, strays}
use Rattle.plan.specs.Pass.{pass_slot, mask_at, Coupled, msg_at, messages_of, PassReady, Means, state_sent, Sends}
use Rattle.plan.specs.declared.pass.Pass.{Pass}
use Rattle.plan.proofs.Digits.{differs, has-and, has-or, has-xor, has-zero, has-single, some-has}
use Rattle.plan.proofs.Sets.{strays-outside}
use Rattle.plan.proofs.Prefixes.{map-take}
use Rattle.plan.proofs.Membership.{mem-nil, mem-cons, mem-joined, any_same, any-map, mem-keep, mem-if}
use Rattle.plan.proofs.Walking.{mask_at_lem}
use Rattle.plan.proofs.Sending.{keys_in-mem, keys_in-is}

diff_and : (a s : Bool) → differs a (s && a) ≡ a && not s
diff_and true true = refl
diff_and true false = refl
diff_and false true = refl
diff_and false false = refl

keep-none : (p : ℕ → Bool) (l : List ℕ) → ((x : ℕ) → p x ≡ false) → keep p l ≡ []
unfolding keep
keep-none p [] h = refl
keep-none p (x ∷ l) h = rw (h x) (keep-none p l h)

keys_in-zero : keys_in 0 ≡ []
unfolding keys_in rising_where
keys_in-zero = keep-none (λ j. has j 0) (from 0 max_variables) has-zero

-- a message is sent where a key is cleared
sending_sent : (n : ℕ) (K : ℕ → List ℕ) (t : ℕ) (st : State) (ak v : List ℕ) → v ≢ [] → sending n K t st ak v ≡ state_sent n K t st ak v
unfolding sending
sending_sent n K t st ak [] h = absurd (h refl)
sending_sent n K t st ak (c ∷ cs) h = refl

abbrev pub with_active : Pass → ℕ → Pass
with_active p a = record {
  masks = p.masks;
  cleared = p.cleared;
  steps = p.steps;
  starts = p.starts;
  ends = p.ends;
  count = p.count;
  active = a;
  board = p.board;
}

module _ (p : Pass) (k t one cp : ℕ) (e : one ≡ 2 ^ k) where
  abbrev pub active : ℕ
  active = bit_or one p.active

  abbrev pub left : ℕ
  left = bit_and (bit_or one cp) active

  abbrev pub cleared : ℕ
  cleared = bit_xor active left

  module _ (cps : Coupled p.masks active (take p.board.used p.board.slots) cp) (n : ℕ) (K : ℕ → List ℕ) (st : State) (kn : k < n)
      (m : Means n K p st) where
    abbrev ms : List ClosedFactor
    ms = st.messages

    abbrev ak : List ℕ
    ak = k ∷ st.active_keys

    abbrev cpl : List ℕ
    cpl = coupled K ms ak st.active

    one_has : (j : ℕ) → has j one ≡ eqb j k
    one_has j = ap (has j) e ∙ has-single j k

    active-has : (j : ℕ) → has j active ≡ mem j ak
    active-has j = has-or j one p.active ∙ ap₂ (λ (x y : Bool). x || y) (one_has j) (m.keys j) ∙ sym (mem-cons j k st.active_keys)

    active-below : (j : ℕ) → T (has j active) → j < n
    active-below j h = go (or_e (has j one) (has j p.active) (subst T (has-or j one p.active) h))
      where
        go : T (has j one) ⊎ T (has j p.active) → j < n
        go (inl s) = omega (arith, eqb→eq j k (subst T (one_has j) s))
        go (inr s) = m.below j s

    cp_has : (j : ℕ) → has j cp ≡ mem j cpl
    unfolding coupled
    cp_has j =
        cps j
        ∙ any_same (λ x. strays active (get_or p.masks x 0) && has j (get_or p.masks x 0))
        (λ x. mem j (keys_if (outside ak (slot_keys K ms (pass_slot x))) (slot_keys K ms (pass_slot x)))) (take p.board.used p.board.slots)
        (λ x.
        ap (λ (z : ℕ). strays active z && has j z) (sym (mask_at_lem p.masks x))
        ∙ ap₂ (λ (y z : Bool). y && z) (strays-outside (mask_at p.masks (pass_slot x)) active (slot_keys K ms (pass_slot x)) ak (m.masks (pass_slot x))
        active-has) (m.masks (pass_slot x) j)
        ∙ sym (mem-if j (outside ak (slot_keys K ms (pass_slot x))) (slot_keys K ms (pass_slot x))))
        ∙ sym (any-map (λ s. mem j (keys_if (outside ak (slot_keys K ms s)) (slot_keys K ms s))) pass_slot (take p.board.used p.board.slots))
        ∙ ap (any (λ s. mem j (keys_if (outside ak (slot_keys K ms s)) (slot_keys K ms s)))) (map-take pass_slot p.board.used p.board.slots ∙ m.slots)
        ∙ sym (mem-joined j (λ s. keys_if (outside ak (slot_keys K ms s)) (slot_keys K ms s)) st.active)

    stay_has : (j : ℕ) → has j (bit_or one cp) ≡ stays k cpl j
    stay_has j = has-or j one cp ∙ ap₂ (λ (x y : Bool). x || y) (one_has j) (cp_has j)

    left_is : (j : ℕ) → has j left ≡ stays k cpl j && mem j ak
    left_is j = has-and j (bit_or one cp) active ∙ ap₂ (λ (x y : Bool). x && y) (stay_has j) (active-has j)

    cleared-has : (j : ℕ) → has j cleared ≡ mem j ak && not (stays k cpl j)
    cleared-has j = has-xor j active left ∙ ap₂ differs (active-has j) (left_is j) ∙ diff_and (mem j ak) (stays k cpl j)

    cleared-below : (j : ℕ) → T (has j cleared) → j < n
    cleared-below j h = active-below j (subst T (sym (active-has j)) (and_l (mem j ak) (not (stays k cpl j)) (subst T (cleared-has j) h)))

    cleared-is : keys_in cleared ≡ rising_where n (λ j. mem j ak && not (stays k cpl j))
    cleared-is = keys_in-is n cleared (λ j. mem j ak && not (stays k cpl j)) m.few cleared-below cleared-has

    abbrev between : State
    between = record { active_keys = keep (stays k cpl) ak; active = st.active; messages = st.messages }

    middle : Means n K (with_active p left) between
    unfolding messages_of msg_at
    middle = record {
      few = m.few;
      keys = λ j. left_is j ∙ sym (mem-keep j (stays k cpl) ak);
      below = λ j h. active-below j (and_r (has j (bit_or one cp)) (has j active) (subst T (has-and j (bit_or one cp) active) h));
      slots = m.slots;
      messages = m.messages;
      masks = m.masks;
    }

    step_is : (v : List ℕ) → keys_in cleared ≡ v → step n K t k st ≡ sending n K t st (keep (stays k cpl) ak) v
    unfolding step closing
    step_is v q = ap (sending n K t st (keep (stays k cpl) ak)) (sym cleared-is ∙ q)

    -- nothing is cleared
    pub silent : cleared ≡ 0 → Means n K (with_active p left) (step n K t k st)
    unfolding sending
    silent z = subst (λ (s : State). Means n K (with_active p left) s) (sym (step_is [] (ap keys_in z ∙ keys_in-zero))) middle

    some : cleared ≢ 0 → keys_in cleared ≢ []
    some h q = let f = some-has cleared h in subst T (sym (keys_in-mem n cleared f.0 m.few (cleared-below f.0)) ∙ ap (mem f.0) q
        ∙ mem-nil f.0) f.1

    -- the message is sent
    pub spoken : (r : Pass) → cleared ≢ 0 → Sends cleared t (with_active p left) r → Means n K r (step n K t k st)
    unfolding append
    spoken r h s =
        subst (λ (x : State). Means n K r x)
        (sym (step_is (keys_in cleared) refl ∙ sending_sent n K t st (keep (stays k cpl) ak) (keys_in cleared) (some h)))
        (s n K between cleared-below middle)

-- the bounds do not mention the active keys, and hold at any later step
pub ready_later : (t u : ℕ) (p : Pass) (a : ℕ) → t ≤ u → PassReady t p → PassReady u (with_active p a)
ready_later t u p a l h = record {
  room = h.room;
  total = h.total;
  few = omega (arith, h.few);
  masks = h.masks;
  cleared = h.cleared;
  steps = h.steps;
  starts = h.starts;
  ends = h.ends;
  closed = h.closed;
  ordered = h.ordered;
}
