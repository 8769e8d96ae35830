-- A message is appended: the arrays mean what the definition says.
-- Assumes nothing.
use mathlib.Core.Path.{◌≡◌, sym, ap, ap₂, subst, ◌∙◌, fun_ext}
use mathlib.Core.Bool.{Bool, false, ◌&&◌}
use mathlib.Core.Logic.{◌≢◌}
use mathlib.Core.List.{List, [], ◌∷◌, ◌++◌, map}
use Prim.Native.Nat.{ℕ, suc, ◌+◌, ◌≤◌, ◌<◌}
use native.Mathlib.Numerals.{add-one}
use native.Mathlib.Decide.{ℕ_discrete, dec_lt}
use native.Mathlib.Omega.{arith}
use borrow.Author.Tests.{le-ltb}
use lib.Bits.{bit_and}
use lib.Dec.{T, not_T}
use lib.ListN.{length, get_or, take, drop, set, length-map, length-drop, get_or-append, get_or-eq_default, length-append}
use lib.Seq.{get_or-set_same, get_or-set_other, take-set-le, drop-set-add, take-suc-set, take-take, get_or_at}
use Rattle.factor.specs.Limits.{max_variables, max_factors}
use Rattle.schedule.specs.Count.{mem, any, joined, from, rising_where}
use Rattle.schedule.specs.Pass.{Slot, original, closed, ClosedFactor, no_message, at, State, slot_keys, touches, Walked, walk, append}
use Rattle.schedule.proofs.Counts.{and_l}
use Rattle.schedule.proofs.Sums.{from_snoc, length_from}
use Rattle.plan.specs.Limits.{pass_slots}
use Rattle.plan.specs.Mask.{has, keys_in, Union}
use Rattle.plan.specs.Pass.{pick_slot, pass_slot, mask_at, board_slots, walking, Walks, msg_at, messages_of, PassReady, Means, state_sent}
use Rattle.plan.specs.declared.pass.Board.{Board}
use Rattle.plan.specs.declared.pass.Pass.{Pass}
use Rattle.plan.proofs.Digits.{has-and}
use Rattle.plan.proofs.Sets.{meets-touches}
use Rattle.plan.proofs.Prefixes.{map-set, map-take, map-drop, map-append}
use Rattle.plan.proofs.Membership.{mem-joined, any_same, any-map, mem-rising, rising_on, sure_false, map-from}
use Rattle.plan.proofs.Walking.{mask_at_lem}

pub slot_msg : (c : ℕ) → pass_slot (max_factors + c) ≡ closed c
unfolding pass_slot
slot_msg c = ap (λ (b : Bool). pick_slot b (max_factors + c)) (le-ltb (max_factors + c) max_factors (omega arith)) ∙ ap closed (omega arith)

pub messages-length : (p : Pass) → length (messages_of p) ≡ p.count
unfolding messages_of
messages-length p = length-map (from 0 p.count) (msg_at p) ∙ length_from 0 p.count

pub keys_in-mem : (n m j : ℕ) → n ≤ max_variables → (T (has j m) → j < n) → mem j (keys_in m) ≡ has j m
unfolding keys_in
keys_in-mem n m j f h = mem-rising max_variables (λ j. has j m) j (λ t. omega (arith, h t))

-- the keys of a mask, by a test, all below n
pub keys_in-is : (n m : ℕ) (p : ℕ → Bool) → n ≤ max_variables → ((j : ℕ) → T (has j m) → j < n) → ((j : ℕ) → has j m ≡ p j) → keys_in m ≡ rising_where n p
unfolding keys_in
keys_in-is n m p f h e = rising_on n max_variables (λ j. has j m) f none ∙ ap (rising_where n) (fun_ext e)
  where
    none : (j : ℕ) → n ≤ j → has j m ≡ false
    none j l = sure_false (has j m) (not_T (has j m) (λ t. omega (arith, h j t)))

-- the pass after the message: w the board after the walk, ks the keys of its content
abbrev pub with_message : Pass → Board → ℕ → ℕ → ℕ → Pass
with_message p w ks cleared t = record {
  masks = set p.masks (max_factors + p.count) (bit_and p.active ks);
  cleared = set p.cleared p.count cleared;
  steps = set p.steps p.count t;
  starts = set p.starts p.count p.board.filled;
  ends = set p.ends p.count w.filled;
  count = p.count + 1;
  active = p.active;
  board = record { slots = set w.slots w.used (max_factors + p.count); used = w.used + 1; content = w.content; filled = w.filled };
}

module _ (p : Pass) (w : Board) (ks cleared t : ℕ) (ready : PassReady t p) (low : t < max_variables) (split : Walks p.masks cleared p.board w) where
  abbrev c : ℕ
  c = p.count

  abbrev r : Pass
  r = with_message p w ks cleared t

  few : c < max_variables
  few = omega (arith, ready.few)

  space : w.used < pass_slots
  space = omega (arith, ready.few, ready.total, split.sum)

  -- the mask of a message
  new-mask : get_or (drop max_factors r.masks) c 0 ≡ bit_and p.active ks
  new-mask = ap (λ (l : List ℕ). get_or l c 0) (drop-set-add max_factors p.masks c (bit_and p.active ks))
      ∙ get_or-set_same (drop max_factors p.masks) c (bit_and p.active ks) 0 (omega (arith, few, length-drop max_factors p.masks, ready.masks))

  old_mask : (j : ℕ) → j ≢ c → get_or (drop max_factors r.masks) j 0 ≡ get_or (drop max_factors p.masks) j 0
  old_mask j h = ap (λ (l : List ℕ). get_or l j 0) (drop-set-add max_factors p.masks c (bit_and p.active ks))
      ∙ get_or-set_other (drop max_factors p.masks) c j (bit_and p.active ks) 0 h

  old_content : (a e : ℕ) → e ≤ p.board.filled → drop a (take e w.content) ≡ drop a (take e p.board.content)
  old_content a e h =
      ap (drop a) (sym (take-take e p.board.filled w.content h) ∙ ap (take e) split.before ∙ take-take e p.board.filled p.board.content h)

  old_msg : (j : ℕ) → j < c → msg_at r j ≡ msg_at p j
  unfolding msg_at
  old_msg j h =
      let ne : j ≢ c = λ e. omega arith in
      rw (
        get_or-set_other p.steps c j t 0 ne,
        get_or-set_other p.starts c j p.board.filled 0 ne,
        get_or-set_other p.ends c j w.filled 0 ne,
        get_or-set_other p.cleared c j cleared 0 ne,
        old_mask j ne,
        old_content (get_or p.starts j 0) (get_or p.ends j 0) (ready.closed j h),
      )

  new_msg : msg_at r c ≡ record {
    step = t;
    content = map pass_slot (drop p.board.filled (take w.filled w.content));
    kept = keys_in
        (bit_and p.active ks);
    cleared = keys_in cleared;
  }
  unfolding msg_at
  new_msg =
      rw (
        get_or-set_same p.steps c t 0 (omega (arith, few, ready.steps)),
        get_or-set_same p.starts c p.board.filled 0 (omega (arith, few, ready.starts)),
        get_or-set_same p.ends c w.filled 0
            (omega (arith, few, ready.ends)),
        get_or-set_same p.cleared c cleared 0 (omega (arith, few, ready.cleared)),
        new-mask,
      )

  messages_snoc : messages_of r ≡ messages_of p ++ (msg_at r c ∷ [])
  unfolding messages_of
  messages_snoc =
      ap (λ (k : ℕ). map (msg_at r) (from 0 k)) (add-one c) ∙ ap (map (msg_at r)) (from_snoc 0 c) ∙ map-append (msg_at r) (from 0 c) ((0 + c) ∷ [])
      ∙ ap₂ (λ (x : List ClosedFactor) (k : ℕ). x ++ (msg_at r k ∷ [])) (map-from (msg_at r) (msg_at p) 0 c (λ j l h. old_msg j (omega arith))) (omega arith)

  module _ (union : Union p.masks p.board.filled w.filled w.content ks) (n : ℕ) (K : ℕ → List ℕ) (st : State)
      (hb : (j : ℕ) → T (has j cleared) → j < n) (m : Means n K p st) where
    abbrev ms : List ClosedFactor
    ms = st.messages

    abbrev W : Walked
    W = walk (λ s. touches (keys_in cleared) (slot_keys K ms s)) (length st.active) st.active

    same-walk : walking p.masks cleared p.board ≡ W
    same-walk =
        ap₂ (λ (q : Slot → Bool) (l : List Slot). walk q (length l) l)
        (fun_ext (λ s. meets-touches (mask_at p.masks s) cleared (slot_keys K ms s) (keys_in cleared) (m.masks s)
        (λ j. sym (keys_in-mem n cleared j m.few (hb j)))))
        m.slots

    content-is : map pass_slot (drop p.board.filled (take w.filled w.content)) ≡ W.taken
    content-is =
        map-drop pass_slot p.board.filled (take w.filled w.content) ∙ ap (drop p.board.filled) (map-take pass_slot w.filled w.content)
        ∙ split.taken ∙ ap (λ (x : Walked). x.taken) same-walk

    keys-are : (j : ℕ) → has j ks ≡ mem j (joined (slot_keys K ms) W.taken)
    keys-are j =
        union j
        ∙ any_same (λ x. has j (get_or p.masks x 0)) (λ x. mem j (slot_keys K ms (pass_slot x))) (drop p.board.filled (take w.filled w.content))
        (λ x. ap (has j) (sym (mask_at_lem p.masks x)) ∙ m.masks (pass_slot x) j)
        ∙ sym (any-map (λ s. mem j (slot_keys K ms s)) pass_slot (drop p.board.filled (take w.filled w.content)))
        ∙ ap (any (λ s. mem j (slot_keys K ms s))) content-is
        ∙ sym (mem-joined j (slot_keys K ms) W.taken)

    kept-has : (j : ℕ) → has j (bit_and p.active ks) ≡ mem j st.active_keys && mem j (joined (slot_keys K ms) W.taken)
    kept-has j = has-and j p.active ks ∙ ap₂ (λ (x y : Bool). x && y) (m.keys j) (keys-are j)

    kept-below : (j : ℕ) → T (has j (bit_and p.active ks)) → j < n
    kept-below j h = m.below j (and_l (has j p.active) (has j ks) (subst T (has-and j p.active ks) h))

    kept-is : keys_in (bit_and p.active ks) ≡ rising_where n (λ j. mem j st.active_keys && mem j (joined (slot_keys K ms) W.taken))
    kept-is = keys_in-is n (bit_and p.active ks) (λ j. mem j st.active_keys && mem j (joined (slot_keys K ms) W.taken)) m.few kept-below kept-has

    abbrev new : ClosedFactor
    new = record {
      step = t;
      content = W.taken;
      kept = rising_where n (λ j. mem j st.active_keys && mem j (joined (slot_keys K ms) W.taken));
      cleared =
          keys_in cleared;
    }

    new_is : msg_at r c ≡ new
    new_is = new_msg ∙ ap₂ (λ (x : List Slot) (y : List ℕ). record { step = t; content = x; kept = y; cleared = keys_in cleared }) content-is kept-is

    long : length ms ≡ c
    long = ap length (sym m.messages) ∙ messages-length p

    at_new : at (ms ++ (new ∷ [])) c ≡ new
    at_new = get_or_at ms new [] no_message c long

    at_old : (j : ℕ) → j ≢ c → at (ms ++ (new ∷ [])) j ≡ at ms j
    at_old j h = go (dec_lt j c)
      where
        go : Dec (j < c) → at (ms ++ (new ∷ [])) j ≡ at ms j
        go (yes l) = get_or-append ms (new ∷ []) no_message j (omega (arith, long))
        go (no l) =
            get_or-eq_default (ms ++ (new ∷ [])) no_message (omega (arith, length-append ms (new ∷ []), long))
            ∙ sym (get_or-eq_default ms no_message (omega (arith, long)))

    masks-are : (s : Slot) (j : ℕ) → has j (mask_at r.masks s) ≡ mem j (slot_keys K (ms ++ (new ∷ [])) s)
    unfolding mask_at slot_keys
    masks-are (original i) j =
        ap (λ (l : List ℕ). has j (get_or l i 0)) (take-set-le max_factors p.masks (max_factors + c) (bit_and p.active ks) (omega arith))
        ∙ m.masks (original i) j
    masks-are (closed i) j = go (ℕ_discrete i c)
      where
        go : Dec (i ≡ c) → has j (get_or (drop max_factors r.masks) i 0) ≡ mem j (at (ms ++ (new ∷ [])) i).kept
        go (yes e) =
            ap (λ (k : ℕ). has j (get_or (drop max_factors r.masks) k 0)) e ∙ ap (has j) new-mask
            ∙ sym (keys_in-mem n (bit_and p.active ks) j m.few (kept-below j))
            ∙ ap (mem j) kept-is ∙ ap (λ (x : ClosedFactor). mem j x.kept) (sym at_new) ∙ ap (λ (k : ℕ). mem j (at (ms ++ (new ∷ [])) k).kept) (sym e)
        go (no e) = ap (has j) (old_mask i e) ∙ m.masks (closed i) j ∙ ap (λ (x : ClosedFactor). mem j x.kept) (sym (at_old i e))

    slots-are : board_slots r.board ≡ W.left ++ (closed (length ms) ∷ [])
    slots-are =
        ap (λ (k : ℕ). take k (map pass_slot r.board.slots)) (add-one w.used)
        ∙ ap (take (suc w.used)) (map-set pass_slot w.slots w.used (max_factors + c))
        ∙ take-suc-set (map pass_slot w.slots) w.used (pass_slot (max_factors + c))
        (omega (arith, space, length-map w.slots pass_slot, split.room.active.long))
        ∙ ap₂ (λ (x : List Slot) (s : Slot). x ++ (s ∷ [])) (split.left ∙ ap (λ (x : Walked). x.left) same-walk) (slot_msg c ∙ ap closed (sym long))

    pub sends : Means n K r (state_sent n K t st st.active_keys (keys_in cleared))
    unfolding append
    sends = record {
      few = m.few;
      keys = m.keys;
      below = m.below;
      slots = slots-are;
      messages = messages_snoc ∙ ap₂ (λ (x : List ClosedFactor) (y : ClosedFactor). x ++ (y ∷ [])) m.messages new_is;
      masks = masks-are;
    }
