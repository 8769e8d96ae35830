-- Two passes side by side, the second with one original more at its end. As long as none of its keys has been processed it is never taken out, and
-- it couples no key that would otherwise be cleared; only the order of the walk may change.
-- Assumes nothing.
use mathlib.Core.Path.{◌≡◌, refl, sym, ap, subst, subst₂, ◌∙◌}
use mathlib.Core.Logic.{◌≢◌, ◌⊎◌, inl, inr}
use mathlib.Core.Bool.{Bool, true, false, not, cond, ◌&&◌, ◌||◌, true≢false}
use mathlib.Core.List.Memᴰ
use mathlib.Core.List.{List, [], ◌∷◌, ◌++◌, map, Memᴰ}
use Prim.Native.Nat.{ℕ, zero, suc, ◌+◌, ◌≤◌, ◌<◌}
use native.Mathlib.Omega.{arith}
use native.Mathlib.Decide.{dec_lt}
use lib.Dec.{T, eqb, eqb_refl, ltb, ltb→lt, T_not, not_T}
use lib.ListN.{length, length-append, get_or-append}
use Rattle.schedule.specs.Count.{hit, count, In, mem, keep, sum_over, joined, rising_where}
use Rattle.schedule.specs.Pass.{Slot, original, closed, ClosedFactor, State, no_message, at, slot_keys, Walked, walk, outside, touches, keys_if, coupled}
use Rattle.schedule.specs.Pass.{stays, append, sending, closing, step}
use Rattle.schedule.specs.Gather.{originals_in, messages_in}
use Rattle.schedule.specs.Late.{SameSlots, Alike, Arises}
use Rattle.schedule.proofs.Counts.{and_l, and_r, or_l, hit_same, hit-cases, count-cons, count-nil, count-joined, mem_in}
use Rattle.schedule.proofs.Counts.{sum-append, sum-member, sum_same, keep_in, keep_same, rising-same, rising_in}
use Rattle.schedule.proofs.Meanings.{touches-some}
use Rattle.schedule.proofs.Walks.{if-not, walk-sum, walk-taken, walk-left, taken-sum}
use Rattle.schedule.proofs.Steps.{is_closed}
use Rattle.schedule.proofs.Runs.{msgs_count, origs_count}
use Rattle.schedule.proofs.Sides.{at_right}

-- ---- messages one by one

pub data Paired : List ClosedFactor → List ClosedFactor → Type 0 where
  none : Paired [] []
  more : {m m' : ClosedFactor} {ms ms' : List ClosedFactor} → Alike m m' → Paired ms ms' → Paired (m ∷ ms) (m' ∷ ms')

one_more : {m m' : ClosedFactor} {ms ms' : List ClosedFactor} → Paired ms ms' → Alike m m' → Paired (ms ++ (m ∷ [])) (ms' ++ (m' ∷ []))
one_more none a = more a none
one_more (more b p) a = more b (one_more p a)

as_many : {ms ms' : List ClosedFactor} → Paired ms ms' → length ms ≡ length ms'
as_many none = refl
as_many (more a p) = ap suc (as_many p)

pub itself : (m : ClosedFactor) → Alike m m
itself m = record { step = refl; kept = refl; cleared = refl; content = λ x. (refl, refl) }

at_each : {ms ms' : List ClosedFactor} → Paired ms ms' → (j : ℕ) → Alike (at ms j) (at ms' j)
at_each none j = itself no_message
at_each (more a p) zero = a
at_each (more a p) (suc j) = at_each p j

turned : {m m' : ClosedFactor} → Alike m m' → Alike m' m
turned a = record { step = sym a.step; kept = sym a.kept; cleared = sym a.cleared; content = λ x. (sym (a.content x).0, sym (a.content x).1) }

pub exchanged : {ms ms' : List ClosedFactor} → Paired ms ms' → Paired ms' ms
exchanged none = none
exchanged (more a p) = more (turned a) (exchanged p)

-- messages of later steps may follow
pub still : {ms ms' : List ClosedFactor} → Paired ms ms' → (u : ℕ) (rest rest' : List ClosedFactor)
    → ((e : ClosedFactor) → Memᴰ e rest → u ≤ e.step) → (s j : ℕ) → s < u → Arises (ms ++ rest) s j
    → Arises (ms' ++ rest') s j × Alike (at (ms ++ rest) j) (at (ms' ++ rest') j)
still {ms} {ms'} p u rest rest' far s j l (h, e) = go (dec_lt j (length ms))
  where
    go : Dec (j < length ms) → Arises (ms' ++ rest') s j × Alike (at (ms ++ rest) j) (at (ms' ++ rest') j)
    go (yes i) =
        let a : at (ms ++ rest) j ≡ at ms j = get_or-append ms rest no_message j i in
        let b : at (ms' ++ rest') j ≡ at ms' j = get_or-append ms' rest' no_message j (omega (arith, as_many p)) in (
          (
            omega (arith, length-append ms' rest', as_many p),
            ap (λ (m : ClosedFactor). m.step) b ∙ sym (at_each p j).step
                ∙ ap (λ (m : ClosedFactor). m.step) (sym a) ∙ e,
          ),
          subst₂ Alike (sym a) (sym b) (at_each p j),
        )
    go (no i) = absurd (omega (arith, far (at (ms ++ rest) j) (at_right no_message ms rest j (omega arith) h)))

-- ---- the slots at the start

all-original : (N : List ℕ) → originals_in (map original N) ≡ N
all-original [] = refl
all-original (i ∷ N) = ap (λ (l : List ℕ). i ∷ l) (all-original N)

pub start_in : (i : ℕ) (N : List ℕ) → Memᴰ (original i) (map original N) → In i N
start_in i N h =
    omega (
      arith,
      origs_count i (map original N),
      sum-member (λ s. count i (originals_in (s ∷ []))) h,
      count-cons i i [],
      hit_same i,
      ap (count i) (all-original N),
    )

pub start_sum : (g : Slot → ℕ) (m : ℕ) (N : List ℕ) → sum_over g (map original (N ++ (m ∷ []))) ≡ sum_over g (map original N) + g (original m)
unfolding sum_over
start_sum g m [] = omega arith
start_sum g m (i ∷ N) = omega (arith, start_sum g m N)

-- ---- tests that agree

and_same : (a x y : Bool) → (T a → x ≡ y) → (a && x) ≡ (a && y)
and_same true x y h = h tt
and_same false x y h = refl

or_same : (a x y : Bool) → T a → (a || x) ≡ (a || y)
or_same true x y t = refl
or_same false x y t = absurd t

-- ---- two passes, the second with the original m more

module _ (n : ℕ) (K K' : ℕ → List ℕ) (m : ℕ) where
  -- after the keys P: the same active keys, one active slot more, in whatever order, and the same messages but for the order of contents
  pub record Beside (P : List ℕ) (st st' : State) : Type 0 where
    pub keys : st.active_keys ≡ st'.active_keys
    pub processed : (j : ℕ) → In j st.active_keys → In j P
    pub slots : (g : Slot → ℕ) → sum_over g st'.active ≡ sum_over g st.active + g (original m)
    pub given : (i : ℕ) → Memᴰ (original i) st.active → K i ≡ K' i
    pub messages : Paired st.messages st'.messages

  -- ---- a step, of the key k, as long as no key processed before is one of m's

  module _ (P : List ℕ) (st st' : State) (b : Beside P st st') (k : ℕ) (free : (j : ℕ) → In j P → count j (K' m) ≡ 0) where
    abbrev ak : List ℕ
    ak = k ∷ st.active_keys

    abbrev κ : Slot → List ℕ
    κ = slot_keys K st.messages

    abbrev κ' : Slot → List ℕ
    κ' = slot_keys K' st'.messages

    abbrev cp : List ℕ
    cp = coupled K st.messages ak st.active

    abbrev cp' : List ℕ
    cp' = coupled K' st'.messages ak st'.active

    abbrev ak2 : List ℕ
    ak2 = keep (stays k cp) ak

    abbrev cl : List ℕ
    cl = rising_where n (λ j. mem j ak && not (stays k cp j))

    -- the keys of a slot that both have
    same : (s : Slot) → Memᴰ s st.active → κ s ≡ κ' s
    unfolding slot_keys
    same (original i) h = b.given i h
    same (closed j) h = (at_each b.messages j).kept

    -- a sum over the slots that goes by their keys
    sums : (f : List ℕ → Slot → ℕ) → sum_over (λ s. f (κ' s) s) st'.active ≡ sum_over (λ s. f (κ s) s) st.active + f (K' m) (original m)
    unfolding slot_keys
    sums f =
        omega (
          arith,
          b.slots (λ s. f (κ' s) s),
          sum_same (λ s. f (κ s) s) (λ s. f (κ' s) s) st.active (λ s i. ap (λ (ks : List ℕ). f ks s) (same s i)),
        )

    -- an active key other than k is none of m's
    not_its : (j : ℕ) → In j st.active_keys → count j (K' m) ≡ 0
    not_its j h = free j (b.processed j h)

    -- so what m couples is not active, or it is k, which stays anyway
    tied : (j : ℕ) → In j st.active_keys → count j cp ≡ count j cp'
    unfolding coupled
    tied j h =
        omega (
          arith,
          count-joined j (λ s. keys_if (outside ak (κ s)) (κ s)) st.active,
          count-joined j (λ s. keys_if (outside ak (κ' s)) (κ' s)) st'.active,
          sums (λ ks s. count j (keys_if (outside ak ks) ks)),
          uncoupled (outside ak (K' m)),
        )
      where
        uncoupled : (out : Bool) → count j (keys_if out (K' m)) ≡ 0
        uncoupled true = not_its j h
        uncoupled false = count-nil j

    stays_same : (j : ℕ) → In j ak → stays k cp j ≡ stays k cp' j
    stays_same j h = go (hit-cases j k)
      where
        go : ((j ≡ k) × (hit j k ≡ 1)) ⊎ ((j ≢ k) × (hit j k ≡ 0)) → stays k cp j ≡ stays k cp' j
        go (inl e) = or_same (eqb j k) (mem j cp) (mem j cp') (subst (λ (x : ℕ). T (eqb j x)) e.0 (eqb_refl j))
        go (inr e) = ap (λ (c : ℕ). eqb j k || ltb 0 c) (tied j (omega (arith, count-cons j k st.active_keys)))

    active-same : ak2 ≡ keep (stays k cp') ak
    active-same = keep_same (stays k cp) (stays k cp') ak (λ j i. stays_same j (mem_in i))

    cleared-same : cl ≡ rising_where n (λ j. mem j ak && not (stays k cp' j))
    cleared-same = rising-same n (λ j. mem j ak && not (stays k cp j)) (λ j. mem j ak && not (stays k cp' j))
        (λ j l. and_same (mem j ak) (not (stays k cp j)) (not (stays k cp' j)) (λ t. ap not (stays_same j (ltb→lt 0 (count j ak) t))))

    -- no cleared key is one of m's
    cleared-free : (j : ℕ) → In j cl → count j (K' m) ≡ 0
    cleared-free j h = go (hit-cases j k)
      where
        tests : T (mem j ak && not (stays k cp j))
        tests = (rising_in n (λ i. mem i ak && not (stays k cp i)) j h).0

        go : ((j ≡ k) × (hit j k ≡ 1)) ⊎ ((j ≢ k) × (hit j k ≡ 0)) → count j (K' m) ≡ 0
        go (inl e) = absurd (T_not (stays k cp j) (and_r (mem j ak) (not (stays k cp j)) tests)
            (or_l (eqb j k) (mem j cp) (subst (λ (x : ℕ). T (eqb j x)) e.0 (eqb_refl j))))
        go (inr e) = not_its j (omega (arith, count-cons j k st.active_keys, ltb→lt 0 (count j ak) (and_l (mem j ak) (not (stays k cp j)) tests)))

    active_processed : (j : ℕ) → In j ak2 → In j (k ∷ P)
    active_processed j h = go (dec_lt 0 (count j st.active_keys))
      where
        go : Dec (0 < count j st.active_keys) → In j (k ∷ P)
        go (yes l) = omega (arith, b.processed j l, count-cons j k P)
        go (no l) = omega (arith, keep_in (stays k cp) j ak h, count-cons j k st.active_keys, count-cons j k P)

    -- ---- the message of the step
    abbrev w : Walked
    w = walk (λ s. touches cl (κ s)) (length st.active) st.active

    abbrev w' : Walked
    w' = walk (λ s. touches cl (κ' s)) (length st'.active) st'.active

    -- m is never taken
    untouched : T (not (touches cl (K' m)))
    untouched = not_T (touches cl (K' m)) (λ t. let (c, i, u) = touches-some cl (K' m) t in omega (arith, mem_in i, cleared-free c u))

    taken-same : (g : Slot → ℕ) → sum_over g w.taken ≡ sum_over g w'.taken
    taken-same g =
        omega (
          arith,
          taken-sum g (λ s. touches cl (κ s)) st.active,
          taken-sum g (λ s. touches cl (κ' s)) st'.active,
          sums (λ ks s. cond (touches cl ks) (g s) 0),
          if-not (touches cl (K' m)) (g (original m)) untouched,
        )

    left-same : (g : Slot → ℕ) → sum_over g w'.left ≡ sum_over g w.left + g (original m)
    left-same g =
        omega (
          arith,
          walk-sum g (λ s. touches cl (κ s)) (length st.active) st.active,
          walk-sum g (λ s. touches cl (κ' s)) (length st'.active) st'.active,
          b.slots g,
          taken-same g,
        )

    keys-same : (j : ℕ) → count j (joined κ w.taken) ≡ count j (joined κ' w'.taken)
    keys-same j =
        omega (
          arith,
          count-joined j κ w.taken,
          count-joined j κ' w'.taken,
          sum_same (λ s. count j (κ s)) (λ s. count j (κ' s)) w.taken
              (λ s i. ap (count j) (same s (walk-taken (λ s. touches cl (κ s)) (length st.active) st.active i).0)),
          taken-same (λ s. count j (κ' s)),
        )

    slots_same : SameSlots w.taken w'.taken
    slots_same x = (
      omega (arith, origs_count x w.taken, origs_count x w'.taken, taken-same (λ s. count x (originals_in (s ∷ [])))),
      omega (arith, msgs_count x w.taken, msgs_count x w'.taken, taken-same (λ s. count x (messages_in (s ∷ [])))),
    )

    sent : (r : ℕ) → Beside (k ∷ P) (append n K r st ak2 cl w) (append n K' r st' ak2 cl w')
    unfolding append sum_over
    sent r =
        record {
          keys = refl;
          processed = active_processed;
          slots = λ g. omega (
            arith,
            sum-append g w.left (closed (length st.messages) ∷ []),
            sum-append g w'.left (closed (length st'.messages) ∷ []),
            left-same g,
            ap (λ (c : ℕ). g (closed c)) (as_many b.messages),
          );
          given = λ i h. still_given i (Memᴰ.append_cases w.left h);
          messages = one_more b.messages (record {
            step = refl;
            kept = rising-same n _ _ (λ j l. ap (λ (c : ℕ). mem j ak2 && ltb 0 c) (keys-same j));
            cleared = refl;
            content = slots_same;
          });
        }
      where
        still_given : (i : ℕ) → Memᴰ (original i) w.left ⊎ Memᴰ (original i) (closed (length st.messages) ∷ []) → K i ≡ K' i
        still_given i (inl h) = b.given i (walk-left (λ s. touches cl (κ s)) (length st.active) st.active (omega arith) h).0
        still_given i (inr h) = absurd (true≢false (sym (ap is_closed (Memᴰ.eq_of_singleton h))))

    pub next : (r : ℕ) → Beside (k ∷ P) (step n K r k st) (step n K' r k st')
    unfolding step closing sending
    next r = subst (λ (a : List ℕ). Beside (k ∷ P) (step n K r k st) (closing n K' r k st' (k ∷ a) (coupled K' st'.messages (k ∷ a) st'.active))) b.keys
        (subst₂ (λ (a c : List ℕ). Beside (k ∷ P) (sending n K r st ak2 cl) (sending n K' r st' a c)) active-same cleared-same (go cl refl))
      where
        go : (v : List ℕ) → cl ≡ v → Beside (k ∷ P) (sending n K r st ak2 v) (sending n K' r st' ak2 v)
        go [] e = record { keys = refl; processed = active_processed; slots = b.slots; given = b.given; messages = b.messages }
        go (c ∷ cs) e = subst (λ (v : List ℕ). Beside (k ∷ P) (append n K r st ak2 v (walk (λ s. touches v (κ s)) (length st.active) st.active))
            (append n K' r st' ak2 v (walk (λ s. touches v (κ' s)) (length st'.active) st'.active))) e (sent r)
