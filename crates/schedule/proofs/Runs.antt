-- The invariant of a whole pass, over any order.
-- Assumes nothing.
use mathlib.Core.Path.{◌≡◌, refl, sym, ap, subst, ◌∙◌}
use mathlib.Core.Logic.{◌≢◌, ◌⊎◌, inl, inr}
use mathlib.Core.Bool.{not, ◌&&◌}
use mathlib.Core.List.Memᴰ
use mathlib.Core.List.{List, [], ◌∷◌, ◌++◌, map, append-nil, append_assoc, Memᴰ}
use Prim.Native.Nat.{ℕ, suc, ◌+◌, ◌≤◌, ◌<◌}
use native.Mathlib.Nat.{zero-add}
use native.Mathlib.Omega.{arith}
use native.Mathlib.Decide.{ℕ_discrete, dec_lt}
use lib.ListN.{length, length-append, get_or-append, get_or-eq_default}
use lib.Seq.{get_or-append_seam}
use Rattle.schedule.specs.Count.{hit, count, In, mem, keep, sum_over, joined, from, rising_where}
use Rattle.schedule.specs.Pass.{Slot, original, closed, ClosedFactor, State, no_message, at, slot_keys, Walked, walk, touches, coupled, stays}
use Rattle.schedule.specs.Pass.{append, sending, closing, step, state_after}
use Rattle.schedule.specs.Gather.{originals_in, messages_in}
use Rattle.schedule.proofs.Counts.{count-cons, count-nil, count-append, mem_in, in_mem, sum-append, sum-member, sum_same}
use Rattle.schedule.proofs.Sums.{sum_perm, sum-from_snoc, from-mem, joined-append}
use Rattle.schedule.proofs.Walks.{walk-sum}
use Rattle.schedule.specs.Messages.{Older, collected}
use Rattle.schedule.proofs.Trees.{all_old, all_new}
use Rattle.schedule.proofs.Steps.{is_closed, Good, Inv, coupled_by}
use Rattle.schedule.proofs.Steps as S

abbrev pub leaf_h : ℕ → ClosedFactor → List ℕ
leaf_h j m = originals_in m.content

abbrev pub one_h : ℕ → ClosedFactor → List ℕ
one_h j m = j ∷ []

abbrev pub clear_h : ℕ → ClosedFactor → List ℕ
clear_h j m = m.cleared

-- the leaves of a slot
abbrev pub lv_t : List ClosedFactor → Slot → List ℕ
lv_t ms (original i) = i ∷ []
lv_t ms (closed j) = collected leaf_h ms j

abbrev pub gone : List ClosedFactor → List ℕ
gone ms = joined (λ m. m.cleared) ms

pub record Run (K : ℕ → List ℕ) (N : List ℕ) (P : List ℕ) (st : State) : Type 0 where
  pub inv : Inv K N (slot_keys K st.messages) (lv_t st.messages) P st.active_keys (gone st.messages) st.active
  pub older : Older st.messages
  -- each message is active, or in the content of one other
  pub place : (c : ℕ) → count c (messages_in st.active) + sum_over (λ m. count c (messages_in m.content)) st.messages
      ≡ count c (from 0 (length st.messages))
  -- under the active messages stand all messages, each once
  pub whole : (h : ℕ → ClosedFactor → List ℕ) (x : ℕ) → sum_over (λ c. count x (collected h st.messages c)) (messages_in st.active)
      ≡ sum_over (λ j. count x (h j (at st.messages j))) (from 0 (length st.messages))
  -- an original that touches a cleared key is a leaf under the message that clears it
  pub covers : (j : ℕ) → j < length st.messages → (f : ℕ) → In f N → (x : ℕ) → In x (K f) → In x (at st.messages j).cleared
      → In f (collected leaf_h st.messages j)
  -- under a message no message stands twice
  pub small : (j : ℕ) → j < length st.messages → (x : ℕ) → count x (collected one_h st.messages j) ≤ count x (from 0 (length st.messages))
  pub steps : (j : ℕ) → j < length st.messages → (at st.messages j).step < length P

-- ---- slots
pub msgs_append : (a b : List Slot) → messages_in (a ++ b) ≡ messages_in a ++ messages_in b
msgs_append [] b = refl
msgs_append (original i ∷ a) b = msgs_append a b
msgs_append (closed j ∷ a) b = ap (λ (r : List ℕ). j ∷ r) (msgs_append a b)

pub msgs_count : (c : ℕ) (l : List Slot) → count c (messages_in l) ≡ sum_over (λ s. count c (messages_in (s ∷ []))) l
unfolding sum_over
msgs_count c [] = count-nil c
msgs_count c (original i ∷ l) = omega (arith, msgs_count c l, count-nil c)
msgs_count c (closed j ∷ l) = omega (arith, msgs_count c l, count-cons c j (messages_in l), count-cons c j [], count-nil c)

pub origs_count : (f : ℕ) (l : List Slot) → count f (originals_in l) ≡ sum_over (λ s. count f (originals_in (s ∷ []))) l
unfolding sum_over
origs_count f [] = count-nil f
origs_count f (original i ∷ l) = omega (arith, origs_count f l, count-cons f i (originals_in l), count-cons f i [], count-nil f)
origs_count f (closed j ∷ l) = omega (arith, origs_count f l, count-nil f)

pub msgs_in : {c : ℕ} {l : List Slot} → Memᴰ (closed c) l → In c (messages_in l)
msgs_in {c} {l} m = omega (
  arith,
  msgs_count c l,
  sum-member (λ s. count c (messages_in (s ∷ []))) m,
  count-cons c c [],
  Rattle.schedule.proofs.Counts.hit_same c,
)

pub parts : (f : ℕ) (ms : List ClosedFactor) (l : List Slot) → count f (originals_in l) + sum_over (λ c. count f (collected leaf_h ms c)) (messages_in l)
    ≡ sum_over (λ s. count f (lv_t ms s)) l
unfolding sum_over
parts f ms [] = omega (arith, count-nil f)
parts f ms (original i ∷ l) = omega (arith, parts f ms l, count-cons f i (originals_in l), count-cons f i [], count-nil f)
parts f ms (closed j ∷ l) = omega (arith, parts f ms l)

pub count-sum : (c : ℕ) (l : List ℕ) → count c l ≡ sum_over (hit c) l
unfolding sum_over count
count-sum c [] = refl
count-sum c (x ∷ l) = omega (arith, count-sum c l)

-- a list is its elements, one by one
pub singles : (x : ℕ) (l : List ℕ) → sum_over (λ j. count x (j ∷ [])) l ≡ count x l
unfolding sum_over count
singles x [] = refl
singles x (j ∷ l) = omega (arith, singles x l)

count-from_snoc : (c m : ℕ) → count c (from 0 (suc m)) ≡ count c (from 0 m) + hit c m
count-from_snoc c m = omega (arith, count-sum c (from 0 (suc m)), count-sum c (from 0 m), sum-from_snoc (hit c) 0 m, ap (hit c) (zero-add m))

pub from-lt : (c m : ℕ) → 1 ≤ count c (from 0 m) → c < m
from-lt c m h = omega (arith, (from-mem c 0 m (in_mem (from 0 m) h)).1)

module _ (n : ℕ) (K : ℕ → List ℕ) (N P : List ℕ) (st : State) (k : ℕ) (once : (j : ℕ) → count j (k ∷ P) ≤ 1) (below : (j : ℕ) → In j (k ∷ P) → j < n)
    (run : Run K N P st) where
  abbrev ms : List ClosedFactor
  ms = st.messages

  abbrev κ : Slot → List ℕ
  κ = slot_keys K ms

  abbrev cp : List ℕ
  cp = coupled K ms (k ∷ st.active_keys) st.active

  abbrev ak2 : List ℕ
  ak2 = keep (stays k cp) (k ∷ st.active_keys)

  abbrev cl : List ℕ
  cl = rising_where n (λ j. mem j (k ∷ st.active_keys) && not (stays k cp j))

  abbrev w : Walked
  w = walk (λ s. touches cl (κ s)) (length st.active) st.active

  abbrev m : ClosedFactor
  m = record { step = length P; content = w.taken; kept = rising_where n (λ j. mem j ak2 && mem j (joined κ w.taken)); cleared = cl }

  abbrev ms' : List ClosedFactor
  ms' = ms ++ (m ∷ [])

  new-at : at ms' (length ms) ≡ m
  new-at = get_or-append_seam ms m [] no_message

  old_at : (j : ℕ) → j < length ms → at ms' j ≡ at ms j
  old_at j l = get_or-append ms (m ∷ []) no_message j l

  longer : length ms' ≡ suc (length ms)
  longer = omega (arith, length-append ms (m ∷ []))

  index : (j : ℕ) → j < length ms' → (j < length ms) ⊎ (j ≡ length ms)
  index j l = go (dec_lt j (length ms))
    where
      go : Dec (j < length ms) → (j < length ms) ⊎ (j ≡ length ms)
      go (yes a) = inl a
      go (no a) = inr (omega (arith, longer))

  bound : (c : ℕ) → In c (messages_in st.active) → c < length ms
  bound c h = from-lt c (length ms) (omega (arith, run.place c))

  walked : (c : ℕ) → count c (messages_in w.taken) + count c (messages_in w.left) ≡ count c (messages_in st.active)
  walked c = omega (
    arith,
    msgs_count c w.taken,
    msgs_count c w.left,
    msgs_count c st.active,
    walk-sum (λ s. count c (messages_in (s ∷ []))) (λ s. touches cl (κ s)) (length st.active) st.active,
  )

  older' : Older ms'
  older' j c h = go (dec_lt j (length ms)) (ℕ_discrete j (length ms))
    where
      go : Dec (j < length ms) → Dec (j ≡ length ms) → c < j
      go (yes l) d = run.older j c (rw (← old_at j l) h)
      go (no l) (yes e) = omega (arith, bound c (omega (arith, walked c, rw (e, new-at) at h)))
      go (no l) (no e) = absurd (omega (arith, count-nil c, rw (get_or-eq_default ms' no_message {n = j} (omega (arith, longer))) at h))

  same : (s : Slot) → Memᴰ s st.active → (slot_keys K ms' s ≡ κ s) × (lv_t ms' s ≡ lv_t ms s)
  unfolding slot_keys
  same (original i) i-in = (refl, refl)
  same (closed c) c-in = let l = bound c (msgs_in c-in) in (ap (λ (e : ClosedFactor). e.kept) (old_at c l), all_old leaf_h ms (m ∷ []) run.older c l)

  ls_is : (f : ℕ) → count f (collected leaf_h ms' (length ms)) ≡ sum_over (λ s. count f (lv_t ms s)) w.taken
  ls_is f = all_new leaf_h ms m run.older older' f ∙ parts f ms w.taken

  inv' : Inv K N (slot_keys K ms') (lv_t ms') (k ∷ P) ak2 (gone ms ++ cl) (w.left ++ (closed (length ms) ∷ []))
  unfolding coupled coupled_by slot_keys
  inv' = S.sent n K N κ (lv_t ms) (λ i. refl) (λ i. refl) P st.active_keys (gone ms) st.active k once below run.inv (length st.active) (omega arith)
      (collected leaf_h ms' (length ms)) ls_is (slot_keys K ms') (lv_t ms') (length ms) same (ap (λ (e : ClosedFactor). e.kept) new-at) refl

  gone' : gone ms' ≡ gone ms ++ cl
  unfolding joined
  gone' = joined-append (λ e. e.cleared) ms (m ∷ []) ∙ ap (λ (r : List ℕ). gone ms ++ r) (append-nil cl)

  sent : Run K N (k ∷ P) (append n K (length P) st ak2 cl w)
  unfolding append sum_over coupled coupled_by slot_keys
  sent = record {
    inv = rw gone' inv';
    older = older';
    place = λ c. omega (
      arith,
      ap (count c) (msgs_append w.left (closed (length ms) ∷ [])),
      count-append c (messages_in w.left) (length ms ∷ []),
      count-cons c (length ms) [],
      count-nil c,
      sum-append (λ e. count c (messages_in e.content)) ms (m ∷ []),
      walked c,
      run.place c,
      count-from_snoc c (length ms),
      ap (λ (x : ℕ). count c (from 0 x)) longer,
    );
    whole = λ h x. omega (
      arith,
      ap (sum_over (λ c. count x (collected h ms' c))) (msgs_append w.left (closed (length ms) ∷ [])),
      sum-append (λ c. count x (collected h ms' c)) (messages_in w.left) (length ms ∷ []),
      all_new h ms m run.older older' x,
      run.whole h x,
      sum_same (λ c. count x (collected h ms' c)) (λ c. count x (collected h ms c)) (messages_in w.left)
          (λ c i. ap (count x) (all_old h ms (m ∷ []) run.older c (bound c (omega (arith, mem_in i, walked c))))),
      both h x,
      ap (λ (y : ℕ). sum_over (λ j. count x (h j (at ms' j))) (from 0 y)) longer,
      sum-from_snoc (λ j. count x (h j (at ms' j))) 0 (length ms),
      ap (λ (y : ℕ). count x (h y (at ms' y))) (zero-add (length ms)),
      ap (λ (e : ClosedFactor). count x (h (length ms) e)) new-at,
      sum_same (λ j. count x (h j (at ms' j))) (λ j. count x (h j (at ms j))) (from 0 (length ms))
          (λ j i. ap (λ (e : ClosedFactor). count x (h j e)) (old_at j (from-lt j (length ms) (mem_in i)))),
    );
    covers = λ j l f q x r t. covering j f q x r t (index j l);
    small = λ j l x. little j x (index j l);
    steps = λ j l. stepping j (index j l);
  }
    where
      both : (h : ℕ → ClosedFactor → List ℕ) (x : ℕ) → sum_over (λ c. count x (collected h ms c)) (messages_in w.taken) + sum_over
          (λ c. count x (collected h ms c))
          (messages_in w.left) ≡ sum_over (λ c. count x (collected h ms c)) (messages_in st.active)
      both h x = omega (
        arith,
        sum-append (λ c. count x (collected h ms c)) (messages_in w.taken) (messages_in w.left),
        sum_perm (λ c. count x (collected h ms c)) (messages_in w.taken ++ messages_in w.left) (messages_in st.active)
            (λ c. count-append c (messages_in w.taken) (messages_in w.left) ∙ walked c),
      )

      little : (j x : ℕ) → (j < length ms) ⊎ (j ≡ length ms) → count x (collected one_h ms' j) ≤ count x (from 0 (length ms'))
      little j x (inl l) =
          omega (
            arith,
            ap (count x) (all_old one_h ms (m ∷ []) run.older j l),
            run.small j l x,
            count-from_snoc x (length ms),
            ap (λ (y : ℕ). count x (from 0 y)) longer,
          )
      little j x (inr e) =
          omega (
            arith,
            ap (λ (i : ℕ). count x (collected one_h ms' i)) e,
            all_new one_h ms m run.older older' x,
            both one_h x,
            run.whole one_h x,
            count-cons x (length ms) [],
            count-nil x,
            count-from_snoc x (length ms),
            ap (λ (y : ℕ). count x (from 0 y)) longer,
            singles x (from 0 (length ms)),
          )

      covering : (j f : ℕ) → In f N → (x : ℕ) → In x (K f) → In x (at ms' j).cleared → (j < length ms) ⊎ (j ≡ length ms) → In f (collected leaf_h ms' j)
      covering j f q x r t (inl l) = rw (all_old leaf_h ms (m ∷ []) run.older j l) (run.covers j l f q x r (rw (old_at j l) at t))
      covering j f q x r t (inr e) =
          rw e (S.covers n K N κ (lv_t ms) (λ i. refl) (λ i. refl) P st.active_keys (gone ms) st.active k once below run.inv
          (length st.active) (omega arith)
          (collected leaf_h ms' (length ms)) ls_is f q x r (rw (e, new-at) at t))

      stepping : (j : ℕ) → (j < length ms) ⊎ (j ≡ length ms) → (at ms' j).step < length (k ∷ P)
      stepping j (inl l) = rw (old_at j l) (omega (arith, run.steps j l))
      stepping j (inr e) = rw (e, new-at) (omega arith)

  pub next : Run K N (k ∷ P) (step n K (length P) k st)
  unfolding step closing sending coupled coupled_by slot_keys
  next = go cl refl
    where
      go : (v : List ℕ) → cl ≡ v → Run K N (k ∷ P) (sending n K (length P) st ak2 v)
      go [] e = record {
        inv = S.silent n K N κ (lv_t ms) (λ i. refl) (λ i. refl) P st.active_keys (gone ms) st.active k once below run.inv
            (λ j. omega (arith, ap (count j) e, count-nil j));
        older = run.older;
        place = run.place;
        whole = run.whole;
        covers = run.covers;
        small = run.small;
        steps = λ j l. omega (arith, run.steps j l);
      }
      go (c ∷ cs) e = subst (λ (v : List ℕ). Run K N (k ∷ P) (append n K (length P) st ak2 v
          (walk (λ s. touches v (κ s)) (length st.active) st.active))) e sent

-- the start
lv_start : (ms : List ClosedFactor) (f : ℕ) (N : List ℕ) → sum_over (λ s. count f (lv_t ms s)) (map original N) ≡ count f N
unfolding sum_over
lv_start ms f [] = sym (count-nil f)
lv_start ms f (i ∷ N) = omega (arith, lv_start ms f N, count-cons f i N, count-cons f i [], count-nil f)

start_orig : {s : Slot} (N : List ℕ) → Memᴰ s (map original N) → (i : ℕ) × (s ≡ original i)
start_orig [] m = absurd (Memᴰ.not-nil m)
start_orig {s} (i ∷ N) m = go (Memᴰ.cases_cons m) (start_orig N)
  where
    go : (s ≡ original i) ⊎ Memᴰ s (map original N) → (Memᴰ s (map original N) → (i : ℕ) × (s ≡ original i)) → (i : ℕ) × (s ≡ original i)
    go (inl e) f = (i, e)
    go (inr n) f = f n

start_msgs : (N : List ℕ) → messages_in (map original N) ≡ []
start_msgs [] = refl
start_msgs (i ∷ N) = start_msgs N

pub start : (n : ℕ) (K : ℕ → List ℕ) (N : List ℕ) → Run K N [] (state_after n K N [])
unfolding state_after count sum_over slot_keys joined from
start n K N = record {
  inv = record {
    keys = λ j. refl;
    leaf = λ f. lv_start [] f N;
    node = λ s m. node s (start_orig N m);
  };
  older = λ j c h. absurd (omega arith);
  place = λ c. omega (arith, ap (count c) (start_msgs N));
  whole = λ h x. ap (sum_over (λ c. count x (collected h [] c))) (start_msgs N);
  covers = λ j l. absurd (omega arith);
  small = λ j l. absurd (omega arith);
  steps = λ j l. absurd (omega arith);
}
  where
    hold : (i f : ℕ) → In f (i ∷ []) → (j : ℕ) → In j (K f) → In j (K i)
    hold i f h j q = rw (Rattle.schedule.proofs.Counts.hit-eq f i (omega arith)) at q

    node : (s : Slot) → (i : ℕ) × (s ≡ original i) → Good K (is_closed s) (slot_keys K [] s) (lv_t [] s) [] [] []
    node s (i, e) = rw e (record { free = λ j h. refl; hold = λ f h j q z. hold i f h j q; inner = λ t. absurd t; full = λ t. absurd t; low = λ t. absurd t })

-- after any list of keys, each below n and none twice
pub running : (n : ℕ) (K : ℕ → List ℕ) (N P : List ℕ) → ((j : ℕ) → count j P ≤ 1) → ((j : ℕ) → In j P → j < n) → Run K N P (state_after n K N P)
unfolding state_after
running n K N [] once below = start n K N
running n K N (k ∷ P) once below =
    next n K N P (state_after n K N P) k once below (running n K N P (λ j. omega (arith, once j, count-cons j k P))
    (λ j h. below j (omega (arith, count-cons j k P))))

-- why a key other than the last one processed stays active
pub stays_why : (n : ℕ) (K : ℕ → List ℕ) (N P : List ℕ) (k : ℕ) → ((j : ℕ) → count j (k ∷ P) ≤ 1) → ((j : ℕ) → In j (k ∷ P) → j < n) → (j : ℕ)
    → In j (state_after n K N (k ∷ P)).active_keys → j ≢ k
    → (f : ℕ) × In f N × In j (K f) × ((i : ℕ) × In i (K f) × (count i (k ∷ P) ≡ 0))
unfolding state_after step closing sending coupled coupled_by slot_keys
stays_why n K N P k once below j h ne =
    S.why n K N (slot_keys K st.messages) (lv_t st.messages) (λ i. refl) (λ i. refl) P st.active_keys (gone st.messages) st.active k once
    below run.inv j
    (rw (keys-are (cl n K N P st k once below run)) at h) ne
  where
    st : State
    st = state_after n K N P

    run : Run K N P st
    run = running n K N P (λ j. omega (arith, once j, count-cons j k P)) (λ j h. below j (omega (arith, count-cons j k P)))

    keys-are : (v : List ℕ) → (sending n K (length P) st (ak2 n K N P st k once below run) v).active_keys ≡ ak2 n K N P st k once below run
    keys-are [] = refl
    keys-are (c ∷ cs) = refl

-- ---- the messages of a pass begin with those of its first steps, and the later ones have later steps
unfoldable pub Later : ℕ → List ClosedFactor → List ClosedFactor → Type 0
Later t ms ms' = (more : List ClosedFactor) × (ms' ≡ ms ++ more) × ((e : ClosedFactor) → Memᴰ e more → t ≤ e.step)

later_step : (n : ℕ) (K : ℕ → List ℕ) (t k : ℕ) (st : State) → Later t st.messages (step n K t k st).messages
unfolding step closing Later append
later_step n K t k st = go (rising_where n (λ j. mem j (k ∷ st.active_keys) && not (stays k (coupled K st.messages (k ∷ st.active_keys) st.active) j)))
  where
    go : (v : List ℕ) → Later t st.messages (sending n K t st
        (keep (stays k (coupled K st.messages (k ∷ st.active_keys) st.active)) (k ∷ st.active_keys)) v).messages
    go [] = ([], sym (append-nil st.messages), λ e m. absurd (Memᴰ.not-nil m))
    go (c ∷ cs) = (_, refl, λ e m. rw (Memᴰ.eq_of_singleton m) (omega arith))

pub later : (n : ℕ) (K : ℕ → List ℕ) (N P' P : List ℕ) → Later (length P) (state_after n K N P).messages (state_after n K N (P' ++ P)).messages
unfolding state_after Later
later n K N [] P = ([], sym (append-nil (state_after n K N P).messages), λ e m. absurd (Memᴰ.not-nil m))
later n K N (k ∷ P') P = go (later n K N P' P) (later_step n K (length (P' ++ P)) k (state_after n K N (P' ++ P)))
  where
    go : Later (length P) (state_after n K N P).messages (state_after n K N (P' ++ P)).messages
        → Later (length (P' ++ P)) (state_after n K N (P' ++ P)).messages (state_after n K N (k ∷ P' ++ P)).messages
        → Later (length P) (state_after n K N P).messages (state_after n K N (k ∷ P' ++ P)).messages
    go (a, e, f) (b, e', f') =
        (a ++ b, e' ∙ ap (λ (r : List ClosedFactor). r ++ b) e ∙ append_assoc (state_after n K N P).messages a b, λ x m. each x (Memᴰ.append_cases a m))
      where
        each : (x : ClosedFactor) → Memᴰ x a ⊎ Memᴰ x b → length P ≤ x.step
        each x (inl m) = f x m
        each x (inr m) = omega (arith, f' x m, length-append P' P)
