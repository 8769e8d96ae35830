-- What whoever carries out a pass relies on: the keys of a message's slots are its kept and its cleared keys, and these are apart; its slots are live
-- originals and older messages. Assumes nothing.
use mathlib.Core.Path.{◌≡◌, refl, ap, subst}
use mathlib.Core.Logic.{◌≢◌, ◌⊎◌, inl, inr}
use mathlib.Core.Bool.{not, ◌&&◌}
use mathlib.Core.List.{List, [], ◌∷◌, ◌++◌, reverse, Memᴰ}
use Prim.Native.Nat.{ℕ, ◌+◌, ◌≤◌, ◌<◌}
use native.Mathlib.Omega.{arith}
use native.Mathlib.Decide.{dec_lt}
use lib.Dec.{ltb→lt, lt→ltb}
use lib.ListN.{length, length-append, length-reverse, get_or-append}
use lib.Seq.{get_or-append_seam}
use Rattle.schedule.specs.Count.{hit, count, In, mem, keep, joined, from, rising_where}
use Rattle.schedule.specs.Pass.{Slot, original, closed, ClosedFactor, State, no_message, at, slot_keys, Walked, walk, touches, coupled, stays}
use Rattle.schedule.specs.Pass.{append, sending, closing, step, state_after, full_pass}
use Rattle.schedule.specs.Gather.{leaves, alive_messages, alive_among, keys_last, uncovered, gathering, gather_at, Gathered}
use Rattle.schedule.proofs.Counts.{and_l, and_i, count-cons, count-nil, count-append, count-reverse, count-joined, hit_same, hit-cases}
use Rattle.schedule.proofs.Counts.{sum-member, rising_yes, rising_in, in_mem}
use Rattle.schedule.proofs.Meanings.{uncovered_in, own_never, last_once, last_in}
use Rattle.schedule.proofs.Walks.{walk-taken}
use Rattle.schedule.specs.Messages.{Older, Tidy, Settled}
use Rattle.schedule.proofs.Steps.{coupled_by}
use Rattle.schedule.proofs.Steps as S
use Rattle.schedule.proofs.Runs.{lv_t, gone, Run, msgs_in, from-lt, running}
use Rattle.schedule.proofs.Demand3.{from_once}

-- among more originals it holds too
pub tidy-more : {n : ℕ} {K : ℕ → List ℕ} {N N' : List ℕ} {ms : List ClosedFactor} {m : ClosedFactor} → ((i : ℕ) → In i N → In i N') → Tidy n K N ms m
    → Tidy n K N' ms m
tidy-more more t = record { apart = t.apart; low = t.low; keyed = t.keyed; originals = λ i h. more i (t.originals i h) }

module _ (n : ℕ) (K : ℕ → List ℕ) (N P : List ℕ) (st : State) (k : ℕ) (once : (j : ℕ) → count j (k ∷ P) ≤ 1) (below : (j : ℕ) → In j (k ∷ P) → j < n)
    (run : Run K N P st) where
  abbrev ms : List ClosedFactor
  ms = st.messages

  abbrev κ : Slot → List ℕ
  κ = slot_keys K ms

  abbrev cp : List ℕ
  cp = coupled K ms (k ∷ st.active_keys) st.active

  abbrev ak2 : List ℕ
  ak2 = keep (stays k cp) (k ∷ st.active_keys)

  abbrev cl : List ℕ
  cl = rising_where n (λ j. mem j (k ∷ st.active_keys) && not (stays k cp j))

  abbrev w : Walked
  w = walk (λ s. touches cl (κ s)) (length st.active) st.active

  abbrev kept : List ℕ
  kept = rising_where n (λ j. mem j ak2 && mem j (joined κ w.taken))

  abbrev m : ClosedFactor
  m = record { step = length P; content = w.taken; kept = kept; cleared = cl }

  split : (x : ℕ) → count x ak2 + count x cl ≡ count x (k ∷ st.active_keys)
  unfolding coupled coupled_by
  split = S.split n K N κ (lv_t ms) (λ i. refl) (λ i. refl) P st.active_keys (gone ms) st.active k once below run.inv

  act : (x : ℕ) → count x (k ∷ st.active_keys) + count x (gone ms) ≡ count x (k ∷ P)
  unfolding slot_keys
  act = S.act n K N κ (lv_t ms) (λ i. refl) (λ i. refl) P st.active_keys (gone ms) st.active k once below run.inv

  inside : (s : Slot) → Memᴰ s w.taken → (x : ℕ) → In x (κ s) → In x (k ∷ st.active_keys)
  unfolding coupled coupled_by
  inside s i x h =
      let t = walk-taken (λ s. touches cl (κ s)) (length st.active) st.active i in
      S.inside n K N κ (lv_t ms) (λ i. refl) (λ i. refl) P st.active_keys (gone ms) st.active k once below run.inv s t.0 t.1 x h

  kept-active : (x : ℕ) → In x kept → In x ak2
  kept-active x h = ltb→lt 0 (count x ak2) (and_l (mem x ak2) (mem x (joined κ w.taken))
      (rising_in n (λ j. mem j ak2 && mem j (joined κ w.taken)) x h).0)

  apart : (x : ℕ) → count x cl + count x kept ≤ 1
  apart x = go (dec_lt 0 (count x kept))
    where
      go : Dec (0 < count x kept) → count x cl + count x kept ≤ 1
      go (yes h) = omega (arith, kept-active x h, (rising_in n (λ j. mem j ak2 && mem j (joined κ w.taken)) x h).2, split x, act x, once x)
      go (no h) = omega (arith, split x, act x, once x)

  low : (x : ℕ) → 1 ≤ count x cl + count x kept → x < n
  low x h = go (dec_lt 0 (count x kept))
    where
      go : Dec (0 < count x kept) → x < n
      go (yes h) = (rising_in n (λ j. mem j ak2 && mem j (joined κ w.taken)) x h).1
      go (no z) = (rising_in n (λ j. mem j (k ∷ st.active_keys) && not (stays k cp j)) x (omega arith)).1

  keyed : (s : Slot) → Memᴰ s w.taken → (x : ℕ) → In x (κ s) → 1 ≤ count x cl + count x kept
  keyed s i x h = go (dec_lt 0 (count x cl))
    where
      go : Dec (0 < count x cl) → 1 ≤ count x cl + count x kept
      go (yes z) = omega arith
      go (no z) =
          let a : In x ak2 = omega (arith, split x, inside s i x h) in
          let b : In x (joined κ w.taken) = omega (arith, count-joined x κ w.taken, sum-member (λ e. count x (κ e)) i) in
          omega (
            arith,
            rising_yes n (λ j. mem j ak2 && mem j (joined κ w.taken)) x (below x (omega (arith, act x, split x)))
                (and_i (mem x ak2) (mem x (joined κ w.taken)) (lt→ltb 0 (count x ak2) a) (lt→ltb 0 (count x (joined κ w.taken)) b)),
          )

  originals : (i : ℕ) → Memᴰ (original i) w.taken → In i N
  originals i h =
      let t = walk-taken (λ s. touches cl (κ s)) (length st.active) st.active h in
      omega (arith, run.inv.leaf i, sum-member (λ s. count i (lv_t ms s)) t.0, count-cons i i [], hit_same i)

  -- the messages after the step
  abbrev ms' : List ClosedFactor
  ms' = ms ++ (m ∷ [])

  old_at : (j : ℕ) → j < length ms → at ms' j ≡ at ms j
  old_at j l = get_or-append ms (m ∷ []) no_message j l

  -- what an older message's slot touches stays
  same_keys : (j : ℕ) → j < length ms → (s : Slot) → Memᴰ s (at ms j).content → slot_keys K ms' s ≡ slot_keys K ms s
  unfolding slot_keys
  same_keys j l (original i) h = refl
  same_keys j l (closed c) h = ap (λ (r : ClosedFactor). r.kept) (old_at c (omega (arith, run.older j c (msgs_in h))))

  -- a slot of the new message is an original or an active message
  new-keys : (s : Slot) → Memᴰ s w.taken → slot_keys K ms' s ≡ slot_keys K ms s
  unfolding slot_keys
  new-keys (original i) h = refl
  new-keys (closed c) h =
      let t = walk-taken (λ s. touches cl (κ s)) (length st.active) st.active h in
      ap (λ (r : ClosedFactor). r.kept) (old_at c (from-lt c (length ms) (omega (arith, run.place c, msgs_in t.0))))

  abbrev All : List ClosedFactor → Type 0
  All l = (j : ℕ) → j < length l → Tidy n K N l (at l j)

  extended : All ms → All ms'
  extended all j l = go (dec_lt j (length ms))
    where
      go : Dec (j < length ms) → Tidy n K N ms' (at ms' j)
      go (yes a) =
          let t = all j a in
          rw (old_at j a)
          (record { apart = t.apart; low = t.low; keyed = λ s i x h. t.keyed s i x (rw (same_keys j a s i) at h); originals = t.originals })
      go (no a) =
          let e : j ≡ length ms = omega (arith, length-append ms (m ∷ [])) in
          rw (e, get_or-append_seam ms m [] no_message)
          (record { apart = apart; low = low; keyed = λ s i x h. keyed s i x (rw (new-keys s i) at h); originals = originals })

  pub step-tidy : All ms → All (step n K (length P) k st).messages
  unfolding step closing sending append coupled coupled_by slot_keys
  step-tidy all = go cl refl
    where
      go : (v : List ℕ) → cl ≡ v → All (sending n K (length P) st ak2 v).messages
      go [] e = all
      go (c ∷ cs) e = subst (λ (v : List ℕ). All (append n K (length P) st ak2 v
          (walk (λ s. touches v (κ s)) (length st.active) st.active)).messages) e (extended all)

tidied : (n : ℕ) (K : ℕ → List ℕ) (N P : List ℕ) → ((j : ℕ) → count j P ≤ 1) → ((j : ℕ) → In j P → j < n) → (j : ℕ) → j < length (state_after n K N P).messages
    → Tidy n K N (state_after n K N P).messages (at (state_after n K N P).messages j)
unfolding state_after
tidied n K N [] once below = λ j l. absurd (omega arith)
tidied n K N (k ∷ P) once below =
    let o : (j : ℕ) → count j P ≤ 1 = λ j. omega (arith, once j, count-cons j k P) in
    let b : (j : ℕ) → In j P → j < n = λ j h. below j (omega (arith, count-cons j k P)) in
    step-tidy n K N P (state_after n K N P) k once below (running n K N P o b) (tidied n K N P o b)

-- a step sends one message at most
step-most : (n : ℕ) (K : ℕ → List ℕ) (t k : ℕ) (st : State) → length (step n K t k st).messages ≤ length st.messages + 1
unfolding step closing sending append
step-most n K t k st = go (rising_where n (λ j. mem j (k ∷ st.active_keys) && not (stays k (coupled K st.messages (k ∷ st.active_keys) st.active) j)))
  where
    go : (v : List ℕ) → length (sending n K t st (keep (stays k (coupled K st.messages (k ∷ st.active_keys) st.active)) (k ∷ st.active_keys))
        v).messages ≤ length st.messages + 1
    go [] = omega arith
    go (c ∷ cs) = simp length-append (omega arith)

messages-most : (n : ℕ) (K : ℕ → List ℕ) (N P : List ℕ) → length (state_after n K N P).messages ≤ length P
unfolding state_after
messages-most n K N [] = omega arith
messages-most n K N (k ∷ P) = omega (arith, step-most n K (length P) k (state_after n K N P), messages-most n K N P)

-- ---- a whole pass, along an order that names each key once

module _ (n : ℕ) (K : ℕ → List ℕ) (N order : List ℕ) (each : (j : ℕ) → count j order ≡ count j (from 0 n)) where
  once : (j : ℕ) → count j (reverse order) ≤ 1
  once j = omega (arith, count-reverse j order, each j, from_once n j)

  below : (j : ℕ) → In j (reverse order) → j < n
  below j h = from-lt j n (omega (arith, count-reverse j order, each j))

  pub tidy : (j : ℕ) → j < length (full_pass n K N order) → Tidy n K N (full_pass n K N order) (at (full_pass n K N order) j)
  unfolding full_pass
  tidy = tidied n K N (reverse order) once below

  pub older : Older (full_pass n K N order)
  unfolding full_pass
  older = (running n K N (reverse order) once below).older

  -- a step counts from 0 along the order
  pub steps : (j : ℕ) → j < length (full_pass n K N order) → (at (full_pass n K N order) j).step < length order
  unfolding full_pass
  steps j l = omega (arith, (running n K N (reverse order) once below).steps j l, length-reverse order)

  pub few-messages : length (full_pass n K N order) ≤ length order
  unfolding full_pass
  few-messages = omega (arith, messages-most n K N (reverse order), length-reverse order)

-- ---- what a key gathers

-- among more originals it holds too
pub settled-more : {n : ℕ} {K : ℕ → List ℕ} {N N' : List ℕ} {fw bw : List ClosedFactor} {k : ℕ} {g : Gathered} → ((i : ℕ) → In i N → In i N')
    → Settled n K N fw bw k g → Settled n K N' fw bw k g
settled-more more s = record {
  apart = s.apart;
  low = s.low;
  forward = s.forward;
  backward = s.backward;
  originals = λ i h.
      (more i (s.originals i h).0, (s.originals i h).1);
}

hit-most : (x y : ℕ) → hit x y ≤ 1
hit-most x y = go (hit-cases x y)
  where
    go : ((x ≡ y) × (hit x y ≡ 1)) ⊎ ((x ≢ y) × (hit x y ≡ 0)) → hit x y ≤ 1
    go (inl e) = omega arith
    go (inr e) = omega arith

alive_low : (t : ℕ) (ms : List ClosedFactor) (j : ℕ) → In j (alive_messages t ms) → j < length ms
unfolding alive_messages alive_among
alive_low t ms j h = (rising_in (length ms) _ j h).1

module _ (n : ℕ) (K : ℕ → List ℕ) (N : List ℕ) (fw bw : List ClosedFactor) (r s k : ℕ)
    (lowF : (j : ℕ) → j < length fw → (x : ℕ) → In x (at fw j).kept → x < n) (lowB : (j : ℕ) → j < length bw → (x : ℕ) → In x (at bw j).kept → x < n)
    (lowK : (i : ℕ) → In i N → (x : ℕ) → In x (K i) → x < n) where
  last_has : (keys : List ℕ) (x : ℕ) → x < n → In x keys → 1 ≤ count x (keys_last n k keys) + count x (k ∷ [])
  last_has keys x l h = go (hit-cases x k)
    where
      go : ((x ≡ k) × (hit x k ≡ 1)) ⊎ ((x ≢ k) × (hit x k ≡ 0)) → 1 ≤ count x (keys_last n k keys) + count x (k ∷ [])
      go (inl e) = omega (arith, count-cons x k [], e.1)
      go (inr e) = omega (arith, last_once n k keys x l h e.0)

  last_apart : (keys : List ℕ) (x : ℕ) → count x (keys_last n k keys) + count x (k ∷ []) ≤ 1
  last_apart keys x = go (dec_lt 0 (count x (keys_last n k keys))) (hit-cases x k)
    where
      go : Dec (0 < count x (keys_last n k keys)) → ((x ≡ k) × (hit x k ≡ 1)) ⊎ ((x ≢ k) × (hit x k ≡ 0)) → count x (keys_last n k keys) + count x (k ∷ []) ≤ 1
      go (no z) h = omega (arith, count-cons x k [], count-nil x, hit-most x k)
      go (yes z) (inr (o, e)) = omega (arith, count-cons x k [], count-nil x, (last_in n k keys x z).1)
      go (yes z) (inl (e, h)) = absurd (omega (arith, own_never n k keys, ap (λ (y : ℕ). count y (keys_last n k keys)) e))

  -- each key of some member of a list of keyed things
  of_joined : (f : ℕ → List ℕ) (l keys : List ℕ) (j x : ℕ) → In j l → In x (f j) → ((y : ℕ) → count y (joined f l) ≤ count y keys) → In x keys
  of_joined f l keys j x a b within = omega (arith, within x, count-joined x f l, sum-member (λ e. count x (f e)) (in_mem l a))

  pub settled : Settled n K N fw bw k (gather_at n K N fw bw r s k)
  unfolding gather_at gathering
  settled =
      record {
        apart = last_apart all;
        low = λ x h. last-low x h;
        forward = λ j h. let l = alive_low r fw j h in
            (l, λ x i. last_has all x (lowF j l x i) (of_joined (λ j. (at fw j).kept) fa all j x h i (λ y. omega (arith, parts y))));
        backward = λ j h. let l = alive_low s bw j h in
            (l, λ x i. last_has all x (lowB j l x i) (of_joined (λ j. (at bw j).kept) ba all j x h i (λ y. omega (arith, parts y))));
        originals = λ i h. let l = (uncovered_in (joined (leaves fw) fa ++ joined (leaves bw) ba) N i h).0 in
            (l, λ x u. last_has all x (lowK i l x u) (of_joined K un all i x h u (λ y. omega (arith, parts y))));
      }
    where
      fa : List ℕ
      fa = alive_messages r fw

      ba : List ℕ
      ba = alive_messages s bw

      un : List ℕ
      un = uncovered (joined (leaves fw) fa ++ joined (leaves bw) ba) N

      all : List ℕ
      all = joined (λ j. (at fw j).kept) fa ++ joined (λ j. (at bw j).kept) ba ++ joined K un

      parts : (y : ℕ) → count y all ≡ count y (joined (λ j. (at fw j).kept) fa) + (count y (joined (λ j. (at bw j).kept) ba) + count y (joined K un))
      parts y = omega (
        arith,
        count-append y (joined (λ j. (at fw j).kept) fa ++ joined (λ j. (at bw j).kept) ba) (joined K un),
        count-append y (joined (λ j. (at fw j).kept) fa) (joined (λ j. (at bw j).kept) ba),
      )

      last-low : (x : ℕ) → In x (keys_last n k all) → x < n
      last-low x h = (last_in n k all x h).0
