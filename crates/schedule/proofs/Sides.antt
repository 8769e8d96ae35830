-- One side of the gathering at a key: the messages of a whole pass up to the key's step, in the words of the plan.
-- Assumes nothing.
use mathlib.Core.Path.{◌≡◌, refl, sym, ap, ap₂, ◌∙◌}
use mathlib.Core.Logic.{◌≢◌, ◌⊎◌, inl, inr}
use mathlib.Core.Bool.{Bool, true, false, not, ◌&&◌}
use mathlib.Core.List.Memᴰ
use mathlib.Core.List.{List, [], ◌∷◌, ◌++◌, append-nil, Memᴰ}
use Prim.Native.Nat.{ℕ, zero, suc, ◌+◌, ◌≤◌, ◌<◌}
use native.Mathlib.Omega.{arith}
use native.Mathlib.Decide.{dec_lt}
use lib.Dec.{T, eqb, leb→le, le→leb, ltb→lt, nltb→le, T_not, not_T, eqb_refl}
use lib.ListN.{length, get_or, length-append, get_or-append}
use Rattle.schedule.specs.Count.{count, In, mem, put_if, keep, sum_over, joined, from, rising_where}
use Rattle.schedule.specs.Pass.{Slot, original, closed, ClosedFactor, State, no_message, at, slot_keys, coupled, stays, append, sending, closing}
use Rattle.schedule.specs.Pass.{step, state_after}
use Rattle.schedule.specs.Gather.{originals_in, messages_in, up_to, within, alive_among, alive_messages, popped, under, leaves}
use Rattle.schedule.specs.Once.{behind, AllUnder, cleared_by, Covers}
use Rattle.schedule.proofs.Counts.{sure, and_l, and_i, and_no_r, or_l, not-not, hit_same, count-cons, count-nil, count-append, count-joined}
use Rattle.schedule.proofs.Counts.{mem_in, in_mem, sum-some, sum_same, from_in, from-above, keep_yes, keep_append, rising_yes, rising_no, rising_in}
use Rattle.schedule.proofs.Sums.{sum-le, sum_perm, sum-table, joined-append, length-sum, length_from}
use Rattle.schedule.proofs.Meanings.{under-popped}
use Rattle.schedule.specs.Messages.{Older, collected, heavy}
use Rattle.schedule.proofs.Trees.{all_old, heavy-one, turns_suffice, stack-all}
use Rattle.schedule.proofs.Runs.{leaf_h, one_h, clear_h, gone, Run, parts, singles, from-lt, running, stays_why, Later, later}

-- ---- the stack gives what lies under
module _ (full : List ClosedFactor) (older : Older full) (small : (j : ℕ) → j < length full → (x : ℕ)
    → count x (collected one_h full j) ≤ count x (from 0 (length full))) where
  pub light : (j : ℕ) → j < length full → heavy full (j ∷ []) ≤ length full
  light j l = omega (
    arith,
    heavy-one full j,
    length-sum (collected one_h full j),
    sum-le (λ x. 1) (collected one_h full j) (from 0 (length full)) (small j l),
    length-sum (from 0 (length full)),
    length_from 0 (length full),
  )

  all_opened : (j more : ℕ) → j < length full → popped full (length full + more) (j ∷ []) ≡ under full j
  all_opened j more l = turns_suffice full older (length full) (length full + more) (j ∷ []) (light j l) (omega arith) ∙ sym (under-popped full j)

  by_stack : (h : ℕ → ClosedFactor → List ℕ) (j : ℕ) → j < length full → joined (λ i. h i (at full i)) (under full j) ≡ collected h full j
  unfolding joined
  by_stack h j l = ap (joined (λ i. h i (at full i))) (under-popped full j) ∙ stack-all h full older (length full) (j ∷ []) (light j l)
      ∙ append-nil (collected h full j)

  pub leaves-is : (j : ℕ) → j < length full → leaves full j ≡ collected leaf_h full j
  unfolding leaves
  leaves-is j l = by_stack leaf_h j l

  pub cleared-is : (j : ℕ) → j < length full → joined (λ i. (at full i).cleared) (under full j) ≡ collected clear_h full j
  cleared-is j l = by_stack clear_h j l

  pub under-is : (j x : ℕ) → j < length full → count x (under full j) ≡ count x (collected one_h full j)
  under-is j x l = sym (singles x (under full j)) ∙ sym (count-joined x (λ i. i ∷ []) (under full j)) ∙ ap (count x) (by_stack one_h j l)

-- ---- slots by kind
msgs_mem : {c : ℕ} (l : List Slot) → Memᴰ c (messages_in l) → Memᴰ (closed c) l
msgs_mem [] m = absurd (Memᴰ.not-nil m)
msgs_mem (original i ∷ l) m = Memᴰ.tail (msgs_mem l m)
msgs_mem {c} (closed j ∷ l) m = go (Memᴰ.cases_cons m) (msgs_mem l)
  where
    go : (c ≡ j) ⊎ Memᴰ c (messages_in l) → (Memᴰ c (messages_in l) → Memᴰ (closed c) l) → Memᴰ (closed c) (closed j ∷ l)
    go (inl e) f = Memᴰ.head (ap closed e)
    go (inr n) f = Memᴰ.tail (f n)

origs_mem : {c : ℕ} (l : List Slot) → Memᴰ c (originals_in l) → Memᴰ (original c) l
origs_mem [] m = absurd (Memᴰ.not-nil m)
origs_mem (closed i ∷ l) m = Memᴰ.tail (origs_mem l m)
origs_mem {c} (original j ∷ l) m = go (Memᴰ.cases_cons m) (origs_mem l)
  where
    go : (c ≡ j) ⊎ Memᴰ c (originals_in l) → (Memᴰ c (originals_in l) → Memᴰ (original c) l) → Memᴰ (original c) (original j ∷ l)
    go (inl e) f = Memᴰ.head (ap original e)
    go (inr n) f = Memᴰ.tail (f n)

-- ---- the messages of step at most r, where the others have later steps
module _ {A : Type 0} where
  keep_all : (p : A → Bool) (l : List A) → ((e : A) → Memᴰ e l → T (p e)) → keep p l ≡ l
  unfolding keep
  keep_all p [] f = refl
  keep_all p (x ∷ l) f = go (p x) (f x (Memᴰ.head refl)) (keep_all p l (λ e m. f e (Memᴰ.tail m)))
    where
      go : (t : Bool) → T t → keep p l ≡ l → put_if t x (keep p l) ≡ x ∷ l
      go true t ih = ap (λ (r : List A). x ∷ r) ih
      go false t ih = absurd t

  keep-none : (p : A → Bool) (l : List A) → ((e : A) → Memᴰ e l → T (not (p e))) → keep p l ≡ []
  unfolding keep
  keep-none p [] f = refl
  keep-none p (x ∷ l) f = go (p x) (f x (Memᴰ.head refl)) (keep-none p l (λ e m. f e (Memᴰ.tail m)))
    where
      go : (t : Bool) → T (not t) → keep p l ≡ [] → put_if t x (keep p l) ≡ []
      go true t ih = absurd t
      go false t ih = ih

  mem-at : {e : A} (d : A) {l : List A} → Memᴰ e l → (j : ℕ) × (j < length l) × (get_or l j d ≡ e)
  mem-at d (Memᴰ.head {x = y} {xs = l} q) = (0, omega arith, sym q)
  mem-at {e} d (Memᴰ.tail {x = y} {xs = l} m) = go (mem-at d m)
    where
      go : (j : ℕ) × (j < length l) × (get_or l j d ≡ e) → (j : ℕ) × (j < length (y ∷ l)) × (get_or (y ∷ l) j d ≡ e)
      go (j, h, q) = (suc j, omega arith, q)

  at_mem : (d : A) (l : List A) (j : ℕ) → j < length l → Memᴰ (get_or l j d) l
  at_mem d [] j h = absurd (omega arith)
  at_mem d (x ∷ l) zero h = Memᴰ.head refl
  at_mem d (x ∷ l) (suc j) h = Memᴰ.tail (at_mem d l j (omega arith))

  pub at_right : (d : A) (a b : List A) (j : ℕ) → length a ≤ j → j < length (a ++ b) → Memᴰ (get_or (a ++ b) j d) b
  at_right d [] b j g h = at_mem d b j h
  at_right d (x ∷ a) b zero g h = absurd (omega arith)
  at_right d (x ∷ a) b (suc j) g h = at_right d a b j (omega arith) (omega arith)

module _ (K : ℕ → List ℕ) (N P : List ℕ) (k : ℕ) (st : State) (run : Run K N (k ∷ P) st) (more : List ClosedFactor)
    (far : (e : ClosedFactor) → Memᴰ e more → suc (length P) ≤ e.step) where
  abbrev ms : List ClosedFactor
  ms = st.messages

  abbrev r : ℕ
  r = length P

  early : (e : ClosedFactor) → Memᴰ e ms → T (up_to r e)
  early e m = go (mem-at no_message m)
    where
      go : (j : ℕ) × (j < length ms) × (at ms j ≡ e) → T (up_to r e)
      go (j, l, q) = rw (← q) (le→leb (at ms j).step r (omega (arith, run.steps j l)))

  late : (e : ClosedFactor) → Memᴰ e more → T (not (up_to r e))
  late e m = not_T (up_to r e) (λ t. absurd (omega (arith, leb→le e.step r t, far e m)))

  within-is : within r (ms ++ more) ≡ joined (λ m. messages_in m.content) ms
  unfolding within
  within-is = ap (joined (λ m. messages_in m.content)) (keep_append (up_to r) ms more
      ∙ ap₂ ◌++◌ (keep_all (up_to r) ms early) (keep-none (up_to r) more late) ∙ append-nil ms)

  within-sum : (c : ℕ) → count c (within r (ms ++ more)) ≡ sum_over (λ m. count c (messages_in m.content)) ms
  within-sum c = ap (count c) within-is ∙ count-joined c (λ m. messages_in m.content) ms

  -- the gathered messages are the active ones
  pub alive_is : (c : ℕ) → count c (alive_messages r (ms ++ more)) ≡ count c (messages_in st.active)
  unfolding alive_messages alive_among
  alive_is c = go (dec_lt c (length ms)) (sure (mem c (within r (ms ++ more))))
    where
      test : ℕ → Bool
      test j = up_to r (at (ms ++ more) j) && not (mem j (within r (ms ++ more)))

      beyond : ¬ (c < length ms) → (x : ℕ) → count c (rising_where (length (ms ++ more)) test) ≡ x → x ≡ 0
      beyond h zero e = refl
      beyond h (suc x) e =
          let t = rising_in (length (ms ++ more)) test c (omega arith) in
          absurd (T_not (up_to r (at (ms ++ more) c)) (late (at (ms ++ more) c) (at_right no_message ms more c (omega arith) t.1))
          (and_l (up_to r (at (ms ++ more) c)) (not (mem c (within r (ms ++ more)))) t.0))

      go : Dec (c < length ms) → T (mem c (within r (ms ++ more))) ⊎ T (not (mem c (within r (ms ++ more))))
          → count c (rising_where (length (ms ++ more)) test) ≡ count c (messages_in st.active)
      go (yes l) (inl t) =
          omega (
            arith,
            rising_no (length (ms ++ more)) test c (and_no_r (up_to r (at (ms ++ more) c)) (not (mem c (within r (ms ++ more))))
                (not-not (mem c (within r (ms ++ more))) t)),
            ltb→lt 0 (count c (within r (ms ++ more))) t,
            within-sum c,
            run.place c,
            from_in c 0 (length ms) (omega arith) (omega arith),
          )
      go (yes l) (inr t) =
          omega (
            arith,
            rising_yes (length (ms ++ more)) test c (omega (arith, length-append ms more))
                (and_i (up_to r (at (ms ++ more) c)) (not (mem c (within r (ms ++ more))))
                (rw (get_or-append ms more no_message c l) (early (at ms c) (at_mem no_message ms c l))) t),
            nltb→le 0 (count c (within r (ms ++ more))) t,
            within-sum c,
            run.place c,
            from_in c 0 (length ms) (omega arith) (omega arith),
          )
      go (no l) d = omega (arith, beyond l (count c (rising_where (length (ms ++ more)) test)) refl, run.place c, from-above c 0 (length ms) (omega arith))

-- what the gathering lists of one pass
abbrev pub gathered_leaves : List ClosedFactor → ℕ → List ℕ
gathered_leaves full r = joined (leaves full) (alive_messages r full)

pub record Side (K : ℕ → List ℕ) (N P : List ℕ) (k : ℕ) (full : List ClosedFactor) (ak gone : List ℕ) : Type 0 where
  -- a key up to the step is active or cleared, once; the step's key is active
  pub keys : (j : ℕ) → count j ak + count j gone ≡ count j (k ∷ P)
  pub own : In k ak
  -- no leaf twice; a leaf's keys are all up to the step, and one is cleared
  pub part : (f : ℕ) → count f (gathered_leaves full (length P)) ≤ count f N
  pub upto : (f : ℕ) → In f (gathered_leaves full (length P)) → (j : ℕ) → In j (K f) → In j (k ∷ P)
  pub low : (f : ℕ) → In f (gathered_leaves full (length P)) → (j : ℕ) × In j (K f) × In j gone
  -- an original that is no leaf touches no cleared key
  pub rest : (f : ℕ) → In f N → count f (gathered_leaves full (length P)) ≡ 0 → (j : ℕ) → In j (K f) → count j gone ≡ 0
  -- the gathered messages touch active keys only
  pub inner : (j : ℕ) → In j (joined (λ c. (at full c).kept) (alive_messages (length P) full)) → In j ak
  -- an active key other than the step's is touched by an original that touches a later key
  pub why : (j : ℕ) → In j ak → j ≢ k → (f : ℕ) × In f N × In j (K f) × ((i : ℕ) × In i (K f) × (count i (k ∷ P) ≡ 0))
  -- the keys cleared behind are the cleared ones
  pub cleared : (j : ℕ) → count j (cleared_by full (behind full (alive_messages (length P) full))) ≡ count j gone
  pub covers : Covers K N full (behind full (alive_messages (length P) full))
  -- as many turns as there are messages open all that lies behind
  pub under : AllUnder full (behind full (alive_messages (length P) full))

count_joined² : {A : Type 0} (x : ℕ) (g : ℕ → List ℕ) (h : A → List ℕ) (l : List A) → count x (joined g (joined h l))
    ≡ sum_over (λ c. count x (joined g (h c))) l
unfolding joined sum_over
count_joined² x g h [] = count-nil x
count_joined² x g h (c ∷ l) = omega (
  arith,
  ap (count x) (joined-append g (h c) (joined h l)),
  count-append x (joined g (h c)) (joined g (joined h l)),
  count_joined² x g h l,
)

module _ (K : ℕ → List ℕ) (N P : List ℕ) (k : ℕ) (st : State) (run : Run K N (k ∷ P) st) (more : List ClosedFactor)
    (far : (e : ClosedFactor) → Memᴰ e more → suc (length P) ≤ e.step)
    (older : Older (st.messages ++ more))
    (small : (j : ℕ) → j < length (st.messages ++ more) → (x : ℕ)
    → count x (collected one_h (st.messages ++ more) j) ≤ count x (from 0 (length (st.messages ++ more))))
    (full-covers : (j : ℕ) → j < length (st.messages ++ more) → (f : ℕ) → In f N → (x : ℕ) → In x (K f)
    → In x (at (st.messages ++ more) j).cleared → In f (collected leaf_h (st.messages ++ more) j))
    (own-k : In k st.active_keys)
    (why-k : (j : ℕ) → In j st.active_keys → j ≢ k → (f : ℕ) × In f N × In j (K f) × ((i : ℕ) × In i (K f) × (count i (k ∷ P) ≡ 0))) where
  abbrev mz : List ClosedFactor
  mz = st.messages

  abbrev full : List ClosedFactor
  full = mz ++ more

  same_alive : (c : ℕ) → count c (alive_messages (length P) full) ≡ count c (messages_in st.active)
  same_alive = alive_is K N P k st run more far

  alive_lt : (c : ℕ) → In c (alive_messages (length P) full) → c < length mz
  alive_lt c h = from-lt c (length mz) (omega (arith, same_alive c, run.place c))

  mz_full : (c : ℕ) → c < length mz → c < length full
  mz_full c l = omega (arith, length-append mz more)

  -- a sum over the gathered messages, as one over the active ones
  over : (g h : ℕ → List ℕ) → ((c : ℕ) → c < length mz → g c ≡ h c) → (x : ℕ) → count x (joined g (alive_messages (length P) full))
      ≡ sum_over (λ c. count x (h c)) (messages_in st.active)
  over g h e x =
      count-joined x g (alive_messages (length P) full)
      ∙ sum_same (λ c. count x (g c)) (λ c. count x (h c)) (alive_messages (length P) full) (λ c m. ap (count x) (e c (alive_lt c (mem_in m))))
      ∙ sum_perm (λ c. count x (h c)) (alive_messages (length P) full) (messages_in st.active) same_alive

  leaves-sum : (f : ℕ) → count f (gathered_leaves full (length P)) ≡ sum_over (λ c. count f (collected leaf_h mz c)) (messages_in st.active)
  leaves-sum f = over (leaves full) (collected leaf_h mz) (λ c l. leaves-is full older small c (mz_full c l) ∙ all_old leaf_h mz more run.older c l) f

  -- a gathered leaf, and the active message that it lies under
  leaf_of : (f : ℕ) → In f (gathered_leaves full (length P)) → (c : ℕ) × Memᴰ (closed c) st.active × In f (collected leaf_h mz c)
  leaf_of f h = go (sum-some (λ c. count f (collected leaf_h mz c)) (messages_in st.active) (omega (arith, leaves-sum f)))
    where
      go : (c : ℕ) × Memᴰ c (messages_in st.active) × In f (collected leaf_h mz c)
          → (c : ℕ) × Memᴰ (closed c) st.active × In f (collected leaf_h mz c)
      go (c, m, i) = (c, msgs_mem st.active m, i)

  whole-leaves : (f : ℕ) → count f (originals_in st.active) + count f (gathered_leaves full (length P)) ≡ count f N
  whole-leaves f = omega (arith, leaves-sum f, parts f mz st.active, run.inv.leaf f)

  cleared-sum : (j : ℕ) → count j (cleared_by full (behind full (alive_messages (length P) full))) ≡ count j (gone mz)
  cleared-sum j =
      count_joined² j (λ i. (at full i).cleared) (under full) (alive_messages (length P) full)
      ∙ sum_same (λ c. count j (joined (λ i. (at full i).cleared) (under full c))) (λ c. count j (collected clear_h mz c)) (alive_messages (length P) full)
      (λ c m. let l = alive_lt c (mem_in m) in ap (count j) (cleared-is full older small c (mz_full c l) ∙ all_old clear_h mz more run.older c l))
      ∙ sum_perm (λ c. count j (collected clear_h mz c)) (alive_messages (length P) full) (messages_in st.active) same_alive
      ∙ run.whole clear_h j
      ∙ sum-table (λ e. count j e.cleared) mz no_message
      ∙ sym (count-joined j (λ e. e.cleared) mz)

  behind-lt : (i : ℕ) → In i (behind full (alive_messages (length P) full)) → i < length full
  behind-lt i h = from-lt i (length full) (go (sum-some (λ c. count i (under full c)) (alive_messages (length P) full)
      (omega (arith, count-joined i (under full) (alive_messages (length P) full)))))
    where
      go : (c : ℕ) × Memᴰ c (alive_messages (length P) full) × (1 ≤ count i (under full c)) → 1 ≤ count i (from 0 (length full))
      go (c, m, q) = let l = mz_full c (alive_lt c (mem_in m)) in omega (arith, under-is full older small c i l, small c l i)

  side : Side K N P k full st.active_keys (gone mz)
  unfolding slot_keys
  side = record {
    keys = run.inv.keys;
    own = own-k;
    part = λ f. omega (arith, whole-leaves f);
    upto = λ f h j q. go_full f j q (leaf_of f h);
    low = λ f h. go_low f (leaf_of f h);
    rest = λ f h z j q. (run.inv.node (original f) (origs_mem st.active (in_mem (originals_in st.active) (omega (arith, whole-leaves f))))).free j q;
    inner = λ j h. go_inner j (sum-some (λ c. count j (at mz c).kept) (messages_in st.active)
        (omega (
          arith,
          over (λ c. (at full c).kept) (λ c. (at mz c).kept)
              (λ c l. ap (λ (e : ClosedFactor). e.kept) (get_or-append mz more no_message c l)) j,
        )));
    why = why-k;
    cleared = cleared-sum;
    covers = λ i h f q x t u. let l = behind-lt i h in rw (leaves-is full older small i l) (full-covers i l f q x t u);
    under = λ i h m. all_opened full older small i m (behind-lt i h);
  }
    where
      go_full : (f j : ℕ) → In j (K f) → (c : ℕ) × Memᴰ (closed c) st.active × In f (collected leaf_h mz c) → In j (k ∷ P)
      go_full f j q (c, m, i) = (run.inv.node (closed c) m).full tt f i j q

      go_low : (f : ℕ) → (c : ℕ) × Memᴰ (closed c) st.active × In f (collected leaf_h mz c) → (j : ℕ) × In j (K f) × In j (gone mz)
      go_low f (c, m, i) = (run.inv.node (closed c) m).low tt f i

      go_inner : (j : ℕ) → (c : ℕ) × Memᴰ c (messages_in st.active) × (1 ≤ count j (at mz c).kept) → In j st.active_keys
      go_inner j (c, m, q) = (run.inv.node (closed c) (msgs_mem st.active m)).inner tt j q

-- the step's key stays active
pub own_key : (n : ℕ) (K : ℕ → List ℕ) (N P : List ℕ) (k : ℕ) → In k (state_after n K N (k ∷ P)).active_keys
unfolding state_after step closing sending append
own_key n K N P k = go (rising_where n (λ j. mem j (k ∷ st.active_keys) && not (stays k cp j)))
  where
    st : State
    st = state_after n K N P

    cp : List ℕ
    cp = coupled K st.messages (k ∷ st.active_keys) st.active

    stay : In k (keep (stays k cp) (k ∷ st.active_keys))
    stay = omega (arith, keep_yes (stays k cp) k (k ∷ st.active_keys) (or_l (eqb k k) (mem k cp) (eqb_refl k)), count-cons k k st.active_keys, hit_same k)

    go : (v : List ℕ) → In k (sending n K (length P) st (keep (stays k cp) (k ∷ st.active_keys)) v).active_keys
    go [] = stay
    go (c ∷ cs) = stay

-- one side, for a pass along any keys that has k after P
pub a_side : (n : ℕ) (K : ℕ → List ℕ) (N P' P : List ℕ) (k : ℕ) → ((j : ℕ) → count j (P' ++ (k ∷ P)) ≤ 1) → ((j : ℕ) → In j (P' ++ (k ∷ P)) → j < n)
    → (ak out : List ℕ) × Side K N P k (state_after n K N (P' ++ (k ∷ P))).messages ak out
unfolding Later
a_side n K N P' P k once below = go (later n K N P' (k ∷ P)) (running n K N (P' ++ (k ∷ P)) once below)
  where
    once' : (j : ℕ) → count j (k ∷ P) ≤ 1
    once' j = omega (arith, once j, count-append j P' (k ∷ P))

    below' : (j : ℕ) → In j (k ∷ P) → j < n
    below' j h = below j (omega (arith, count-append j P' (k ∷ P)))

    st : State
    st = state_after n K N (k ∷ P)

    go : Later (suc (length P)) st.messages (state_after n K N (P' ++ (k ∷ P))).messages → Run K N (P' ++ (k ∷ P)) (state_after n K N (P' ++ (k ∷ P)))
        → (ak out : List ℕ) × Side K N P k (state_after n K N (P' ++ (k ∷ P))).messages ak out
    go (more, e, far) big = (
      st.active_keys,
      gone st.messages,
      rw e (side K N P k st (running n K N (k ∷ P) once' below') more far (rw e at big.older) (rw e at big.small) (rw e at big.covers)
          (own_key n K N P k) (stays_why n K N P k once' below')),
    )
