-- One step of a pass keeps the invariant. The keys κ s and the leaves lv s of a slot are left open here.
-- Assumes nothing.
use mathlib.Core.Path.{◌≡◌, refl, ap}
use mathlib.Core.Logic.{◌≢◌, ◌⊎◌, inl, inr}
use mathlib.Core.Bool.{Bool, true, false, not, ◌&&◌}
use mathlib.Core.List.Memᴰ
use mathlib.Core.List.{List, [], ◌∷◌, ◌++◌, Memᴰ}
use Prim.Native.Nat.{ℕ, zero, suc, ◌+◌, ◌≤◌, ◌<◌}
use native.Mathlib.Omega.{arith}
use lib.Dec.{T, eqb, ltb→lt, lt→ltb, nltb→le, eqb→eq, T_not}
use lib.ListN.{length}
use Rattle.schedule.specs.Count.{count, In, mem, keep, sum_over, joined, rising_where}
use Rattle.schedule.specs.Pass.{Slot, original, closed, Walked, walk, outside, touches, keys_if, stays}
use Rattle.schedule.proofs.Counts.{sure, and_l, and_r, and_i, and_no_l, and_no_r, or_r, or_e, not-not, un_not, hit_same, hit-eq, count-cons}
use Rattle.schedule.proofs.Counts.{count-nil, count-append, count-joined, in_mem, mem_in, sum-append, sum-some, sum-member, sum_same, any_some}
use Rattle.schedule.proofs.Counts.{any_none, keep_yes, keep_no, rising_yes, rising_no, rising_in}
use Rattle.schedule.proofs.Meanings.{touches-some, touches_of, touches_none}
use Rattle.schedule.proofs.Walks.{walk-sum, walk-taken, walk-left}

abbrev pub is_closed : Slot → Bool
is_closed (original i) = false
is_closed (closed j) = true

-- What holds of an active slot with the keys ks and the leaves ls, after the keys P, with ak active and gone cleared
pub record Good (K : ℕ → List ℕ) (m : Bool) (ks ls P ak gone : List ℕ) : Type 0 where
  -- it touches no cleared key
  pub free : (j : ℕ) → In j ks → count j gone ≡ 0
  -- it touches every key of its leaves that is not cleared
  pub hold : (f : ℕ) → In f ls → (j : ℕ) → In j (K f) → count j gone ≡ 0 → In j ks
  -- a message touches active keys only
  pub inner : T m → (j : ℕ) → In j ks → In j ak
  -- all keys of a message's leaf are processed, and one of them is cleared
  pub full : T m → (f : ℕ) → In f ls → (j : ℕ) → In j (K f) → In j P
  pub low : T m → (f : ℕ) → In f ls → (j : ℕ) × In j (K f) × In j gone

pub record Inv (K : ℕ → List ℕ) (N : List ℕ) (κ lv : Slot → List ℕ) (P ak gone : List ℕ) (slots : List Slot) : Type 0 where
  -- a processed key is active or cleared, and never both
  pub keys : (j : ℕ) → count j ak + count j gone ≡ count j P
  -- the leaves of the active slots are the originals
  pub leaf : (f : ℕ) → sum_over (λ s. count f (lv s)) slots ≡ count f N
  pub node : (s : Slot) → Memᴰ s slots → Good K (is_closed s) (κ s) (lv s) P ak gone

unfoldable pub coupled_by : (Slot → List ℕ) → List ℕ → List Slot → List ℕ
coupled_by κ ak slots = joined (λ s. keys_if (outside ak (κ s)) (κ s)) slots

module _ (n : ℕ) (K : ℕ → List ℕ) (N : List ℕ) (κ lv : Slot → List ℕ) (κo : (i : ℕ) → κ (original i) ≡ K i) (lvo : (i : ℕ) → lv (original i) ≡ i ∷ [])
    (P ak gone : List ℕ) (slots : List Slot) (k : ℕ) (once : (j : ℕ) → count j (k ∷ P) ≤ 1) (below : (j : ℕ) → In j (k ∷ P) → j < n)
    (inv : Inv K N κ lv P ak gone slots) where
  abbrev pub cp : List ℕ
  unfolding coupled_by
  cp = coupled_by κ (k ∷ ak) slots

  abbrev pub ak2 : List ℕ
  ak2 = keep (stays k cp) (k ∷ ak)

  abbrev pub cl : List ℕ
  cl = rising_where n (λ j. mem j (k ∷ ak) && not (stays k cp j))

  pub act : (j : ℕ) → count j (k ∷ ak) + count j gone ≡ count j (k ∷ P)
  act j = omega (arith, count-cons j k ak, count-cons j k P, inv.keys j)

  pub split : (j : ℕ) → count j ak2 + count j cl ≡ count j (k ∷ ak)
  split j = go (sure (stays k cp j)) (sure (mem j (k ∷ ak)))
    where
      go : T (stays k cp j) ⊎ T (not (stays k cp j)) → T (mem j (k ∷ ak)) ⊎ T (not (mem j (k ∷ ak))) → count j ak2 + count j cl ≡ count j (k ∷ ak)
      go (inl t) d = omega (
        arith,
        keep_yes (stays k cp) j (k ∷ ak) t,
        rising_no n (λ i. mem i (k ∷ ak) && not (stays k cp i)) j (and_no_r (mem j (k ∷ ak)) (not (stays k cp j)) (not-not (stays k cp j) t)),
      )
      go (inr t) (inl m) =
          let a : In j (k ∷ ak) = ltb→lt 0 (count j (k ∷ ak)) m in
          omega (
            arith,
            keep_no (stays k cp) j (k ∷ ak) t,
            act j,
            once j,
            rising_yes n (λ i. mem i (k ∷ ak) && not (stays k cp i)) j (below j (omega (arith, act j))) (and_i (mem j (k ∷ ak)) (not (stays k cp j)) m t),
          )
      go (inr t) (inr m) =
          omega (
            arith,
            keep_no (stays k cp) j (k ∷ ak) t,
            nltb→le 0 (count j (k ∷ ak)) m,
            rising_no n (λ i. mem i (k ∷ ak) && not (stays k cp i)) j (and_no_l (mem j (k ∷ ak)) (not (stays k cp j)) m),
          )

  -- a key that a slot touches is coupled if the slot touches an inactive key; so a cleared key's slots touch active keys only
  couples : (s : Slot) → Memᴰ s slots → T (outside (k ∷ ak) (κ s)) → (j : ℕ) → In j (κ s) → In j cp
  unfolding coupled_by
  couples s m t j h =
      omega (
        arith,
        count-joined j (λ r. keys_if (outside (k ∷ ak) (κ r)) (κ r)) slots,
        sum-member (λ r. count j (keys_if (outside (k ∷ ak) (κ r)) (κ r))) m,
        go (outside (k ∷ ak) (κ s)) t,
      )
    where
      go : (b : Bool) → T b → In j (keys_if b (κ s))
      go true u = h
      go false u = absurd u

  pub inside : (s : Slot) → Memᴰ s slots → T (touches cl (κ s)) → (j : ℕ) → In j (κ s) → In j (k ∷ ak)
  unfolding outside
  inside s m t j h = go (sure (outside (k ∷ ak) (κ s))) (touches-some cl (κ s) t)
    where
      go : T (outside (k ∷ ak) (κ s)) ⊎ T (not (outside (k ∷ ak) (κ s))) → (c : ℕ) × Memᴰ c (κ s) × In c cl → In j (k ∷ ak)
      go (inl o) (c, i, u) =
          let r = rising_in n (λ i. mem i (k ∷ ak) && not (stays k cp i)) c u in
          absurd (T_not (stays k cp c) (and_r (mem c (k ∷ ak)) (not (stays k cp c)) r.0)
          (or_r (eqb c k) (mem c cp) (lt→ltb 0 (count c cp) (couples s m o c (mem_in i)))))
      go (inr o) u = ltb→lt 0 (count j (k ∷ ak)) (un_not (mem j (k ∷ ak)) (any_none (λ i. not (mem i (k ∷ ak))) (κ s) (in_mem (κ s) h) o))

  -- a slot that is left
  left_good : (s : Slot) → Memᴰ s slots → T (not (touches cl (κ s))) → Good K (is_closed s) (κ s) (lv s) (k ∷ P) ak2 (gone ++ cl)
  left_good s m t = record {
    free = λ j h. omega (arith, count-append j gone cl, g.free j h, off j h);
    hold = λ f i j q z. g.hold f i j q (omega (arith, count-append j gone cl));
    inner = λ u j h. omega (arith, g.inner u j h, split j, off j h, count-cons j k ak);
    full = λ u f i j q. omega (arith, g.full u f i j q, count-cons j k P);
    low = λ u f i. up f (g.low u f i);
  }
    where
      g : Good K (is_closed s) (κ s) (lv s) P ak gone
      g = inv.node s m

      off : (j : ℕ) → In j (κ s) → count j cl ≡ 0
      off = touches_none cl (κ s) t

      up : (f : ℕ) → (j : ℕ) × In j (K f) × In j gone → (j : ℕ) × In j (K f) × In j (gone ++ cl)
      up f (j, q, r) = (j, q, omega (arith, count-append j gone cl))

  -- the leaf of a slot that is taken: its keys are processed, and one is cleared
  of_orig : {f i : ℕ} → In f (lv (original i)) → f ≡ i
  of_orig {f} {i} h = hit-eq f i (omega (arith, count-cons f i [], count-nil f, rw lvo at h))

  taken-full : (s : Slot) → Memᴰ s slots → T (touches cl (κ s)) → (f : ℕ) → In f (lv s) → (j : ℕ) → In j (K f) → In j (k ∷ P)
  taken-full (original i) m t f h j q = omega (arith, inside (original i) m t j (rw (κo, ← of_orig h) q), act j)
  taken-full (closed i) m t f h j q = omega (arith, (inv.node (closed i) m).full tt f h j q, count-cons j k P)

  taken-low : (s : Slot) → Memᴰ s slots → T (touches cl (κ s)) → (f : ℕ) → In f (lv s) → (j : ℕ) × In j (K f) × In j (gone ++ cl)
  taken-low (original i) m t f h = go (touches-some cl (κ (original i)) t)
    where
      go : (c : ℕ) × Memᴰ c (κ (original i)) × In c cl → (j : ℕ) × In j (K f) × In j (gone ++ cl)
      go (c, u, v) = (c, rw (of_orig h, ← κo i) (mem_in u), omega (arith, count-append c gone cl))
  taken-low (closed i) m t f h = go ((inv.node (closed i) m).low tt f h)
    where
      go : (j : ℕ) × In j (K f) × In j gone → (j : ℕ) × In j (K f) × In j (gone ++ cl)
      go (c, u, v) = (c, u, omega (arith, count-append c gone cl))

  module _ (d : ℕ) (fuel : length slots ≤ d) where
    abbrev pub w : Walked
    w = walk (λ s. touches cl (κ s)) d slots

    abbrev pub kept : List ℕ
    kept = rising_where n (λ j. mem j ak2 && mem j (joined κ w.taken))

    module _ (ls : List ℕ) (ls_is : (f : ℕ) → count f ls ≡ sum_over (λ s. count f (lv s)) w.taken) where
      -- a leaf of the message lies under a slot that was taken
      under-taken : (f : ℕ) → In f ls → (s : Slot) × Memᴰ s w.taken × In f (lv s)
      under-taken f h = sum-some (λ s. count f (lv s)) w.taken (omega (arith, ls_is f))

      new-full : (f : ℕ) → In f ls → (j : ℕ) → In j (K f) → In j (k ∷ P)
      new-full f h j q = go (under-taken f h)
        where
          go : (s : Slot) × Memᴰ s w.taken × In f (lv s) → In j (k ∷ P)
          go (s, m, i) = let r = walk-taken (λ s. touches cl (κ s)) d slots m in taken-full s r.0 r.1 f i j q

      new-low : (f : ℕ) → In f ls → (j : ℕ) × In j (K f) × In j (gone ++ cl)
      new-low f h = go (under-taken f h)
        where
          go : (s : Slot) × Memᴰ s w.taken × In f (lv s) → (j : ℕ) × In j (K f) × In j (gone ++ cl)
          go (s, m, i) = let r = walk-taken (λ s. touches cl (κ s)) d slots m in taken-low s r.0 r.1 f i

      kept-active : (j : ℕ) → In j kept → In j ak2
      kept-active j h =
          let r = rising_in n (λ i. mem i ak2 && mem i (joined κ w.taken)) j h in
          ltb→lt 0 (count j ak2) (and_l (mem j ak2) (mem j (joined κ w.taken)) r.0)

      new_good : Good K true kept ls (k ∷ P) ak2 (gone ++ cl)
      new_good = record {
        free = λ j h. omega (arith, kept-active j h, split j, act j, once j, count-append j gone cl);
        hold = λ f h j q z. holds f h j q z (under-taken f h);
        inner = λ u j h. kept-active j h;
        full = λ u. new-full;
        low = λ u. new-low;
      }
        where
          holds : (f : ℕ) → In f ls → (j : ℕ) → In j (K f) → count j (gone ++ cl) ≡ 0 → (s : Slot) × Memᴰ s w.taken × In f (lv s) → In j kept
          holds f h j q z (s, m, i) =
              let r = walk-taken (λ s. touches cl (κ s)) d slots m in
              let p : In j (k ∷ P) = new-full f h j q in
              let t : In j (κ s) = (inv.node s r.0).hold f i j q (omega (arith, count-append j gone cl)) in
              let a : In j ak2 = omega (arith, split j, act j, count-append j gone cl) in
              let b : In j (joined κ w.taken) = omega (arith, count-joined j κ w.taken, sum-member (λ s. count j (κ s)) m) in
              omega (
                arith,
                rising_yes n (λ i. mem i ak2 && mem i (joined κ w.taken)) j (below j p)
                    (and_i (mem j ak2) (mem j (joined κ w.taken)) (lt→ltb 0 (count j ak2) a) (lt→ltb 0 (count j (joined κ w.taken)) b)),
              )

      -- every original that touches a cleared key is a leaf of the message that clears it
      pub covers : (f : ℕ) → In f N → (j : ℕ) → In j (K f) → In j cl → In f ls
      covers f h j q c = go (sum_over (λ s. count f (lv s)) w.left) refl
        where
          no_left : (s : Slot) × Memᴰ s w.left × In f (lv s) → ⊥
          no_left (s, m, i) =
              let r = walk-left (λ s. touches cl (κ s)) d slots fuel m in
              let t : In j (κ s) = (inv.node s r.0).hold f i j q (omega (arith, split j, act j, once j)) in
              T_not (touches cl (κ s)) r.1 (touches_of cl (κ s) j t c)

          go : (x : ℕ) → sum_over (λ s. count f (lv s)) w.left ≡ x → In f ls
          go zero e = omega (arith, ls_is f, walk-sum (λ s. count f (lv s)) (λ s. touches cl (κ s)) d slots, inv.leaf f)
          go (suc x) e = absurd (no_left (sum-some (λ s. count f (lv s)) w.left (omega arith)))

      -- the invariant after a message
      pub sent : (κ' lv' : Slot → List ℕ) (M : ℕ) → ((s : Slot) → Memᴰ s slots → (κ' s ≡ κ s) × (lv' s ≡ lv s)) → κ' (closed M) ≡ kept
          → lv' (closed M) ≡ ls
          → Inv K N κ' lv' (k ∷ P) ak2 (gone ++ cl) (w.left ++ (closed M ∷ []))
      unfolding sum_over
      sent κ' lv' M same κM lvM = record {
        keys = λ j. omega (arith, split j, act j, count-append j gone cl);
        leaf = λ f. omega (
          arith,
          sum-append (λ s. count f (lv' s)) w.left (closed M ∷ []),
          one f,
          walk-sum (λ s. count f (lv s)) (λ s. touches cl (κ s)) d slots,
          inv.leaf f,
          ls_is f,
          sum_same (λ s. count f (lv' s)) (λ s. count f (lv s)) w.left (λ s m. ap (count f) (same s (old m)).1),
        );
        node = λ s m. nodes s (Memᴰ.append_cases w.left m);
      }
        where
          old : {s : Slot} → Memᴰ s w.left → Memᴰ s slots
          old m = (walk-left (λ s. touches cl (κ s)) d slots fuel m).0

          one : (f : ℕ) → sum_over (λ s. count f (lv' s)) (closed M ∷ []) ≡ count f ls
          one f = omega (arith, ap (count f) lvM)

          nodes : (s : Slot) → Memᴰ s w.left ⊎ Memᴰ s (closed M ∷ []) → Good K (is_closed s) (κ' s) (lv' s) (k ∷ P) ak2 (gone ++ cl)
          nodes s (inl m) = let e = same s (old m) in rw (e.0, e.1) (left_good s (old m) (walk-left (λ s. touches cl (κ s)) d slots fuel m).1)
          nodes s (inr m) = rw (Memᴰ.eq_of_singleton m, κM, lvM) new_good

  -- the invariant after a step that clears nothing
  pub silent : ((j : ℕ) → count j cl ≡ 0) → Inv K N κ lv (k ∷ P) ak2 gone slots
  silent z = record {
    keys = λ j. omega (arith, split j, act j, z j);
    leaf = inv.leaf;
    node = λ s m. still s m (inv.node s m);
  }
    where
      still : (s : Slot) → Memᴰ s slots → Good K (is_closed s) (κ s) (lv s) P ak gone → Good K (is_closed s) (κ s) (lv s) (k ∷ P) ak2 gone
      still s m g = record {
        free = g.free;
        hold = g.hold;
        inner = λ u j h. omega (arith, g.inner u j h, split j, z j, count-cons j k ak);
        full = λ u f i j q. omega (arith, g.full u f i j q, count-cons j k P);
        low = g.low;
      }

  -- why a key other than the step's stays active: an original touches it and a key not yet processed
  pub why : (j : ℕ) → In j ak2 → j ≢ k → (f : ℕ) × In f N × In j (K f) × ((i : ℕ) × In i (K f) × (count i (k ∷ P) ≡ 0))
  unfolding coupled_by outside
  why j h ne = go (sure (stays k cp j))
    where
      Why : Type 0
      Why = (f : ℕ) × In f N × In j (K f) × ((i : ℕ) × In i (K f) × (count i (k ∷ P) ≡ 0))

      found : (s : Slot) → Memᴰ s slots → In j (κ s) → (i : ℕ) × Memᴰ i (κ s) × T (not (mem i (k ∷ ak))) → Why
      found (original f) m q (i, u, v) = (
        f,
        omega (arith, inv.leaf f, sum-member (λ s. count f (lv s)) m, ap (count f) (lvo f), count-cons f f [], hit_same f),
        rw (← κo f) q,
        (i, rw (← κo f) (mem_in u), omega (arith, act i, nltb→le 0 (count i (k ∷ ak)) v, (inv.node (original f) m).free i (mem_in u))),
      )
      found (closed x) m q (i, u, v) = absurd (omega (
        arith,
        (inv.node (closed x) m).inner tt i (mem_in u),
        nltb→le 0 (count i (k ∷ ak)) v,
        count-cons i k ak,
      ))

      open_out : (s : Slot) → Memᴰ s slots → (b : Bool) → outside (k ∷ ak) (κ s) ≡ b → In j (keys_if b (κ s)) → Why
      open_out s m true e q = found s m q (any_some (λ i. not (mem i (k ∷ ak))) (κ s) (rw e tt))
      open_out s m false e q = absurd (omega (arith, count-nil j))

      from_slot : (s : Slot) × Memᴰ s slots × In j (keys_if (outside (k ∷ ak) (κ s)) (κ s)) → Why
      from_slot (s, m, q) = open_out s m (outside (k ∷ ak) (κ s)) refl q

      by : T (eqb j k) ⊎ T (mem j cp) → Why
      by (inl t) = absurd (ne (eqb→eq j k t))
      by (inr t) = from_slot (sum-some (λ s. count j (keys_if (outside (k ∷ ak) (κ s)) (κ s))) slots
          (omega (arith, count-joined j (λ s. keys_if (outside (k ∷ ak) (κ s)) (κ s)) slots, ltb→lt 0 (count j cp) t)))

      go : T (stays k cp j) ⊎ T (not (stays k cp j)) → Why
      go (inl t) = by (or_e (eqb j k) (mem j cp) t)
      go (inr t) = absurd (omega (arith, keep_no (stays k cp) j (k ∷ ak) t))
