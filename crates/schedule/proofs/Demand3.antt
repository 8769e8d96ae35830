-- Demand 3 over lists. At a key k the order is split into the keys P before it and Q after it; each pass has one side (`Sides`),
-- and what the two sides say meets in the gathering at k.
-- Assumes nothing.
use mathlib.Core.Path.{◌≡◌, refl, sym, ap, subst, subst₂, ◌∙◌}
use mathlib.Core.Logic.{◌≢◌, ◌⊎◌, inl, inr}
use mathlib.Core.Bool.{Bool, true, false, not}
use mathlib.Core.List.{List, [], ◌∷◌, ◌++◌, map, reverse, reverse-append, reverse-cons, reverse-reverse, append_assoc, Memᴰ}
use Prim.Native.Nat.{ℕ, zero, suc, ◌+◌, ◌-◌, ◌≤◌, ◌<◌}
use native.Mathlib.Nat.{zero-add}
use native.Mathlib.Omega.{arith}
use native.Mathlib.Decide.{dec_lt}
use lib.Dec.{T, eqb, ltb→lt, nltb→le, eqb→eq}
use lib.ListN.{length, get_or, length-append, length-reverse}
use Rattle.schedule.specs.Count.{hit, count, In, mem, joined, from}
use Rattle.schedule.specs.Pass.{ClosedFactor, at, state_after, full_pass}
use Rattle.schedule.specs.Gather.{alive_messages, Gathered, keys_last, uncovered, gathering, gather_at, gather}
use Rattle.schedule.specs.Plan.{place_in, plan}
use Rattle.schedule.specs.Once.{behind, cleared_by, Once}
use Rattle.schedule.proofs.Counts.{sure, hit_other, hit-cases, count-cons, count-append, count-reverse, count-joined, from_in, from-above}
use Rattle.schedule.proofs.Counts.{mem_in, in_mem, sum-some, sum-member}
use Rattle.schedule.proofs.Runs.{from-lt}
use Rattle.schedule.proofs.Orders.{order_long}
use Rattle.schedule.proofs.Meanings.{covered-not, uncovered-all, uncovered_in, own_never, last_once, last_none}
use Rattle.schedule.proofs.Sides.{gathered_leaves, Side, a_side}

module _ (n : ℕ) (K : ℕ → List ℕ) (N : List ℕ) (P Q : List ℕ) (k : ℕ) (fw bw : List ClosedFactor) (akF goneF akB goneB : List ℕ)
    (F : Side K N P k fw akF goneF) (B : Side K N Q k bw akB goneB)
    (distinct : (f : ℕ) → count f N ≤ 1) (registered : (f : ℕ) → In f N → (j : ℕ) → In j (K f) → j < n)
    (order : (j : ℕ) → count j P + hit j k + count j Q ≡ count j (from 0 n)) (order-once : (j : ℕ) → count j (from 0 n) ≤ 1)
    (order-all : (j : ℕ) → j < n → count j (from 0 n) ≡ 1) where
  abbrev LF : List ℕ
  LF = gathered_leaves fw (length P)

  abbrev LB : List ℕ
  LB = gathered_leaves bw (length Q)

  abbrev lv : List ℕ
  lv = LF ++ LB

  abbrev un : List ℕ
  un = uncovered lv N

  abbrev ks : List ℕ
  ks = joined (λ c. (at fw c).kept) (alive_messages (length P) fw) ++ joined (λ c. (at bw c).kept) (alive_messages (length Q) bw) ++ joined K un

  abbrev last : List ℕ
  last = keys_last n k ks

  lv_count : (f : ℕ) → count f lv ≡ count f LF + count f LB
  lv_count f = count-append f LF LB

  at-F : (j : ℕ) → count j akF + count j goneF ≡ hit j k + count j P
  at-F j = F.keys j ∙ count-cons j k P

  at-B : (j : ℕ) → count j akB + count j goneB ≡ hit j k + count j Q
  at-B j = B.keys j ∙ count-cons j k Q

  -- no original on both sides
  apart : (f : ℕ) → In f LF → In f LB → ⊥
  apart f a b = go (F.low f a)
    where
      go : (j : ℕ) × In j (K f) × In j goneF → ⊥
      go (j, q, c) = step (hit-cases j k)
        where
          step : ((j ≡ k) × (hit j k ≡ 1)) ⊎ ((j ≢ k) × (hit j k ≡ 0)) → ⊥
          step (inl e) = omega (arith, ap (λ (x : ℕ). count x akF) e.0, F.own, at-F j, order j, order-once j)
          step (inr e) = omega (arith, B.upto f b j q, count-cons j k Q, at-F j, order j, order-once j)

  -- so the leaves of both sides and the uncovered originals are every live original, once
  listed : (f : ℕ) → count f (lv ++ un) ≡ count f N
  listed f = go (sure (mem f lv)) (sure (mem f LF)) (sure (mem f LB))
    where
      go : T (mem f lv) ⊎ T (not (mem f lv)) → T (mem f LF) ⊎ T (not (mem f LF)) → T (mem f LB) ⊎ T (not (mem f LB)) → count f (lv ++ un) ≡ count f N
      go (inr t) a b = let z : count f lv ≡ 0 = omega (arith, nltb→le 0 (count f lv) t) in omega (arith, count-append f lv un, uncovered-all lv N f z)
      go (inl t) (inl a) (inl b) = absurd (apart f (ltb→lt 0 (count f LF) a) (ltb→lt 0 (count f LB) b))
      go (inl t) (inl a) (inr b) =
          omega (
            arith,
            count-append f lv un,
            covered-not lv N f (ltb→lt 0 (count f lv) t),
            lv_count f,
            F.part f,
            distinct f,
            ltb→lt 0 (count f LF) a,
            nltb→le 0 (count f LB) b,
          )
      go (inl t) (inr a) d =
          omega (
            arith,
            count-append f lv un,
            covered-not lv N f (ltb→lt 0 (count f lv) t),
            lv_count f,
            B.part f,
            distinct f,
            ltb→lt 0 (count f lv) t,
            nltb→le 0 (count f LF) a,
          )

  in_un : (f : ℕ) → In f N → count f lv ≡ 0 → In f un
  in_un f h z = omega (arith, uncovered-all lv N f z)

  in_ks : (j : ℕ) → count j ks ≡ count j (joined (λ c. (at fw c).kept) (alive_messages (length P) fw)) + count j
      (joined (λ c. (at bw c).kept) (alive_messages (length Q) bw)) + count j (joined K un)
  in_ks j =
      omega (
        arith,
        count-append j (joined (λ c. (at fw c).kept) (alive_messages (length P) fw) ++ joined (λ c. (at bw c).kept) (alive_messages (length Q) bw))
            (joined K un),
        count-append j (joined (λ c. (at fw c).kept) (alive_messages (length P) fw)) (joined (λ c. (at bw c).kept) (alive_messages (length Q) bw)),
      )

  touched : (f j : ℕ) → In f un → In j (K f) → In j ks
  touched f j h q = omega (arith, in_ks j, count-joined j K un, sum-member (λ i. count j (K i)) (in_mem un h))

  -- the keys of an original that is a leaf of neither side are among the gathered keys
  beside : (f j : ℕ) → In f N → In j (K f) → (In f LF → ⊥) → (In f LB → ⊥) → In j ks
  beside f j a q x y = touched f j (in_un f a (none (sure (mem f LF)) (sure (mem f LB)))) q
    where
      none : T (mem f LF) ⊎ T (not (mem f LF)) → T (mem f LB) ⊎ T (not (mem f LB)) → count f lv ≡ 0
      none (inl t) d = absurd (x (ltb→lt 0 (count f LF) t))
      none (inr t) (inl s) = absurd (y (ltb→lt 0 (count f LB) s))
      none (inr t) (inr s) = omega (arith, lv_count f, nltb→le 0 (count f LF) t, nltb→le 0 (count f LB) s)

  -- a key that stays active on a side is tied to a key beyond that side, by an original which is then a leaf of neither
  from-F : (j : ℕ) → In j akF → j ≢ k → In j ks
  from-F j h ne = go (F.why j h ne)
    where
      go : (f : ℕ) × In f N × In j (K f) × ((i : ℕ) × In i (K f) × (count i (k ∷ P) ≡ 0)) → In j ks
      go (f, a, q, (i, u, z)) =
          beside f j a q (λ t. omega (arith, F.upto f t i u)) (λ s. omega
          (arith, B.upto f s j q, count-cons j k Q, hit_other j k ne, at-F j, order j, order-once j))

  from-B : (j : ℕ) → In j akB → j ≢ k → In j ks
  from-B j h ne = go (B.why j h ne)
    where
      go : (f : ℕ) × In f N × In j (K f) × ((i : ℕ) × In i (K f) × (count i (k ∷ Q) ≡ 0)) → In j ks
      go (f, a, q, (i, u, z)) =
          beside f j a q (λ s. omega (arith, F.upto f s j q, count-cons j k P, hit_other j k ne, at-B j, order j, order-once j))
          (λ t. omega (arith, B.upto f t i u))

  -- a key of what is gathered, other than k, is active on a side
  to_active : (j : ℕ) → In j ks → j ≢ k → 1 ≤ count j akF + count j akB
  to_active j h ne = go (count j (joined (λ c. (at fw c).kept) (alive_messages (length P) fw))) refl
      (count j (joined (λ c. (at bw c).kept) (alive_messages (length Q) bw))) refl
    where
      by : (f : ℕ) × Memᴰ f un × (1 ≤ count j (K f)) → 1 ≤ count j akF + count j akB
      by (f, m, q) =
          let u = uncovered_in lv N f (mem_in m) in
          omega (
            arith,
            F.rest f u.0 (omega (arith, lv_count f, u.1)) j q,
            B.rest f u.0 (omega (arith, lv_count f, u.1)) j q,
            at-F j,
            at-B j,
            hit_other j k ne,
            order j,
            order-all j (registered f u.0 j q),
          )

      go : (x : ℕ) → count j (joined (λ c. (at fw c).kept) (alive_messages (length P) fw)) ≡ x → (y : ℕ)
          → count j (joined (λ c. (at bw c).kept) (alive_messages (length Q) bw)) ≡ y → 1 ≤ count j akF + count j akB
      go (suc x) e y d = omega (arith, F.inner j (omega arith))
      go zero e (suc y) d = omega (arith, B.inner j (omega arith))
      go zero e zero d = by (sum-some (λ f. count j (K f)) un (omega (arith, in_ks j, count-joined j K un)))

  -- the keys cleared last are those still active on a side
  last-is : (j : ℕ) → j ≢ k → count j last ≡ count j akF + count j akB
  last-is j ne = go (sure (mem j ks)) (sure (mem j akF)) (sure (mem j akB))
    where
      lt_n : 1 ≤ count j akF + count j akB → j < n
      lt_n h = from-lt j n (omega (arith, at-F j, at-B j, hit_other j k ne, order j))

      go : T (mem j ks) ⊎ T (not (mem j ks)) → T (mem j akF) ⊎ T (not (mem j akF)) → T (mem j akB) ⊎ T (not (mem j akB)) → count j last
          ≡ count j akF + count j akB
      go d (inl a) b =
          let h : In j akF = ltb→lt 0 (count j akF) a in
          omega (arith, last_once n k ks j (lt_n (omega arith)) (from-F j h ne) ne, at-F j, at-B j, hit_other j k ne, order j, order-once j)
      go d (inr a) (inl b) =
          let h : In j akB = ltb→lt 0 (count j akB) b in
          omega (arith, last_once n k ks j (lt_n (omega arith)) (from-B j h ne) ne, nltb→le 0 (count j akF) a, at-B j, hit_other j k ne, order j, order-once j)
      go (inl t) (inr a) (inr b) = absurd (omega (arith, to_active j (ltb→lt 0 (count j ks) t) ne, nltb→le 0 (count j akF) a, nltb→le 0 (count j akB) b))
      go (inr t) (inr a) (inr b) =
          omega (arith, last_none n k ks j t, nltb→le 0 (count j akF) a, nltb→le 0 (count j akB) b)

  -- the keys that the messages behind k clear, in either pass
  c_f : List ℕ
  c_f = cleared_by fw (behind fw (alive_messages (length P) fw))

  c_b : List ℕ
  c_b = cleared_by bw (behind bw (alive_messages (length Q) bw))

  -- k and all keys cleared behind it are each registered key, once
  cleared : (j : ℕ) → count j (k ∷ c_f ++ c_b ++ last) ≡ count j (from 0 n)
  unfolding c_f c_b
  cleared j = go (hit-cases j k)
    where
      split : count j (k ∷ c_f ++ c_b ++ last) ≡ hit j k + (count j goneF + count j goneB + count j last)
      split = omega (arith, count-cons j k (c_f ++ c_b ++ last), count-append j (c_f ++ c_b) last, count-append j c_f c_b, F.cleared j, B.cleared j)

      go : ((j ≡ k) × (hit j k ≡ 1)) ⊎ ((j ≢ k) × (hit j k ≡ 0)) → count j (k ∷ c_f ++ c_b ++ last) ≡ count j (from 0 n)
      go (inl e) =
          omega (
            arith,
            split,
            order j,
            order-once j,
            at-F j,
            at-B j,
            ap (λ (x : ℕ). count x akF) e.0,
            F.own,
            ap (λ (x : ℕ). count x akB) e.0,
            B.own,
            ap (λ (x : ℕ). count x last) e.0,
            own_never n k ks,
          )
      go (inr e) = omega (arith, split, order j, at-F j, at-B j, last-is j e.0)

  -- the claim, from the two sides
  met : Once n K N k fw bw (gathering n K N k fw bw (alive_messages (length P) fw) (alive_messages (length Q) bw) lv)
  unfolding gathering c_f c_b
  met = record {
    leaves_of = refl;
    forward_under = F.under;
    backward_under = B.under;
    listed = listed;
    cleared = cleared;
    forward = F.covers;
    backward = B.covers;
    last = λ f h j q c. omega (arith, listed f);
  }

-- an entry of the table of gatherings
nth : (g : ℕ → Gathered) (a m k : ℕ) → k < m → (d : Gathered) → get_or (map g (from a m)) k d ≡ g (a + k)
unfolding from
nth g a zero k l d = absurd (omega arith)
nth g a (suc m) zero l d = ap g (omega arith)
nth g a (suc m) (suc k) l d = nth g (suc a) m k (omega arith) d ∙ ap g (omega arith)

-- an order that names k, split at k
pub found_at : (k : ℕ) (order : List ℕ) → In k order → (pre : List ℕ) × (q : List ℕ) × (order ≡ pre ++ (k ∷ q)) × (length pre ≡ place_in k order)
unfolding place_in count hit
found_at k [] h = absurd (omega arith)
found_at k (x ∷ order) h = go (eqb k x) refl (found_at k order)
  where
    Found : (List ℕ) → ℕ → Type 0
    Found l r = (pre : List ℕ) × (q : List ℕ) × (l ≡ pre ++ (k ∷ q)) × (length pre ≡ r)

    more : Found order (place_in k order) → Found (x ∷ order) (suc (place_in k order))
    more (pre, q, e, d) = (x ∷ pre, q, ap (λ (l : List ℕ). x ∷ l) e, ap suc d)

    go : (b : Bool) → eqb k x ≡ b → (In k order → Found order (place_in k order)) → Found (x ∷ order) (place_in k (x ∷ order))
    go true e f = rw (e, place_in) ([], order, ap (λ (y : ℕ). y ∷ order) (sym (eqb→eq k x (rw e tt))), refl)
    go false e f = rw (e, place_in) (more (f (omega (arith, rw e at h))))

-- no registered key twice
pub from_once : (n j : ℕ) → count j (from 0 n) ≤ 1
from_once n j = go (dec_lt j n)
  where
    go : Dec (j < n) → count j (from 0 n) ≤ 1
    go (yes l) = omega (arith, from_in j 0 n (omega arith) (omega arith))
    go (no l) = omega (arith, from-above j 0 n (omega arith))

module _ (n : ℕ) (K : ℕ → List ℕ) (N order : List ℕ) (distinct : (f : ℕ) → count f N ≤ 1) (registered : (f : ℕ) → In f N → (j : ℕ) → In j (K f) → j < n)
    (each : (j : ℕ) → count j order ≡ count j (from 0 n)) where
  -- the order is as long as there are keys
  long : length order ≡ n
  long = order_long n order each

  reversed : (k : ℕ) (pre q : List ℕ) → order ≡ pre ++ (k ∷ q) → reverse order ≡ reverse q ++ (k ∷ reverse pre)
  reversed k pre q e = ap reverse e ∙ reverse-append pre (k ∷ q) ∙ ap (λ (l : List ℕ). l ++ reverse pre) (reverse-cons k q)
      ∙ append_assoc (reverse q) (k ∷ []) (reverse pre)

  -- the two sides of the order at k
  sides_meet : (k : ℕ) (pre q : List ℕ) → order ≡ pre ++ (k ∷ q) → length pre ≡ place_in k order → (fw bw : List ClosedFactor)
      → (akF outF : List ℕ) × Side K N (reverse pre) k fw akF outF → (akB outB : List ℕ) × Side K N q k bw akB outB
      → Once n K N k fw bw (gather n K N fw bw (place_in k order) k)
  unfolding gather gather_at
  sides_meet k pre q e d fw bw (akF, outF, F) (akB, outB, B) =
      subst₂ (λ (r s : ℕ). Once n K N k fw bw (gather_at n K N fw bw r s k)) (length-reverse pre ∙ d)
      (omega (arith, ap length e, length-append pre (k ∷ q), long))
      (met n K N (reverse pre) q k fw bw akF outF akB outB F B distinct registered
      (λ j. omega (arith, count-reverse j pre, ap (count j) e, count-append j pre (k ∷ q), count-cons j k q, each j))
      (from_once n) (λ j l. from_in j 0 n (omega arith) (omega arith)))

  -- the claim at a key, of the two passes
  pub at_each : (k : ℕ) → k < n → Once n K N k (full_pass n K N order) (full_pass n K N (reverse order))
      (gather n K N (full_pass n K N order) (full_pass n K N (reverse order)) (place_in k order) k)
  unfolding full_pass
  at_each k l = go (found_at k order (omega (arith, each k, from_in k 0 n (omega arith) (omega arith))))
    where
      go : (pre : List ℕ) × (q : List ℕ) × (order ≡ pre ++ (k ∷ q)) × (length pre ≡ place_in k order)
          → Once n K N k (full_pass n K N order) (full_pass n K N (reverse order))
          (gather n K N (full_pass n K N order) (full_pass n K N (reverse order)) (place_in k order) k)
      go (pre, q, e, d) =
          sides_meet k pre q e d (full_pass n K N order) (full_pass n K N (reverse order))
          (subst (λ (o : List ℕ). (ak out : List ℕ) × Side K N (reverse pre) k (state_after n K N o).messages ak out) (sym (reversed k pre q e))
          (a_side n K N (reverse q) (reverse pre) k (λ j. omega (arith, ap (count j) (reversed k pre q e), count-reverse j order, each j, from_once n j))
          (λ j h. from-lt j n (omega (arith, ap (count j) (reversed k pre q e), count-reverse j order, each j)))))
          (subst (λ (o : List ℕ). (ak out : List ℕ) × Side K N q k (state_after n K N o).messages ak out) (sym (reverse-reverse order ∙ e))
          (a_side n K N pre q k (λ j. omega (arith, ap (count j) e, each j, from_once n j)) (λ j h. from-lt j n (omega (arith, ap (count j) e, each j)))))

  -- what the plan has gathered at a key
  pub gathered_at_lem : (k : ℕ) → k < n → (d : Gathered) → get_or (plan n K N order).at_key k d
      ≡ gather n K N (full_pass n K N order) (full_pass n K N (reverse order)) (place_in k order) k
  unfolding plan
  gathered_at_lem k l d = nth at 0 n k l d ∙ ap at (zero-add k)
    where
      at : ℕ → Gathered
      at j = gather n K N (full_pass n K N order) (full_pass n K N (reverse order)) (place_in j order) j

  -- Demand 3 of the plan, at each registered key: for any order that names each registered key once, and any list of live originals
  -- that names none twice and whose keys are registered.
  pub demand3 : (k : ℕ) → k < n → (d : Gathered) → Once n K N k (plan n K N order).forward (plan n K N order).backward
      (get_or (plan n K N order).at_key k d)
  unfolding plan
  demand3 k l d = subst (λ (g : Gathered). Once n K N k (full_pass n K N order) (full_pass n K N (reverse order)) g) (sym (gathered_at_lem k l d)) (at_each k l)

  -- P9 for every graph: an original without keys is a leaf under no message, so it is uncovered at every key.
  keyless-meets : (f k : ℕ) → ((j : ℕ) → In j (K f) → ⊥) → In f N → (pre q : List ℕ) → order ≡ pre ++ (k ∷ q) → length pre ≡ place_in k order
      → (fw bw : List ClosedFactor)
      → (akF outF : List ℕ) × Side K N (reverse pre) k fw akF outF → (akB outB : List ℕ) × Side K N q k bw akB outB
      → In f (gather n K N fw bw (place_in k order) k).originals
  unfolding gather gather_at gathering
  keyless-meets f k none live pre q e d fw bw (akF, outF, F) (akB, outB, B) =
      let s : length q ≡ n - 1 - place_in k order = omega (arith, ap length e, length-append pre (k ∷ q), long) in
      subst₂ (λ (r s : ℕ). In f (gather_at n K N fw bw r s k).originals) (length-reverse pre ∙ d) s
      (omega (arith, uncovered-all (lf ++ lb) N f (not_in (dec_lt 0 (count f (lf ++ lb))))))
    where
      lf : List ℕ
      lf = gathered_leaves fw (length (reverse pre))

      lb : List ℕ
      lb = gathered_leaves bw (length q)

      no_leaf : In f (lf ++ lb) → ⊥
      no_leaf h = go (dec_lt 0 (count f lf))
        where
          go : Dec (0 < count f lf) → ⊥
          go (yes a) = let w = F.low f a in none w.0 w.1
          go (no a) = let w = B.low f (omega (arith, count-append f lf lb)) in none w.0 w.1

      not_in : Dec (0 < count f (lf ++ lb)) → count f (lf ++ lb) ≡ 0
      not_in (yes a) = absurd (no_leaf a)
      not_in (no a) = omega arith

  keyless-at : (f k : ℕ) → k < n → ((j : ℕ) → In j (K f) → ⊥) → In f N
      → In f (gather n K N (full_pass n K N order) (full_pass n K N (reverse order)) (place_in k order) k).originals
  unfolding full_pass
  keyless-at f k l none live = go (found_at k order (omega (arith, each k, from_in k 0 n (omega arith) (omega arith))))
    where
      go : (pre : List ℕ) × (q : List ℕ) × (order ≡ pre ++ (k ∷ q)) × (length pre ≡ place_in k order)
          → In f (gather n K N (full_pass n K N order) (full_pass n K N (reverse order)) (place_in k order) k).originals
      go (pre, q, e, d) =
          keyless-meets f k none live pre q e d (full_pass n K N order) (full_pass n K N (reverse order))
          (subst (λ (o : List ℕ). (ak out : List ℕ) × Side K N (reverse pre) k (state_after n K N o).messages ak out) (sym (reversed k pre q e))
          (a_side n K N (reverse q) (reverse pre) k (λ j. omega (arith, ap (count j) (reversed k pre q e), count-reverse j order, each j, from_once n j))
          (λ j h. from-lt j n (omega (arith, ap (count j) (reversed k pre q e), count-reverse j order, each j)))))
          (subst (λ (o : List ℕ). (ak out : List ℕ) × Side K N q k (state_after n K N o).messages ak out) (sym (reverse-reverse order ∙ e))
          (a_side n K N pre q k (λ j. omega (arith, ap (count j) e, each j, from_once n j)) (λ j h. from-lt j n (omega (arith, ap (count j) e, each j)))))

  pub keyless : (f k : ℕ) → k < n → ((j : ℕ) → In j (K f) → ⊥) → In f N → (d : Gathered) → In f (get_or (plan n K N order).at_key k d).originals
  keyless f k l none live d = subst (λ (g : Gathered). In f g.originals) (sym (gathered_at_lem k l d)) (keyless-at f k l none live)
