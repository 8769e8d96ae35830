-- The place of a key, and the plan key by key.
-- Assumes nothing.
use mathlib.Core.Path.{◌≡◌, refl, sym, ap, ap₂, subst, ◌∙◌}
use mathlib.Core.Bool.{true, false, not}
use mathlib.Core.List.{List, [], ◌∷◌, ◌++◌, map, reverse}
use Prim.Native.Nat.{ℕ, suc, ◌+◌, ◌-◌, ◌≤◌, ◌<◌}
use native.Mathlib.Numerals.{add-one}
use native.Mathlib.Nat.{zero-add}
use native.Mathlib.Omega.{arith}
use native.Mathlib.Decide.{ℕ_discrete, dec_lt}
use borrow.Author.Tests.{eq-eqb, ne_eqb, lt-ltb, le-ltb}
use Rattle.std.proofs.Common.{Option, position}
use Rattle.std.specs.Option.{unwrap_or}
use Rattle.std.specs.List.{position_or_len}
use Rattle.std.proofs.lemmas.List.Sums.{prefix_len-le-length}
use lib.Dec.{T, eqb, lt→ltb}
use lib.ListN.{length, get_or, take, set, length-set, length-append, length-reverse}
use lib.Seq.{take-suc-set, get_or-take, length-take-le, get_or-set_same, get_or-set_other}
use Rattle.factor.specs.Limits.{max_variables, max_factors}
use Rattle.schedule.specs.Count.{count, In, from}
use Rattle.schedule.specs.Pass.{full_pass}
use Rattle.schedule.specs.Gather.{gather, gather_at}
use Rattle.schedule.specs.Plan.{place_in}
use Rattle.schedule.specs.Gather as schedule
use Rattle.schedule.specs.Plan as plan
use Rattle.schedule.proofs.Counts.{from_in, count-reverse, in_list}
use Rattle.schedule.proofs.Runs.{from-lt}
use Rattle.schedule.proofs.Demand3.{found_at}
use Rattle.schedule.proofs.Sums.{from_snoc}
use Rattle.plan.specs.Mask.{keys_in}
use Rattle.plan.specs.Pass.{messages_of, PassReady, Order, Agrees, Passes}
use Rattle.plan.specs.Gather.{Gatherable, Gathers, gathered_of, Held}
use Rattle.plan.specs.Plan.{Sound, plan_in, Plans, no_gathered}
use Rattle.plan.specs.declared.pass.Pass.{Pass}
use Rattle.plan.specs.declared.gather.Gathered.{Gathered}
use Rattle.plan.proofs.Prefixes.{map-append}
use Rattle.plan.proofs.Sending.{keys_in-mem}
use Rattle.plan.proofs.Gatherable.{gatherable, keyed}

-- ---- the place of a key
place_here : (k x : ℕ) (l : List ℕ) → eqb k x ≡ true → place_in k (x ∷ l) ≡ 0
unfolding place_in
place_here k x l e = rw e

place_on : (k x : ℕ) (l : List ℕ) → eqb k x ≡ false → place_in k (x ∷ l) ≡ suc (place_in k l)
unfolding place_in
place_on k x l e = rw e

-- the first place at which the key stands, or the length
place_first : (k : ℕ) (l : List ℕ) → position_or_len (λ x. eqb x k) l ≡ place_in k l
unfolding place_in
place_first k [] = refl
place_first k (x ∷ l) = go (ℕ_discrete x k) (place_first k l)
  where
    go : Dec (x ≡ k) → position_or_len (λ x. eqb x k) l ≡ place_in k l → position_or_len (λ x. eqb x k) (x ∷ l) ≡ place_in k (x ∷ l)
    go (yes e) h = rw (eq-eqb x k e) (sym (place_here k x l (eq-eqb k x (sym e))))
    go (no e) h = rw (ne_eqb x k e) (omega (arith, h, place_on k x l (ne_eqb k x (λ q. e (sym q)))))

pub place-found : (k n : ℕ) (l : List ℕ) (r : Option ℕ) → length l ≡ n → r ≡ position (λ x. eqb x k) l → unwrap_or r n ≡ place_in k l
place-found k n l r long e = go (dec_lt first (length l))
  where
    first : ℕ
    first = position_or_len (λ x. eqb x k) l

    go : Dec (first < length l) → unwrap_or r n ≡ place_in k l
    go (yes h) = rw (e, lt-ltb first (length l) h) (place_first k l)
    go (no h) = rw (e, le-ltb first (length l) (omega arith)) (omega (arith, place_first k l, prefix_len-le-length (λ x. not (eqb x k)) l))

-- ---- the plan

low_of : (l : List ℕ) (n : ℕ) → length (take n l) ≡ n → ((j : ℕ) → count j (take n l) ≡ count j (from 0 n)) → (i : ℕ) → i < n → get_or l i 0 < n
low_of l n e each i h =
    subst (λ (x : ℕ). x < n) (get_or-take n l i 0 h)
    (from-lt (get_or (take n l) i 0) n (omega (arith, each (get_or (take n l) i 0), in_list (take n l) i (omega arith))))

-- the keys of the originals, by their masks
abbrev pub own : List ℕ → ℕ → List ℕ
own keys i = keys_in (get_or keys i 0)

module _ (keys live order : List ℕ) (number n : ℕ) (sound : Sound keys live number order n) where
  pub agrees : Agrees keys (own keys)
  agrees i j = sym (keys_in-mem n (get_or keys i 0) j sound.few (sound.low i j))

  pub below : (K : ℕ → List ℕ) → Agrees keys K → (f j : ℕ) → In j (K f) → j < n
  below K ag f j h = sound.low f j (subst T (sym (ag f j)) (lt→ltb 0 (count j (K f)) h))

  module _ (long : length live ≡ max_factors) (long' : length order ≡ max_variables) where
    order_long : length (take n order) ≡ n
    order_long = length-take-le n order (omega (arith, sound.few))

    pub placed : (k : ℕ) → k < n → place_in k (take n order) < n
    placed k h = go (found_at k (take n order) (omega (arith, sound.ordered.each k, from_in k 0 n (omega arith) (omega arith))))
      where
        go : (pre : List ℕ) × (q : List ℕ) × (take n order ≡ pre ++ (k ∷ q)) × (length pre ≡ place_in k (take n order)) → place_in k (take n order) < n
        go (pre, q, e, d) = omega (arith, ap length e, length-append pre (k ∷ q), order_long)

    pub in_order : Order order n
    in_order = record { few = sound.few; low = low_of order n order_long sound.ordered.each }

    pub in_back : (back : List ℕ) → take n back ≡ reverse (take n order) → Order back n
    in_back back e = record {
      few = sound.few;
      low = low_of back n (ap length e ∙ length-reverse (take n order) ∙ order_long)
          (λ j. ap (count j) e ∙ count-reverse j (take n order) ∙ sound.ordered.each j);
    }

-- Both passes of a sound graph, as the code has made them: the sizes of the arrays, the bounds, and what the messages are.
pub record Both (keys live order : List ℕ) (number n : ℕ) (fw bw : Pass) : Type 0 where
  pub sound : Sound keys live number order n
  pub long : length live ≡ max_factors
  pub long' : length order ≡ max_variables
  pub ready : PassReady n fw
  pub ready' : PassReady n bw
  pub forward : Passes keys (take number live) (take n order) n fw
  pub backward : Passes keys (take number live) (reverse (take n order)) n bw

module _ (keys live order : List ℕ) (number n : ℕ) where
  abbrev N : List ℕ
  N = take number live

  abbrev along : List ℕ
  along = take n order

  -- the gathering of the definition at the key k
  abbrev wanted : (ℕ → List ℕ) → ℕ → schedule.Gathered
  wanted K k = gather n K N (full_pass n K N along) (full_pass n K N (reverse along)) (place_in k along) k

  -- the first k gatherings are those of the definition
  pub record Planning (at : List Gathered) (k : ℕ) : Type 0 where
    pub here : k ≤ n
    pub size : length at ≡ max_variables
    pub is : (K : ℕ → List ℕ) → Agrees keys K → map gathered_of (take k at) ≡ map (wanted K) (from 0 k)
    pub held : (i : ℕ) → i < k → Held (get_or at i no_gathered)

  pub start : (at : List Gathered) → length at ≡ max_variables → Planning at 0
  unfolding from
  start at l = record { here = omega arith; size = l; is = λ K ag. refl; held = λ i h. absurd (omega arith) }

  module _ (fw bw : Pass) (both : Both keys live order number n fw bw) where
    -- what the gathering of the key k asks holds
    pub may_gather : (k r s : ℕ) → k < n → r ≡ place_in k along → s ≡ n - 1 - r → Gatherable fw bw live number r s
    may_gather k r s h e d =
        subst (λ (x : ℕ). Gatherable fw bw live number r x) (sym (d ∙ ap (λ (x : ℕ). n - 1 - x) e))
        (subst (λ (x : ℕ). Gatherable fw bw live number x (n - 1 - place_in k along)) (sym e)
        (gatherable fw bw live number n (own keys) along (both.forward (own keys) agreed) (both.backward (own keys) agreed) both.long
        both.sound.ordered.originals both.sound.few
        both.ready both.ready' both.sound.ordered.distinct (below keys live order number n both.sound (own keys) agreed)
        both.sound.ordered.each k h))
      where
        agreed : Agrees keys (own keys)
        agreed = agrees keys live order number n both.sound

    got : (k r s : ℕ) (g : Gathered) (K : ℕ → List ℕ) → Agrees keys K → r ≡ place_in k along → s ≡ n - 1 - r → Gathers fw bw keys N r s k g → gathered_of g
        ≡ wanted K k
    unfolding gather
    got k r s g K ag e d h =
        h n K ag
        (keyed fw bw live number n K along (both.forward K ag) (both.backward K ag) both.long both.sound.ordered.originals both.sound.few
        both.ready both.ready' both.sound.ordered.distinct
        (below keys live order number n both.sound K ag) both.sound.ordered.each)
        ∙ ap₂ (λ (x y : ℕ). gather_at n K N (messages_of fw) (messages_of bw) x y k) e (d ∙ ap (λ (x : ℕ). n - 1 - x) e)
        ∙ ap₂ (λ (x y : List _). gather_at n K N x y (place_in k along) (n - 1 - place_in k along) k) (both.forward K ag) (both.backward K ag)

    pub more : (at : List Gathered) (k r s : ℕ) (g : Gathered) → Planning at k → k < n → r ≡ place_in k along → s ≡ n - 1 - r
        → Gathers fw bw keys N r s k g → Held g → Planning (set at k g) (k + 1)
    more at k r s g t h e d q v = record {
      here = omega arith;
      size = length-set at k g ∙ t.size;
      is = λ K ag.
          ap (λ (m : ℕ). map gathered_of (take m (set at k g))) (add-one k) ∙ ap (map gathered_of) (take-suc-set at k g (omega (arith, t.size, both.sound.few)))
          ∙ map-append gathered_of (take k at) (g ∷ []) ∙ ap₂ (λ (x : List schedule.Gathered) (y : schedule.Gathered). x ++ (y ∷ [])) (t.is K ag)
          (got k r s g K ag e d q)
          ∙ sym (ap (λ (m : ℕ). map (wanted K) (from 0 m)) (add-one k) ∙ ap (map (wanted K)) (from_snoc 0 k)
          ∙ map-append (wanted K) (from 0 k) ((0 + k) ∷ []) ∙ ap (λ (m : ℕ). map (wanted K) (from 0 k) ++ (wanted K m ∷ [])) (zero-add k));
      held = λ i l. holds i l (ℕ_discrete i k);
    }
      where
        holds : (i : ℕ) → i < k + 1 → Dec (i ≡ k) → Held (get_or (set at k g) i no_gathered)
        holds i l (yes q) =
            subst (λ (x : ℕ). Held (get_or (set at k g) x no_gathered)) (sym q)
            (subst Held (sym (get_or-set_same at k g no_gathered (omega (arith, t.size, both.sound.few)))) v)
        holds i l (no q) = subst Held (sym (get_or-set_other at k i g no_gathered q)) (t.held i (omega arith))

    pub done : (at : List Gathered) (k : ℕ) → Planning at k → n ≤ k → Plans keys N along n (record { forward = fw; backward = bw; at = at })
    unfolding plan_in plan.plan
    done at k t h K ag =
        let e : k ≡ n = omega (arith, t.here) in
        ap₂ (λ (x y : List _). record { forward = x; backward = y; at_key = map gathered_of (take n at) }) (both.forward K ag) (both.backward K ag)
        ∙ ap (λ (l : List schedule.Gathered). record { forward = full_pass n K N along; backward = full_pass n K N (reverse along); at_key = l })
        (subst (λ (m : ℕ). map gathered_of (take m at) ≡ map (wanted K) (from 0 m)) e (t.is K ag))
