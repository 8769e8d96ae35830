-- What a key gathers, in the tables of a run: its last elimination can be carried out, and finds the marginal of the plan. Assumes nothing.
use mathlib.Core.Path.{◌≡◌, refl, sym, ap, ◌∙◌}
use mathlib.Core.Logic.{◌⊎◌, ◌≢◌, inl, inr}
use mathlib.Core.List.{List, [], ◌∷◌, ◌++◌, map, Memᴰ}
use Prim.Native.Nat.{ℕ, zero, suc, ◌+◌, ◌≤◌, ◌<◌}
use native.Mathlib.Omega.{arith}
use lib.Ieee.{Float}
use lib.ListN.{length, get_or, take, drop, length-map, length-append, length-take, length-drop}
use lib.Seq.{length-take-le, get_or-take}
use Rattle.factor.specs.Limits.{max_variables}
use Rattle.graph.specs.declared.Graph.{Graph}
use Rattle.graph.proofs.Validity.{valid-count}
use Rattle.schedule.specs.Count.{hit, count, In, rising_where, from}
use Rattle.schedule.specs.Pass as pass
use Rattle.schedule.specs.Pass.{original, closed, ClosedFactor}
use Rattle.schedule.specs.Gather.{Gathered}
use Rattle.schedule.specs.Plan as schedule
use Rattle.schedule.proofs.Counts.{count-cons, count-nil, hit-cases, mem_in, rising_in, rising_once}
use Rattle.schedule.specs.Messages.{Settled}
use Rattle.schedule.proofs.Runs.{from-lt}
use Rattle.plan.specs.Mask.{has, keys_in}
use Rattle.plan.specs.Gather.{Held, gathered_of}
use Rattle.plan.specs.Plan.{no_gathered}
use Rattle.plan.specs.declared.gather.Gathered as arrays
use Rattle.plan.proofs.Prefixes.{map-append}
use Rattle.workspace.specs.Frames.{work_numbers}
use Rattle.slots.specs.Limits.{max_slots}
use Rattle.slots.specs.Tables.{head_of, slot_store, read_view}
use Rattle.slots.specs.Views.{FactorView}
use Rattle.gaussian.specs.Answers.{views_of}
use Rattle.gaussian.specs.Asked.{HeadFits}
use Rattle.tables.specs.Originals.{original_view}
use Rattle.tables.proofs.Dimensions.{total-within, kept_listed, cleared_listed}
use Rattle.lists.specs.Lists.{backward_shift, message_number, slot_number, gathered_numbers}
use Rattle.messages.specs.Figure.{need}
use Rattle.messages.specs.Values.{slot_view, values}
use Rattle.messages.proofs.Members.{at_in, at_map, below-cleared, below-kept, once, kept-length}
use Rattle.messages.proofs.Slots.{slot_fits}
use Rattle.messages.proofs.Reading.{slot_view_lem}
use Rattle.marginals.specs.Marginals.{marginal_numbers, gathered_views, marginal, marginals_from}
use Rattle.marginals.specs.Asked.{found_at, found_from, AskedAt, Findable, PlanCarried}
use Rattle.graph.specs.Record.{factor_keys}

-- ---- lists, entry by entry

module _ (P : ℕ → Type 0) where
  at-append : (a b : List ℕ) → ((i : ℕ) → i < length a → P (get_or a i 0)) → ((i : ℕ) → i < length b → P (get_or b i 0)) → (i : ℕ) → i < length (a ++ b)
      → P (get_or (a ++ b) i 0)
  at-append [] b ha hb i h = hb i h
  at-append (x ∷ a) b ha hb zero h = ha 0 (omega arith)
  at-append (x ∷ a) b ha hb (suc i) h = at-append a b (λ j l. ha (suc j) (omega arith)) hb i (omega arith)

  at_mapped : (f : ℕ → ℕ) (l : List ℕ) → ((x : ℕ) → In x l → P (f x)) → (i : ℕ) → i < length (map f l) → P (get_or (map f l) i 0)
  at_mapped f l h i b =
      let k : i < length l = omega (arith, length-map l f) in
      rw (at_map f l i 0 0 k) (h (get_or l i 0) (at_in l i k))

map-map : {A : Type 0} (f : ℕ → A) (g : ℕ → ℕ) (h : ℕ → A) (l : List ℕ) → ((x : ℕ) → Memᴰ x l → f (g x) ≡ h x) → map f (map g l) ≡ map h l
map-map f g h [] e = refl
map-map f g h (x ∷ l) e = rw (e x (Memᴰ.head refl), map-map f g h l (λ y m. e y (Memᴰ.tail m))) refl

map_same : {A : Type 0} (f h : ℕ → A) (l : List ℕ) → ((x : ℕ) → Memᴰ x l → f x ≡ h x) → map f l ≡ map h l
map_same f h [] e = refl
map_same f h (x ∷ l) e = rw (e x (Memᴰ.head refl), map_same f h l (λ y m. e y (Memᴰ.tail m))) refl

-- ---- how many slots are gathered

set-few : (m : ℕ) → length (keys_in m) ≤ max_variables
unfolding keys_in
set-few m = kept-length max_variables [] (rising_where max_variables (λ j. has j m)) (λ x. apart x)
    (λ x h. (rising_in max_variables (λ j. has j m) x (omega (arith, count-nil x))).1)
  where
    apart : (x : ℕ) → count x [] + count x (rising_where max_variables (λ j. has j m)) ≤ 1
    apart x = omega (arith, count-nil x, rising_once max_variables (λ j. has j m) x)

numbers-few : (q : arrays.Gathered) → Held q → length (gathered_numbers (gathered_of q)) ≤ max_slots
unfolding gathered_of
numbers-few q held =
    let o : List ℕ = drop q.covered (take q.count q.items) in
    omega (
      arith,
      length-append (map (message_number 0) (keys_in q.forward)) (map (message_number backward_shift) (keys_in q.backward) ++ o),
      length-append (map (message_number backward_shift) (keys_in q.backward)) o,
      length-map (keys_in q.forward) (message_number 0),
      length-map (keys_in q.backward) (message_number backward_shift),
      set-few q.forward,
      set-few q.backward,
      length-drop q.covered (take q.count q.items),
      length-take q.count q.items,
      held.items.few,
    )

-- ---- one key

module _ (g : Graph) (p : schedule.Plan) (at : List arrays.Gathered) (factors messages : List Float) (keys heads : List ℕ)
    (run : PlanCarried g p at factors messages keys heads) where
  abbrev fw : List ClosedFactor
  fw = p.forward

  abbrev bw : List ClosedFactor
  bw = p.backward

  module _ (k : ℕ) (l : k < g.variables) (q : Gathered) (settled : Settled g.variables (factor_keys g) (from 0 g.count) fw bw k q) where
    -- the keys of the elimination
    low : (x : ℕ) → 1 ≤ count x q.last + count x (k ∷ []) → x < g.variables
    low x h = go (hit-cases x k)
      where
        go : ((x ≡ k) × (hit x k ≡ 1)) ⊎ ((x ≢ k) × (hit x k ≡ 0)) → x < g.variables
        go (inl (e, z)) = rw e l
        go (inr (e, z)) = settled.low x (omega (arith, count-cons x k [], count-nil x))

    -- the slots
    abbrev Fits : ℕ → Type 0
    Fits number = (number < max_slots) × HeadFits (k ∷ []) q.last g.sizes keys (length (slot_store (head_of heads number).slot factors messages))
        (head_of heads number)

    forward-fits : (j : ℕ) → In j q.forward → Fits (message_number 0 j)
    unfolding slot_number pass.slot_keys need
    forward-fits j h =
        let s = settled.forward j h in (
          omega (arith, s.0, run.forward.few),
          slot_fits g fw run.forward 0 0 (length fw) keys heads (omega arith) (omega arith) run.tables run.placed (k ∷ []) q.last
              (closed j) s.0 s.1 factors messages run.enough (omega (arith, run.enough')),
        )

    backward-fits : (j : ℕ) → In j q.backward → Fits (message_number backward_shift j)
    unfolding slot_number pass.slot_keys need
    backward-fits j h =
        let s = settled.backward j h in (
          omega (arith, s.0, run.backward.few),
          slot_fits g bw run.backward backward_shift (need g fw) (length bw) keys heads (omega arith) (omega arith) run.tables run.placed'
              (k ∷ []) q.last (closed j) s.0 s.1 factors messages run.enough run.enough',
        )

    original-fits : (i : ℕ) → In i q.originals → Fits i
    unfolding slot_number pass.slot_keys need
    original-fits i h =
        let s = settled.originals i h in
        let b : i < g.count = from-lt i g.count s.0 in (
          omega (arith, b, valid-count g run.forward.sound),
          slot_fits g fw run.forward 0 0 (length fw) keys heads (omega arith) (omega arith) run.tables run.placed (k ∷ []) q.last
              (original i) b s.1 factors messages run.enough (omega (arith, run.enough')),
        )

    slots_fit : (i : ℕ) → i < length (gathered_numbers q) → Fits (get_or (gathered_numbers q) i 0)
    slots_fit =
        at-append Fits (map (message_number 0) q.forward) (map (message_number backward_shift) q.backward ++ q.originals)
        (at_mapped Fits (message_number 0) q.forward forward-fits)
        (at-append Fits (map (message_number backward_shift) q.backward) q.originals
        (at_mapped Fits (message_number backward_shift) q.backward backward-fits)
        (λ i h. original-fits (get_or q.originals i 0) (at_in q.originals i h)))

    key-asked : (work : ℕ) → work_numbers ≤ work → length (gathered_numbers q) ≤ max_slots → AskedAt g.sizes factors messages work keys heads k q
    key-asked work enough few =
        let bc = below-cleared g.variables q.last (k ∷ []) settled.apart low in
        let bk = below-kept g.variables q.last (k ∷ []) settled.apart low in
        let o = once g.variables q.last (k ∷ []) settled.apart low in
        record {
          kept_listed = kept_listed g run.forward.sound q.last (k ∷ []) bc bk o;
          cleared_listed = cleared_listed g run.forward.sound q.last (k ∷ []) bc bk o;
          total = total-within g run.forward.sound q.last (k ∷ []) bc bk o;
          few = few;
          headed = λ i h. omega (arith, (slots_fit i h).0, run.tables.long_heads);
          fits = λ i h. (slots_fit i h).1;
          enough = enough;
        }

    -- what is read there
    abbrev view : ℕ → FactorView
    view number = read_view factors messages keys (head_of heads number)

    forward-views : map view (map (message_number 0) q.forward) ≡ map (λ j. slot_view g factors fw (values g factors fw) (closed j)) q.forward
    unfolding slot_number values
    forward-views = map-map view (message_number 0) _ q.forward
        (λ j m. slot_view_lem g fw run.forward 0 0 (length fw) keys heads (omega arith) (omega arith) run.tables run.placed factors messages
        run.stored (closed j) (settled.forward j (mem_in m)).0)

    backward-views : map view (map (message_number backward_shift) q.backward)
        ≡ map (λ j. slot_view g factors bw (values g factors bw) (closed j)) q.backward
    unfolding slot_number values
    backward-views =
        map-map view (message_number backward_shift) _ q.backward (λ j m. slot_view_lem g bw run.backward backward_shift (need g fw) (length bw) keys
        heads (omega arith) (omega arith) run.tables run.placed' factors messages run.stored' (closed j) (settled.backward j (mem_in m)).0)

    original-views : map view q.originals ≡ map (original_view g factors) q.originals
    unfolding slot_number slot_view
    original-views =
        map_same view (original_view g factors) q.originals (λ i m. slot_view_lem g fw run.forward 0 0 (length fw) keys heads (omega arith)
        (omega arith) run.tables run.placed factors messages run.stored (original i) (from-lt i g.count (settled.originals i (mem_in m)).0))

    views-are : views_of factors messages keys heads (gathered_numbers q) ≡ gathered_views g factors p (values g factors fw) (values g factors bw) q
    unfolding views_of gathered_views
    views-are =
        map-append view (map (message_number 0) q.forward) (map (message_number backward_shift) q.backward ++ q.originals)
        ∙ rw (map-append view (map (message_number backward_shift) q.backward) q.originals, forward-views, backward-views, original-views) refl

    marginal-is : found_at g.sizes factors messages keys heads k q ≡ marginal g factors p (values g factors fw) (values g factors bw) k q
    unfolding found_at marginal
    marginal-is = rw views-are refl

  -- ---- all keys

  abbrev entry : ℕ → Gathered
  entry k = gathered_of (get_or at k no_gathered)

  pub findable : (work results : ℕ) → work_numbers ≤ work → marginal_numbers g ≤ results → Findable g at factors messages work keys heads results
  findable work results enough room =
      record {
        sound = run.forward.sound;
        long = run.long;
        held = run.held;
        asked = λ k l. key-asked k l (entry k) (run.settled k l) work enough (numbers-few (get_or at k no_gathered) (run.held k l));
        room = room;
      }

  from_is : (k : ℕ) (qs : List Gathered) (d : Gathered) → ((i : ℕ) → i < length qs
      → (k + i < g.variables) × Settled g.variables (factor_keys g) (from 0 g.count) fw bw (k + i) (get_or qs i d))
      → found_from g.sizes factors messages keys heads k qs ≡ marginals_from g factors p (values g factors fw) (values g factors bw) k qs
  unfolding found_from marginals_from
  from_is k [] d h = refl
  from_is k (q ∷ qs) d h =
      let e : k + 0 ≡ k = omega arith in
      let z = h 0 (omega arith) in
      rw (
        marginal-is k (omega (arith, z.0)) q (rw e at z.1),
        from_is (k + 1) qs d
            (λ i l. let n : k + suc i ≡ k + 1 + i = omega arith in rw n at (h (suc i) (omega arith))),
      ) refl

  pub found-planned : found_from g.sizes factors messages keys heads 0 (map gathered_of (take g.variables at))
      ≡ marginals_from g factors p (values g factors fw) (values g factors bw) 0 p.at_key
  found-planned = from_is 0 (map gathered_of (take g.variables at)) (gathered_of no_gathered) each
      ∙ ap (marginals_from g factors p (values g factors fw) (values g factors bw) 0) (sym run.gathers)
    where
      each : (i : ℕ) → i < length (map gathered_of (take g.variables at))
          → (0 + i < g.variables) × Settled g.variables (factor_keys g) (from 0 g.count) fw bw (0 + i)
          (get_or (map gathered_of (take g.variables at)) i (gathered_of no_gathered))
      each i h =
          let b : i < length (take g.variables at) = omega (arith, length-map (take g.variables at) gathered_of) in
          let n : i < g.variables = omega (arith, length-take-le g.variables at run.long) in
          let z : 0 + i ≡ i = omega arith in
          rw (at_map gathered_of (take g.variables at) i no_gathered (gathered_of no_gathered) b, get_or-take g.variables at i no_gathered n, z)
          (n, run.settled i n)
