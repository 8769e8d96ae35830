-- The messages of a pass made one after the other: each is the elimination of the definition, and stands in the store after those before it. Assumes nothing.
use mathlib.Core.Path.{◌≡◌, refl, sym, ap, ◌∙◌}
use mathlib.Core.List.{List, [], ◌∷◌, ◌++◌, map, append_assoc, append-nil, Memᴰ}
use Prim.Native.Nat.{ℕ, zero, suc, ◌+◌, ◌-◌, ◌*◌, ◌≤◌, ◌<◌}
use native.Mathlib.Omega.{arith}
use native.Mathlib.Numerals.{add-one}
use native.Mathlib.Decide.{dec_lt}
use lib.Ieee.{Float}
use lib.ListN.{length, take, drop, length-append, length-take, take-append-drop}
use lib.Seq.{length-take-le, take_at, drop_at, drop-drop}
use Rattle.matrix.specs.Views.{part, splice}
use Rattle.workspace.specs.Frames.{work_numbers}
use Rattle.workspace.proofs.Parts.{part_same, part-below, length-splice}
use Rattle.factor.specs.Limits.{max_variables}
use Rattle.factor.specs.Factor.{lay}
use Rattle.graph.specs.Record.{offset}
use Rattle.graph.specs.declared.Graph.{Graph}
use Rattle.graph.specs.declared.refusal.Refusal.{Refusal}
use Rattle.graph.specs.declared.refusal.Refusal.TheVariants.{ClearedPivot, ResultNotFinite}
use Rattle.schedule.specs.Pass.{Slot, ClosedFactor, at}
use Rattle.slots.specs.Limits.{max_slots}
use Rattle.slots.specs.Views.{FactorView, factor_numbers}
use Rattle.slots.specs.Layouts.{layout_of}
use Rattle.slots.specs.Tables.{head_of, read_view, rows_by_all}
use Rattle.gaussian.specs.Elimination.{Outcome, pivot, not_finite, message, eliminate, numbers_in}
use Rattle.gaussian.specs.Answers.{eliminated_as, message_stored, views_of}
use Rattle.gaussian.specs.Asked.{Asked, Roomy, Sized}
use Rattle.cholesky.specs.declared.Fault.{Fault}
use Rattle.cholesky.specs.declared.Fault.TheVariants.{Pivot, NotFinite}
use Rattle.std.proofs.Common.{Result, Ok, Err}
use Rattle.gaussian.proofs.Outcomes.{Came, at-pivot, at_unbounded, at_rows, asked_sized, whole_length}
use Rattle.slots.specs.declared.Head.{Head}
use Rattle.lists.specs.Lists.{backward_shift, slot_number, message_number, Holds}
use Rattle.lists.specs.declared.Lists.{Lists}
use Rattle.messages.specs.Values.{slot_view, message_made, values_to, value_at, values, none, refused_at, refusal_from, finished_numbers}
use Rattle.messages.specs.Figure.{rows_at, width_at, need_to, need}
use Rattle.messages.specs.Tables.{Carriable, PlacedTo, Tables, Stored, AllStored}
use Rattle.messages.specs.Asked.{kept_of, cleared_of, listed_slots, refusal_of}
use Rattle.messages.proofs.Slots.{need-more, need_rises, message-kept, message-cleared, message-total, message-rows-most}
use Rattle.messages.proofs.Rows.{products}
use Rattle.messages.proofs.Placing.{known, fits, headed, rows_are}
use Rattle.messages.proofs.Reading.{values_length, slot_view_lem}

-- a message stands where it stood, if the store is as it was up to where it ends
pub stored-stays : (g : Graph) (factors : List Float) (ms : List ClosedFactor) (start : ℕ) (store store' : List Float) (i j to : ℕ) → i < j
    → start + need_to g ms j ≤ to
    → ((a b : ℕ) → b ≤ to → part store' a b ≡ part store a b) → Stored g factors ms start store i → Stored g factors ms start store' i
stored-stays g factors ms start store store' i j to h room same o =
    record {
      rows = o.rows;
      a = o.a;
      xi = o.xi;
      w = o.w;
      is = o.is;
      of_rows = o.of_rows;
      of_a = o.of_a;
      of_xi = o.of_xi;
      of_w = o.of_w;
      stands = same (start + need_to g ms i) (start + need_to g ms i + factor_numbers o.rows (width_at g ms i))
          (rw o.of_rows (omega (arith, need_rises g ms i j h))) ∙ o.stands;
    }

-- ---- lists of outcomes

-- all of them are messages
abbrev pub AllMade : List Outcome → Type 0
AllMade [] = Unit
AllMade (pivot ∷ vs) = ⊥
AllMade (not_finite ∷ vs) = ⊥
AllMade (message r a xi w ∷ vs) = AllMade vs

made_more : (vs : List Outcome) (r : ℕ) (a xi w : List Float) → AllMade vs → AllMade (vs ++ (message r a xi w ∷ []))
made_more [] r a xi w h = tt
made_more (pivot ∷ vs) r a xi w h = absurd h
made_more (not_finite ∷ vs) r a xi w h = absurd h
made_more (message s b yi u ∷ vs) r a xi w h = made_more vs r a xi w h

finished_on : (vs rest : List Outcome) → AllMade vs → finished_numbers (vs ++ rest) ≡ finished_numbers vs ++ finished_numbers rest
unfolding finished_numbers
finished_on [] rest h = refl
finished_on (pivot ∷ vs) rest h = absurd h
finished_on (not_finite ∷ vs) rest h = absurd h
finished_on (message r a xi w ∷ vs) rest h = rw (finished_on vs rest h)
    (sym (append_assoc (numbers_in (message r a xi w)) (finished_numbers vs) (finished_numbers rest)))

stop_on : (i : ℕ) (vs rest : List Outcome) → AllMade vs → refusal_from i (vs ++ rest) ≡ refusal_from (i + length vs) rest
unfolding refusal_from
stop_on i [] rest h = ap (λ (n : ℕ). refusal_from n rest) (omega arith)
stop_on i (pivot ∷ vs) rest h = absurd h
stop_on i (not_finite ∷ vs) rest h = absurd h
stop_on i (message r a xi w ∷ vs) rest h = stop_on (i + 1) vs rest h ∙ ap (λ (n : ℕ). refusal_from n rest) (omega arith)

-- the values of a pass from the j-th on
values-split : (g : Graph) (factors : List Float) (ms : List ClosedFactor) (j n : ℕ) → j < n
    → (rest : List Outcome) × (values_to g factors ms n ≡ values_to g factors ms j ++ (value_at g factors ms j ∷ rest))
unfolding values_to
values-split g factors ms j zero h = absurd (omega arith)
values-split g factors ms j (suc n) h = go (dec_lt j n) (values-split g factors ms j n)
  where
    go : Dec (j < n) → (j < n → (rest : List Outcome) × (values_to g factors ms n ≡ values_to g factors ms j ++ (value_at g factors ms j ∷ rest)))
        → (rest : List Outcome) × (values_to g factors ms n ++ (value_at g factors ms n ∷ []) ≡ values_to g factors ms j ++ (value_at g factors ms j ∷ rest))
    go (yes l) ih =
        let r = ih l in (
          r.0 ++ (value_at g factors ms n ∷ []),
          ap (λ (vs : List Outcome). vs ++ (value_at g factors ms n ∷ [])) r.1
              ∙ append_assoc (values_to g factors ms j) (value_at g factors ms j ∷ r.0) (value_at g factors ms n ∷ []),
        )
    go (no l) ih = let e : j ≡ n = omega arith in rw e ([], refl)

-- ---- the store

lay-next : (store l t m : List Float) (s to : ℕ) → s + length l ≤ length store → to ≡ s + length l → m ≡ lay store s l → splice m to (to + length t) t
    ≡ lay store s (l ++ t)
lay-next store l t m s to room et em =
    let k : length (take s store ++ l) ≡ to = length-append (take s store) l ∙ omega (arith, length-take-le s store (omega arith)) in
    let n : to + length t - to ≡ length t = omega arith in
    let e : s + length (l ++ t) ≡ s + length l + length t = omega (arith, length-append l t) in
    rw (
      em,
      n,
      take_at (take s store ++ l) (drop (s + length l) store) to k,
      drop_at (take s store ++ l) (drop (s + length l) store) to k,
      drop-drop (length t) (s + length l) store,
      e,
    )
    (sym (append_assoc (take s store ++ l) t (drop (s + length l + length t) store))
    ∙ ap (λ (x : List Float). x ++ drop (s + length l + length t) store) (append_assoc (take s store) l t))

-- ---- one message

-- what has been made after j messages
pub record Carrying (g : Graph) (factors : List Float) (ms : List ClosedFactor) (start : ℕ) (store messages : List Float) (to j : ℕ) : Type 0 where
  pub few : j ≤ length ms
  pub to_is : to ≡ start + need_to g ms j
  pub all_made : AllMade (values_to g factors ms j)
  pub held : (i : ℕ) → i < j → Stored g factors ms start messages i
  pub lies : messages ≡ lay store start (finished_numbers (values_to g factors ms j))
  pub long : length (finished_numbers (values_to g factors ms j)) ≡ need_to g ms j
  pub same : length messages ≡ length store

pub carrying_none : (g : Graph) (factors : List Float) (ms : List ClosedFactor) (start : ℕ) (store : List Float) → start ≤ length store
    → Carrying g factors ms start store store start 0
unfolding need_to values_to finished_numbers
carrying_none g factors ms start store h =
    record {
      few = omega arith;
      to_is = omega arith;
      all_made = tt;
      held = λ i l. absurd (omega arith);
      lies = let e : start + 0 ≡ start = omega arith in rw (e, append-nil (take start store)) (sym (take-append-drop start store));
      long = refl;
      same = refl;
    }

module _ (g : Graph) (factors : List Float) (ms : List ClosedFactor) (c : Carriable g ms) (shift start : ℕ) (keys heads : List ℕ)
    (store messages : List Float) (to j work : ℕ)
    (low : shift ≤ backward_shift) (l : j < length ms) (tables : Tables g keys heads) (placed : PlacedTo g ms shift start keys heads (length ms))
    (sized : length g.sizes ≡ max_variables)
    (hf : offset g g.count ≤ length factors) (hm : start + need g ms ≤ length store) (hw : work_numbers ≤ work)
    (p : Carrying g factors ms start store messages to j) (lists : Lists) (holds : Holds shift (at ms j) lists) where
  abbrev m : ClosedFactor
  m = at ms j

  abbrev slots : List ℕ
  slots = map (slot_number shift) m.content

  before : PlacedTo g ms shift start keys heads j
  before i h = placed i (omega arith)

  room : start + need_to g ms j + factor_numbers (rows_at g ms j) (width_at g ms j) ≤ length messages
  unfolding need
  room = omega (arith, need_rises g ms j (length ms) l, p.same)

  few-slots : length slots ≤ max_slots
  few-slots = omega (arith, ap length holds.slots, length-take lists.count lists.slots, holds.few)

  asked : Asked m.kept m.cleared g.sizes factors messages work keys heads slots
  asked =
      record {
        kept_listed = message-kept g ms c j l;
        cleared_listed = message-cleared g ms c j l;
        total = message-total g ms c j l;
        few = few-slots;
        headed = headed g ms c shift start j keys heads low l tables before sized;
        fits = fits g ms c shift start j keys heads low l tables before sized factors messages hf (omega (arith, room));
        enough = hw;
      }

  roomy : Roomy m.kept m.cleared g.sizes keys heads slots to (length messages)
  roomy = rw (rows_are g ms c shift start j keys heads low l tables before sized, p.to_is) room

  pub asked_lists : Asked (kept_of lists) (cleared_of lists) g.sizes factors messages work keys heads (listed_slots lists)
  asked_lists = rw (holds.kept, holds.cleared, holds.slots) asked

  pub roomy_lists : Roomy (kept_of lists) (cleared_of lists) g.sizes keys heads (listed_slots lists) to (length messages)
  roomy_lists = rw (holds.kept, holds.cleared, holds.slots) roomy

  -- the factors that the elimination reads are those of the definition
  views-are : views_of factors messages keys heads slots ≡ map (slot_view g factors ms (values_to g factors ms j)) m.content
  unfolding views_of
  views-are = go m.content (λ s h. h)
    where
      go : (content : List Slot) → ((s : Slot) → Memᴰ s content → Memᴰ s m.content)
          → map (λ number. read_view factors messages keys (head_of heads number)) (map (slot_number shift) content)
          ≡ map (slot_view g factors ms (values_to g factors ms j)) content
      go [] h = refl
      go (s ∷ rest) h =
          rw (slot_view_lem g ms c shift start j keys heads low (omega arith) tables before factors messages p.held s
          (known g ms c shift start j keys heads low l tables before sized s (h s (Memᴰ.head refl))))
          (ap (λ (r : List FactorView). slot_view g factors ms (values_to g factors ms j) s ∷ r) (go rest (λ t k. h t (Memᴰ.tail k))))

  plain_value : eliminate (views_of factors messages keys heads slots) m.kept m.cleared g.sizes ≡ value_at g factors ms j
  unfolding message_made
  plain_value = rw views-are refl

  value-is : eliminate (views_of factors messages keys heads (listed_slots lists)) (kept_of lists) (cleared_of lists) g.sizes ≡ value_at g factors ms j
  value-is = rw (holds.kept, holds.cleared, holds.slots) plain_value

  abbrev outcome : Outcome
  outcome = eliminate (views_of factors messages keys heads (listed_slots lists)) (kept_of lists) (cleared_of lists) g.sizes

  module _ (told : Result ℕ Fault) (messages' : List Float) (et : told ≡ eliminated_as outcome) (em : messages' ≡ message_stored messages to outcome) where
    -- a message was made
    module _ (r : ℕ) (er : told ≡ Ok r) where
      came : Came (value_at g factors ms j) r
      came = at_rows (value_at g factors ms j) r (ap eliminated_as (sym value-is) ∙ sym et ∙ er)

      sizes_are : Sized (rows_by_all (layout_of m.kept m.cleared g.sizes) keys heads slots (length slots)) (width_at g ms j) r came.a
          came.xi came.w
      sizes_are = asked_sized sized asked r came.a came.xi came.w (plain_value ∙ came.is)

      rows_told : r ≡ rows_at g ms j
      rows_told = sizes_are.of_rows ∙ rows_are g ms c shift start j keys heads low l tables before sized

      abbrev t : List Float
      t = numbers_in (message r came.a came.xi came.w)

      t_plain : length t ≡ factor_numbers r (width_at g ms j)
      unfolding numbers_in
      t_plain = whole_length (r * width_at g ms j) r came.a came.xi came.w sizes_are.of_a sizes_are.of_xi sizes_are.of_w

      t_length : length t ≡ factor_numbers (rows_at g ms j) (width_at g ms j)
      t_length = t_plain ∙ ap (λ (x : ℕ). factor_numbers x (width_at g ms j)) rows_told

      written : messages' ≡ splice messages to (to + length t) t
      unfolding message_stored numbers_in
      written = em ∙ rw (value-is, came.is) refl

      values-more : values_to g factors ms (j + 1) ≡ values_to g factors ms j ++ (message r came.a came.xi came.w ∷ [])
      unfolding values_to
      values-more = rw (add-one j) (ap (λ (v : Outcome). values_to g factors ms j ++ (v ∷ [])) came.is)

      one_finished : finished_numbers (message r came.a came.xi came.w ∷ []) ≡ t
      unfolding finished_numbers
      one_finished = append-nil t

      finished_more : finished_numbers (values_to g factors ms (j + 1)) ≡ finished_numbers (values_to g factors ms j) ++ t
      finished_more =
          ap finished_numbers values-more ∙ finished_on (values_to g factors ms j) (message r came.a came.xi came.w ∷ []) p.all_made
          ∙ ap (λ (x : List Float). finished_numbers (values_to g factors ms j) ++ x) one_finished

      stands-new : part messages' (start + need_to g ms j) (start + need_to g ms j + factor_numbers r (width_at g ms j)) ≡ t
      stands-new =
          ap (λ (x : List Float). part x (start + need_to g ms j) (start + need_to g ms j + factor_numbers r (width_at g ms j))) written
          ∙ ap (λ (n : ℕ). part (splice messages to (to + length t) t) n (n + factor_numbers r (width_at g ms j))) (sym p.to_is)
          ∙ ap (λ (k : ℕ). part (splice messages to (to + length t) t) to (to + k)) (sym t_plain)
          ∙ part_same messages to (to + length t) t (omega arith) (omega (arith, room, t_length, p.to_is)) (omega arith)

      held_more : (i : ℕ) → i < j + 1 → Stored g factors ms start messages' i
      held_more i h = go (dec_lt i j)
        where
          go : Dec (i < j) → Stored g factors ms start messages' i
          go (yes b) =
              stored-stays g factors ms start messages messages' i j to b (omega (arith, p.to_is))
              (λ x y l. rw written (part-below messages to (to + length t) t (omega arith) (omega (arith, room, t_length, p.to_is)) (omega arith) x y
              l)) (p.held i b)
          go (no b) =
              let e : i ≡ j = omega arith in
              rw e
              (record {
                rows = r;
                a = came.a;
                xi = came.xi;
                w = came.w;
                is = came.is;
                of_rows = rows_told;
                of_a = sizes_are.of_a;
                of_xi = sizes_are.of_xi;
                of_w = sizes_are.of_w;
                stands = stands-new;
              })

      pub carrying_more : (next : ℕ) → next ≡ to + factor_numbers (rows_at g ms j) (width_at g ms j) → Carrying g factors ms start store messages' next (j + 1)
      carrying_more next en =
          record {
            few = omega arith;
            to_is = omega (arith, p.to_is, need-more g ms j);
            all_made = rw values-more (made_more (values_to g factors ms j) r came.a came.xi came.w p.all_made);
            held = held_more;
            lies = written ∙ lay-next store (finished_numbers (values_to g factors ms j)) t messages start to (omega (arith, room, p.same, p.long))
                (omega (arith, p.to_is, p.long)) p.lies ∙ ap (lay store start) (sym finished_more);
            long = rw finished_more (omega (arith, length-append (finished_numbers (values_to g factors ms j)) t, p.long, t_length, need-more g ms j));
            same = rw written (length-splice messages to (to + length t) t (omega arith) (omega (arith, room, t_length, p.to_is)) (omega arith)) ∙ p.same;
          }

    -- a message was refused: those before it stay
    module _ (why : Refusal) (o : Outcome) (eo : value_at g factors ms j ≡ o)
        (stops : (i : ℕ) (rest : List Outcome) → refusal_from i (o ∷ rest) ≡ refused_at i why)
        (None-more : (rest : List Outcome) → finished_numbers (o ∷ rest) ≡ []) (keeps : message_stored messages to o ≡ messages) where
      refused : (refused_at j why ≡ refusal_from 0 (values g factors ms)) × (messages' ≡ lay store start (finished_numbers (values g factors ms)))
      unfolding values
      refused =
          let r = values-split g factors ms j (length ms) l in
          let e : values_to g factors ms (length ms) ≡ values_to g factors ms j ++ (o ∷ r.0) = r.1
          ∙ ap (λ (v : Outcome). values_to g factors ms j ++ (v ∷ r.0)) eo in
          let n : 0 + length (values_to g factors ms j) ≡ j = omega (arith, values_length g factors ms j) in
          let f : finished_numbers (values_to g factors ms j ++ (o ∷ r.0)) ≡ finished_numbers (values_to g factors ms j) = finished_on (values_to g factors ms j)
          (o ∷ r.0) p.all_made ∙ ap (λ (x : List Float). finished_numbers (values_to g factors ms j) ++ x) (None-more r.0)
          ∙ append-nil (finished_numbers (values_to g factors ms j)) in (
            sym (ap (refusal_from 0) e ∙ stop_on 0 (values_to g factors ms j) (o ∷ r.0) p.all_made ∙ ap (λ (i : ℕ). refusal_from i (o ∷ r.0)) n
                ∙ stops j r.0),
            em ∙ ap (message_stored messages to) (value-is ∙ eo) ∙ keeps ∙ p.lies ∙ ap (lay store start) (sym (ap finished_numbers e ∙ f)),
          )

    pub refused_for : (fault : Fault) → told ≡ Err fault → (refused_at j (refusal_of fault) ≡ refusal_from 0 (values g factors ms)) ×
        (messages' ≡ lay store start (finished_numbers (values g factors ms)))
    unfolding refusal_from finished_numbers message_stored
    refused_for Pivot e = refused ClearedPivot pivot (at-pivot (value_at g factors ms j) (ap eliminated_as (sym value-is) ∙ sym et ∙ e)) (λ i rest. refl)
        (λ rest. refl) refl
    refused_for NotFinite e = refused ResultNotFinite not_finite (at_unbounded (value_at g factors ms j) (ap eliminated_as (sym value-is) ∙ sym et ∙ e))
        (λ i rest. refl) (λ rest. refl) refl

-- ---- the whole pass

no_stop : (i : ℕ) (vs : List Outcome) → AllMade vs → refusal_from i vs ≡ none
unfolding refusal_from
no_stop i [] h = refl
no_stop i (pivot ∷ vs) h = absurd h
no_stop i (not_finite ∷ vs) h = absurd h
no_stop i (message r a xi w ∷ vs) h = no_stop (i + 1) vs h

pub carried : (g : Graph) (factors : List Float) (ms : List ClosedFactor) (start : ℕ) (store messages : List Float) (to j : ℕ)
    → Carrying g factors ms start store messages to j → j ≡ length ms
    → (none ≡ refusal_from 0 (values g factors ms)) × (messages ≡ lay store start (finished_numbers (values g factors ms))) × AllStored g factors ms
    start messages
unfolding values need
carried g factors ms start store messages to j p e =
    let q : Carrying g factors ms start store messages to (length ms) = rw e at p in
    (sym (no_stop 0 (values_to g factors ms (length ms)) q.all_made), q.lies, record { each = q.held; long = q.long })

-- the head of a message tells its rows and its width
pub head-tells : (g : Graph) (ms : List ClosedFactor) (c : Carriable g ms) (shift start j : ℕ) (keys heads : List ℕ) (h : Head) → j < length ms
    → PlacedTo g ms shift start keys heads (length ms) → h ≡ head_of heads (message_number shift j)
    → (h.rows ≡ rows_at g ms j) × (h.width ≡ width_at g ms j) × (h.rows ≤ 32) × (h.width ≤ 32) × (h.rows * h.width ≤ 1024) × (h.rows * h.rows ≤ 1024)
head-tells g ms c shift start j keys heads h l placed e =
    let r : h.rows ≡ rows_at g ms j = ap (λ (x : Head). x.rows) (e ∙ (placed j l).head) in
    let d : h.width ≡ width_at g ms j = ap (λ (x : Head). x.width) (e ∙ (placed j l).head) in
    let hr : h.rows ≤ 32 = rw r (message-rows-most g ms c j l) in
    let hd : h.width ≤ 32 = rw d (message-kept g ms c j l).total in
    let small = products h.rows h.width hr hd in
    (r, d, hr, hd, small.0, small.1)

pub next-told : (g : Graph) (ms : List ClosedFactor) (to r d j : ℕ) → r ≡ rows_at g ms j → d ≡ width_at g ms j → to + (r * d + r + r * r)
    ≡ to + factor_numbers (rows_at g ms j) (width_at g ms j)
next-told g ms to r d j er ed = rw (er, ed) refl
