-- The slots of an elimination in the tables: each is an original or a message that has been placed, and fits where its keys are kept or cleared.
-- Assumes nothing.
use mathlib.Core.Path.{◌≡◌, refl, sym, ap, ◌∙◌, subst}
use mathlib.Core.Bool.{false≢true}
use mathlib.Core.List.{List}
use Prim.Native.Nat.{ℕ, zero, suc, ◌+◌, ◌-◌, ◌≤◌, ◌<◌}
use native.Mathlib.Omega.{arith}
use native.Mathlib.Numerals.{add-one}
use native.Mathlib.Decide.{dec_lt}
use borrow.Author.Tests.{lt-ltb}
use lib.Ieee.{Float}
use lib.ListN.{length, get_or, take, drop, length-drop}
use lib.Seq.{length-take-le, get_or-take, get_or-drop, ext_get_or}
use Rattle.factor.specs.Limits.{max_variables, max_total}
use Rattle.factor.specs.Factor.{key_at}
use Rattle.graph.specs.Record.{factor_at, offset, factor_keys}
use Rattle.graph.specs.declared.Graph.{Graph}
use Rattle.graph.proofs.Validity.{size-most, valid-variables, valid-size, valid_touched}
use Rattle.schedule.specs.Count.{count, In, from}
use Rattle.schedule.specs.Pass as pass
use Rattle.schedule.specs.Pass.{Slot, original, closed, ClosedFactor, at}
use Rattle.schedule.specs.Messages.{Tidy}
use Rattle.slots.specs.Layouts.{dim_of, Listed}
use Rattle.slots.specs.Tables.{head_of, head_keys, slot_store}
use Rattle.slots.specs.declared.Head.{Head}
use Rattle.gaussian.specs.Asked.{KeyFits, HeadFits}
use Rattle.tables.proofs.Dimensions.{total-within, kept_listed, cleared_listed}
use Rattle.tables.proofs.OriginalsRead.{original-fits}
use Rattle.lists.specs.Lists.{backward_shift, slot_number}
use Rattle.messages.specs.Figure.{slot_rows, rows_to, rows_at, width_at, need_to}
use Rattle.messages.specs.Tables.{Carriable, first_key, message_head, PlacedTo, Tables}
use Rattle.gaussian.proofs.Lengths.{rows_few}
use Rattle.messages.proofs.Members.{at_in, placed_in, below-cleared, below-kept, once, kept-length, column_all}
use Rattle.slots.specs.Views.{factor_numbers}

-- ---- the figure grows by one message at a time

pub need-more : (g : Graph) (ms : List ClosedFactor) (j : ℕ) → need_to g ms (j + 1) ≡ need_to g ms j + factor_numbers (rows_at g ms j) (width_at g ms j)
unfolding need_to
need-more g ms j = rw (add-one j) refl

pub need_rises : (g : Graph) (ms : List ClosedFactor) (i n : ℕ) → i < n → need_to g ms i + factor_numbers (rows_at g ms i) (width_at g ms i) ≤ need_to g ms n
unfolding need_to
need_rises g ms i zero h = absurd (omega arith)
need_rises g ms i (suc n) h = go (dec_lt i n) (need_rises g ms i n)
  where
    go : Dec (i < n) → (i < n → need_to g ms i + factor_numbers (rows_at g ms i) (width_at g ms i) ≤ need_to g ms n)
        → need_to g ms i + factor_numbers (rows_at g ms i) (width_at g ms i) ≤ need_to g ms n + factor_numbers (rows_at g ms n) (width_at g ms n)
    go (yes l) ih = omega (arith, ih l)
    go (no l) ih = let e : i ≡ n = omega arith in rw e (omega arith)

-- ---- the keys of a message

module _ (g : Graph) (ms : List ClosedFactor) (c : Carriable g ms) (j : ℕ) (l : j < length ms) where
  tidy : Tidy g.variables (factor_keys g) (from 0 g.count) ms (at ms j)
  tidy = c.tidy j l

  pub message-total : dim_of g.sizes (at ms j).cleared + dim_of g.sizes (at ms j).kept ≤ max_total
  message-total =
      total-within g c.sound (at ms j).cleared (at ms j).kept (below-cleared g.variables _ _ tidy.apart tidy.low)
      (below-kept g.variables _ _ tidy.apart tidy.low)
      (once g.variables _ _ tidy.apart tidy.low)

  pub message-kept : Listed (at ms j).kept g.sizes
  message-kept =
      kept_listed g c.sound (at ms j).cleared (at ms j).kept (below-cleared g.variables _ _ tidy.apart tidy.low)
      (below-kept g.variables _ _ tidy.apart tidy.low)
      (once g.variables _ _ tidy.apart tidy.low)

  pub message-cleared : Listed (at ms j).cleared g.sizes
  message-cleared =
      cleared_listed g c.sound (at ms j).cleared (at ms j).kept (below-cleared g.variables _ _ tidy.apart tidy.low)
      (below-kept g.variables _ _ tidy.apart tidy.low)
      (once g.variables _ _ tidy.apart tidy.low)

  pub message-few : length (at ms j).kept ≤ max_variables
  message-few = omega (arith, kept-length g.variables _ _ tidy.apart tidy.low, valid-variables g c.sound)

  pub message-rows-most : rows_at g ms j ≤ max_total
  unfolding Rattle.messages.specs.Figure.rows_in
  message-rows-most = omega (
    arith,
    rows_few (Rattle.schedule.specs.Count.sum_over (slot_rows g (at ms j).cleared (rows_to g ms j)) (at ms j).content)
        (width_at g ms j),
    message-kept.total,
  )

-- ---- a slot

module _ (g : Graph) (ms : List ClosedFactor) (c : Carriable g ms) (shift start n : ℕ) (keys heads : List ℕ) (low : shift ≤ backward_shift)
    (few : n ≤ length ms) (tables : Tables g keys heads)
    (placed : PlacedTo g ms shift start keys heads n) where
  -- an original of the graph, or a message that has been placed
  abbrev pub Known : Slot → Type 0
  Known (original i) = i < g.count
  Known (closed j) = j < n

  pub keys-are : (j : ℕ) → j < n → head_keys keys (message_head g ms shift start j) ≡ (at ms j).kept
  keys-are j l =
      let k : List ℕ = (at ms j).kept in
      let f : first_key shift j + length k - first_key shift j ≡ length k = omega arith in
      let room : length k ≤ length (drop (first_key shift j) keys) = rw (length-drop (first_key shift j) keys)
      (omega (arith, message-few g ms c j (omega arith), c.few, tables.long_keys)) in
      rw f (ext_get_or 0 (take (length k) (drop (first_key shift j) keys)) k (length-take-le (length k) (drop (first_key shift j) keys) room)
      (λ i h.
      let q : i < length k = omega (arith, length-take-le (length k) (drop (first_key shift j) keys) room) in
      get_or-take (length k) (drop (first_key shift j) keys) i 0 q ∙ get_or-drop (first_key shift j) keys i 0 ∙ (placed j l).key i q))

  module _ (kept cleared : List ℕ) where
    message-fits : (j len : ℕ) → j < n → ((x : ℕ) → In x (at ms j).kept → 1 ≤ count x cleared + count x kept) → start + need_to g ms n ≤ len
        → HeadFits kept cleared g.sizes keys len (message_head g ms shift start j)
    message-fits j len l has room =
        record {
          listed = omega (arith, message-few g ms c j (omega arith), c.few, tables.long_keys);
          stored = omega (arith, need_rises g ms j n l);
          count = message-few g ms c j (omega arith);
          rows = message-rows-most g ms c j (omega arith);
          width = (message-kept g ms c j (omega arith)).total;
          of_prior = λ e. absurd (false≢true e);
          of_likelihood = λ e. rw (keys-are j l) (column_all g.sizes (at ms j).kept);
          known = λ i h. rw ((placed j l).key i h) (key_fits i h);
        }
      where
        key_fits : (i : ℕ) → i < length (at ms j).kept → KeyFits kept cleared g.sizes (get_or (at ms j).kept i 0)
        key_fits i h =
            let m : In (get_or (at ms j).kept i 0) (at ms j).kept = at_in (at ms j).kept i h in
            let b : get_or (at ms j).kept i 0 < g.variables = (tidy g ms c j (omega arith)).low (get_or (at ms j).kept i 0) (omega arith) in
            record {
              listed = omega (arith, valid-variables g c.sound);
              small = size-most _ (valid-size g c.sound (get_or (at ms j).kept i 0) b);
              placed = placed_in (get_or (at ms j).kept i 0) cleared kept (has (get_or (at ms j).kept i 0) m);
            }

    -- the keys of an original
    original-keys : (i : ℕ) → i < g.count → (j : ℕ) → j < (factor_at g i).touched → In (key_at (factor_at g i) j) (factor_keys g i)
    unfolding factor_keys
    original-keys i l j h =
        let f = factor_at g i in
        rw (lt-ltb i g.count l, ← get_or-take f.touched f.keys j 0 h)
        (at_in (take f.touched f.keys) j (rw (length-take-le f.touched f.keys
        (omega (arith, (tables.originals.entered i l).full, valid_touched g c.sound i l))) h))

    pub slot_fits : (s : Slot) → Known s → ((x : ℕ) → In x (pass.slot_keys (factor_keys g) ms s) → 1 ≤ count x cleared + count x kept)
        → (factors messages : List Float)
        → offset g g.count ≤ length factors → start + need_to g ms n ≤ length messages
        → HeadFits kept cleared g.sizes keys (length (slot_store (head_of heads (slot_number shift s)).slot factors messages))
        (head_of heads (slot_number shift s))
    unfolding slot_number pass.slot_keys
    slot_fits (original i) l has factors messages hf hm =
        subst (λ (len : ℕ). HeadFits kept cleared g.sizes keys len (head_of heads i))
        (ap (λ (h : Head). length (slot_store h.slot factors messages)) (sym (tables.originals.entered i l).head))
        (original-fits g c.sound keys heads tables.originals i l kept cleared
        (λ j h. placed_in (key_at (factor_at g i) j) cleared kept (has (key_at (factor_at g i) j) (original-keys i l j h))) (length factors) hf)
    slot_fits (closed j) l has factors messages hf hm = rw (placed j l).head (message-fits j (length messages) l has hm)
