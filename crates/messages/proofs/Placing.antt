-- One message more in the tables: its slots are there, its rows are theirs, and what stood there stays. Assumes nothing.
use mathlib.Core.Path.{◌≡◌, refl, sym, ap, ◌∙◌}
use mathlib.Core.Bool.{Bool, true, false, cond}
use mathlib.Core.List.{List, [], ◌∷◌, ◌++◌, map, Memᴰ}
use Prim.Native.Nat.{ℕ, zero, suc, ◌+◌, ◌*◌, ◌≤◌, ◌<◌}
use native.Mathlib.Omega.{arith}
use native.Mathlib.Nat.{zero-add}
use native.Mathlib.Decide.{dec_lt}
use borrow.Author.Tests.{le-ltb}
use lib.Ieee.{Float}
use lib.ListN.{length, get_or, length-map, length-take, length-append, replicate, length-replicate, get_or-append}
use lib.Seq.{get_or-append_seam}
use Rattle.matrix.specs.Sums.{plus_zero}
use Rattle.factor.specs.Limits.{max_variables, max_factors, max_keys}
use Rattle.factor.specs.Factor.{key_at, lay}
use Rattle.factor.specs.declared.Factor.{Factor}
use Rattle.factor.proofs.Fitting.{fits-key, prior_touched}
use Rattle.graph.specs.Record.{factor_at, offset}
use Rattle.graph.specs.declared.Graph.{Graph}
use Rattle.graph.proofs.Validity.{valid-variables, valid-count, valid-factor}
use Rattle.schedule.specs.Count.{sum_over, from}
use Rattle.schedule.specs.Pass.{Slot, original, closed, ClosedFactor, at}
use Rattle.schedule.proofs.Counts.{sum_same}
use Rattle.schedule.proofs.Sums.{sum-table, sum-from_snoc, from-mem}
use Rattle.schedule.proofs.Runs.{msgs_in, from-lt}
use Rattle.plan.specs.Limits.{pass_slots}
use Rattle.slots.specs.Limits.{max_slots}
use Rattle.slots.specs.Layouts.{member, layout_of, dim_of}
use Rattle.slots.specs.Tables.{head_of, numbered_slot, slot_store, rows_by, rows_by_all}
use Rattle.slots.specs.Fitting.{Counted}
use Rattle.slots.specs.declared.layout.Layout.{Layout}
use Rattle.slots.specs.declared.Slot.TheVariants.{Closed}
use Rattle.gaussian.specs.Asked.{HeadFits}
use Rattle.gaussian.proofs.Heads.{counted-head}
use Rattle.gaussian.proofs.Enough.{cleared_at}
use Rattle.tables.proofs.Heads.{head-length, head-put, head_else}
use Rattle.factor.proofs.Laying.{lay-length, lay_in, lay-before}
use Rattle.tables.proofs.OriginalsRead.{originals_stay}
use Rattle.lists.specs.Lists.{backward_shift, message_number, slot_number, Holds}
use Rattle.lists.specs.declared.Lists.{Lists}
use Rattle.messages.specs.Figure.{slot_rows, rows_in, rows_to, rows_at, width_at, need_to, need}
use Rattle.messages.specs.Tables.{Carriable, first_key, Placed, PlacedTo, Tables, Before}
use Rattle.messages.specs.Asked as asked
use Rattle.messages.specs.Asked.{kept_of, cleared_of, listed_slots, Placeable}
use Rattle.messages.proofs.Rows.{products}
use Rattle.messages.proofs.Members.{at_mem, at_map}
use Rattle.messages.proofs.Slots.{need-more, message-kept, message-cleared, message-few, message-rows-most, Known, slot_fits}
use Rattle.slots.specs.Views.{factor_numbers}
use Rattle.tables.specs.Heads.{with_head}

-- the rows of an earlier message
rows-length : (g : Graph) (ms : List ClosedFactor) (n : ℕ) → length (rows_to g ms n) ≡ n
unfolding rows_to
rows-length g ms zero = refl
rows-length g ms (suc n) = omega (arith, length-append (rows_to g ms n) (rows_at g ms n ∷ []), rows-length g ms n)

rows-at : (g : Graph) (ms : List ClosedFactor) (n c : ℕ) → c < n → get_or (rows_to g ms n) c 0 ≡ rows_at g ms c
unfolding rows_to
rows-at g ms zero c h = absurd (omega arith)
rows-at g ms (suc n) c h = go (dec_lt c n) (rows-at g ms n c)
  where
    go : Dec (c < n) → (c < n → get_or (rows_to g ms n) c 0 ≡ rows_at g ms c) → get_or (rows_to g ms n ++ (rows_at g ms n ∷ [])) c 0 ≡ rows_at g ms c
    go (yes l) ih = get_or-append (rows_to g ms n) (rows_at g ms n ∷ []) 0 c (omega (arith, rows-length g ms n)) ∙ ih l
    go (no l) ih =
        let e : c ≡ n = omega arith in
        rw e (ap (λ (i : ℕ). get_or (rows_to g ms n ++ (rows_at g ms n ∷ [])) i 0) (sym (rows-length g ms n))
        ∙ get_or-append_seam (rows_to g ms n) (rows_at g ms n) [] 0)

-- the rows by the heads, as a sum over the list
no_sum : (f : ℕ → ℕ) → sum_over f (from 0 0) ≡ 0
unfolding sum_over from
no_sum f = refl

rows-list : (m : Layout) (keys heads slots : List ℕ) (n : ℕ) → rows_by_all m keys heads slots n
    ≡ sum_over (λ i. rows_by m keys (head_of heads (get_or slots i 0))) (from 0 n)
unfolding rows_by_all
rows-list m keys heads slots zero = sym (no_sum (λ i. rows_by m keys (head_of heads (get_or slots i 0))))
rows-list m keys heads slots (suc n) =
    ap (λ (x : ℕ). x + rows_by m keys (head_of heads (get_or slots n 0))) (rows-list m keys heads slots n)
    ∙ ap (λ (i : ℕ). sum_over (λ i. rows_by m keys (head_of heads (get_or slots i 0))) (from 0 n) + rows_by m keys (head_of heads (get_or slots i 0))) (sym (zero-add n))
    ∙ sym (sum-from_snoc (λ i. rows_by m keys (head_of heads (get_or slots i 0))) 0 n)

module _ (g : Graph) (ms : List ClosedFactor) (c : Carriable g ms) (shift start j : ℕ) (keys heads : List ℕ) (low : shift ≤ backward_shift)
    (l : j < length ms) (tables : Tables g keys heads)
    (placed : PlacedTo g ms shift start keys heads j) (sized : length g.sizes ≡ max_variables) where
  abbrev m : ClosedFactor
  m = at ms j

  abbrev slots : List ℕ
  slots = map (slot_number shift) m.content

  pub known : (s : Slot) → Memᴰ s m.content → Known g ms c shift start j keys heads low (omega arith) tables placed s
  known (original i) h = from-lt i g.count ((c.tidy j l).originals i h)
  known (closed i) h = c.older j i (msgs_in h)

  content-length : length slots ≡ length m.content
  content-length = length-map m.content (slot_number shift)

  pub fits : (factors messages : List Float) → offset g g.count ≤ length factors → start + need_to g ms j ≤ length messages → (i : ℕ) → i < length slots
      → HeadFits m.kept m.cleared g.sizes keys (length (slot_store (head_of heads (get_or slots i 0)).slot factors messages))
      (head_of heads (get_or slots i 0))
  fits factors messages hf hm i h =
      let s : Slot = get_or m.content i (original 0) in
      let k : Memᴰ s m.content = at_mem m.content i (original 0) (omega (arith, content-length)) in
      rw (at_map (slot_number shift) m.content i (original 0) 0 (omega (arith, content-length)))
      (slot_fits g ms c shift start j keys heads low (omega arith) tables placed m.kept m.cleared s (known s k) ((c.tidy j l).keyed s k) factors
      messages hf hm)

  number-low : (s : Slot) → Memᴰ s m.content → slot_number shift s < max_slots
  unfolding slot_number
  number-low (original i) h = omega (arith, known (original i) h, valid-count g c.sound)
  number-low (closed i) h = omega (arith, known (closed i) h, c.few)

  pub headed : (i : ℕ) → i < length slots → 6 * get_or slots i 0 + 5 < length heads
  headed i h =
      let s : Slot = get_or m.content i (original 0) in
      rw (at_map (slot_number shift) m.content i (original 0) 0 (omega (arith, content-length)))
      (omega (arith, number-low s (at_mem m.content i (original 0) (omega (arith, content-length))), tables.long_heads))

  pub counted : length m.content ≤ max_slots → Counted keys heads slots
  counted few =
      record {
        few = omega (arith, content-length);
        headed = headed;
        counted = λ i h. counted-head m.kept m.cleared g.sizes keys _ (head_of heads (get_or slots i 0))
            (fits stand_in room (omega (arith, length-replicate (offset g g.count) plus_zero))
            (omega (arith, length-replicate (start + need_to g ms j) plus_zero)) i h);
      }
    where
      stand_in : List Float
      stand_in = replicate (offset g g.count) plus_zero

      room : List Float
      room = replicate (start + need_to g ms j) plus_zero

  -- ---- rows
  abbrev layout : Layout
  layout = layout_of m.kept m.cleared g.sizes

  slot_rows_lem : (s : Slot) → Memᴰ s m.content → rows_by layout keys (head_of heads (slot_number shift s)) ≡ slot_rows g m.cleared (rows_to g ms j) s
  unfolding slot_number rows_by slot_rows
  slot_rows_lem (original i) h =
      let k : i < g.count = known (original i) h in
      rw (tables.originals.entered i k).head (go (factor_at g i).prior refl)
    where
      f : Factor
      f = factor_at g i

      go : (b : Bool) → f.prior ≡ b → cond b (cond (get_or layout.cleared (get_or keys (max_keys * i) 0) false) 0 f.rows) f.rows
          ≡ cond b (cond (member (key_at f 0) m.cleared) 0 f.rows) f.rows
      go true p =
          let k : i < g.count = known (original i) h in
          let fit = valid-factor g c.sound i k in
          let t : f.touched ≡ 1 = prior_touched g.sizes g.variables f fit p in
          let z : max_keys * i + 0 ≡ max_keys * i = omega arith in
          let e : get_or keys (max_keys * i) 0 ≡ key_at f 0 = rw z at ((tables.originals.entered i k).key 0 (omega arith)) in
          rw (
            e,
            cleared_at m.kept m.cleared g.sizes sized (key_at f 0)
                (omega (arith, fits-key g.sizes g.variables f fit 0 (omega arith), valid-variables g c.sound)),
          ) refl
      go false p = refl
  slot_rows_lem (closed i) h = rw (placed i (known (closed i) h)).head (sym (rows-at g ms j i (known (closed i) h)))

  pub rows-sum : rows_by_all layout keys heads slots (length slots) ≡ sum_over (slot_rows g m.cleared (rows_to g ms j)) m.content
  rows-sum =
      rows-list layout keys heads slots (length slots)
      ∙ sum_same (λ i. rows_by layout keys (head_of heads (get_or slots i 0)))
      (λ i. slot_rows g m.cleared (rows_to g ms j) (get_or m.content i (original 0))) (from 0 (length slots)) each
      ∙ ap (λ (n : ℕ). sum_over (λ i. slot_rows g m.cleared (rows_to g ms j) (get_or m.content i (original 0))) (from 0 n)) content-length
      ∙ sum-table (slot_rows g m.cleared (rows_to g ms j)) m.content (original 0)
    where
      each : (i : ℕ) → Memᴰ i (from 0 (length slots)) → rows_by layout keys (head_of heads (get_or slots i 0))
          ≡ slot_rows g m.cleared (rows_to g ms j) (get_or m.content i (original 0))
      each i h =
          let b : i < length m.content = omega (arith, (from-mem i 0 (length slots) h).1, content-length) in
          rw (at_map (slot_number shift) m.content i (original 0) 0 b) (slot_rows_lem (get_or m.content i (original 0)) (at_mem m.content i (original 0) b))

  pub rows_are : asked.message_rows_by m.kept m.cleared slots g.sizes keys heads ≡ rows_at g ms j
  unfolding rows_in
  rows_are = rw rows-sum refl

  -- ---- the message is placed
  module _ (few : length m.content ≤ max_slots) (keys' heads' : List ℕ) (ek : keys' ≡ lay keys (first_key shift j) m.kept)
      (eh : heads' ≡ with_head heads (message_number shift j) false (start + need_to g ms j) (rows_at g ms j) (width_at g ms j) (first_key shift j)
      (length m.kept)) where
    room : first_key shift j + length m.kept ≤ length keys
    room = omega (arith, message-few g ms c j l, c.few, tables.long_keys)

    long : 6 * message_number shift j + 5 < length heads
    long = omega (arith, c.few, tables.long_heads)

    pub before_more : Before shift keys heads keys' heads'
    before_more =
        record {
          of_keys = λ p h. rw ek (lay-before keys m.kept (first_key shift j) room 0 p (omega arith));
          of_heads = λ i h. rw eh (head_else heads (message_number shift j) false _ _ _ _ _ long i (λ e. omega arith));
        }

    pub tables_more : Tables g keys' heads'
    tables_more =
        let lk : length keys' ≡ length keys = rw ek (lay-length keys m.kept (first_key shift j) room) in
        let lh : length heads' ≡ length heads = rw eh (head-length heads (message_number shift j) false _ _ _ _ _ long) in
        record {
          long_keys = lk ∙ tables.long_keys;
          long_heads = lh ∙ tables.long_heads;
          originals = originals_stay g keys heads keys' heads' c.sound tables.originals lk lh (λ p h. before_more.of_keys p (omega arith))
              (λ i h. before_more.of_heads i (omega arith));
        }

    slot_is : numbered_slot (message_number shift j) ≡ Closed (shift + j)
    unfolding numbered_slot
    slot_is = rw (le-ltb (message_number shift j) max_factors (omega arith)) (ap Closed (omega arith))

    pub placed-more : PlacedTo g ms shift start keys' heads' (j + 1)
    placed-more i h = go (dec_lt i j)
      where
        go : Dec (i < j) → Placed g ms shift start keys' heads' i
        go (yes b) =
            record {
              head = rw eh (head_else heads (message_number shift j) false _ _ _ _ _ long (message_number shift i) (λ e. omega arith)) ∙ (placed i b).head;
              key = λ k q. rw ek (lay-before keys m.kept (first_key shift j) room 0 (first_key shift i + k)
                  (omega (arith, message-few g ms c i (omega arith)))) ∙ (placed i b).key k q;
            }
        go (no b) =
            let e : i ≡ j = omega arith in
            rw e
            (record {
              head = rw (eh, ← slot_is) (head-put heads (message_number shift j) false _ _ _ _ _ long);
              key = λ k q. rw ek (lay_in keys m.kept (first_key shift j) room 0 k q);
            })

-- what the placing comes to
abbrev pub PlacedBy : (sizes keys heads : List ℕ) (number start r : ℕ) (keys' heads' kept cleared slots : List ℕ) → Type 0
PlacedBy sizes keys heads number start r keys' heads' kept cleared slots =
    (r ≡ start + factor_numbers (asked.message_rows_by kept cleared slots sizes keys heads) (dim_of sizes kept))
    × ((keys' ≡ lay keys (asked.keys_from number) kept)
    × (heads' ≡ with_head heads number false start (asked.message_rows_by kept cleared slots sizes keys heads) (dim_of sizes kept) (asked.keys_from number)
    (length kept)))

-- ---- the whole pass

-- after j messages
pub record Progress (g : Graph) (ms : List ClosedFactor) (shift start : ℕ) (keys₀ heads₀ keys heads : List ℕ) (next j : ℕ) : Type 0 where
  pub few : j ≤ length ms
  pub next-is : next ≡ start + need_to g ms j
  pub low : next ≤ start + 2080 * j
  pub before : Before shift keys₀ heads₀ keys heads
  pub tables : Tables g keys heads
  pub placed : PlacedTo g ms shift start keys heads j

pub progress_none : (g : Graph) (ms : List ClosedFactor) (shift start : ℕ) (keys heads : List ℕ) → Tables g keys heads
    → Progress g ms shift start keys heads keys heads start 0
unfolding need_to
progress_none g ms shift start keys heads t =
    record {
      few = omega arith;
      next-is = omega arith;
      low = omega arith;
      before = record { of_keys = λ p h. refl; of_heads = λ i h. refl };
      tables =
          t;
      placed = λ j h. absurd (omega arith);
    }

module _ (g : Graph) (ms : List ClosedFactor) (c : Carriable g ms) (shift start : ℕ) (keys₀ heads₀ keys heads : List ℕ) (next j : ℕ)
    (low : shift ≤ backward_shift) (l : j < length ms)
    (sized : length g.sizes ≡ max_variables) (p : Progress g ms shift start keys₀ heads₀ keys heads next j) (lists : Lists)
    (holds : Holds shift (at ms j) lists) where
  content-few : length (at ms j).content ≤ pass_slots
  content-few =
      omega (arith, length-map (at ms j).content (slot_number shift), ap length holds.slots, length-take lists.count lists.slots, holds.few)

  pub placeable : start ≤ 100000 → Placeable (kept_of lists) (cleared_of lists) (listed_slots lists) g.sizes keys heads (message_number shift j) next
  placeable h =
      rw (holds.kept, holds.cleared, holds.slots)
      (record {
        kept_listed = message-kept g ms c j l;
        cleared_listed = message-cleared g ms c j l;
        counted = counted g ms c shift start j keys heads low l p.tables p.placed sized (omega (arith, content-few));
        above = omega arith;
        headed = omega (arith, c.few, p.tables.long_heads);
        room = rw first-is (omega (arith, message-few g ms c j l, c.few, p.tables.long_keys));
        low = omega (arith, p.low, c.few);
      })
    where
      first-is : asked.keys_from (message_number shift j) ≡ first_key shift j
      first-is = omega arith

  pub progress_more : (r : ℕ) (keys' heads' : List ℕ) → PlacedBy g.sizes keys heads (message_number shift j) next r keys' heads' (kept_of lists)
      (cleared_of lists) (listed_slots lists)
      → Progress g ms shift start keys₀ heads₀ keys' heads' r (j + 1)
  progress_more r keys' heads' by =
      let q : PlacedBy g.sizes keys heads (message_number shift j) next r keys' heads' (at ms j).kept (at ms j).cleared
      (map (slot_number shift) (at ms j).content)
      = rw (holds.kept, holds.cleared, holds.slots) at by in
      let e : asked.message_rows_by (at ms j).kept (at ms j).cleared (map (slot_number shift) (at ms j).content) g.sizes keys heads ≡ rows_at g ms j
      = rows_are g ms c shift start j keys heads low l p.tables p.placed sized in
      let f : asked.keys_from (message_number shift j) ≡ first_key shift j = omega arith in
      let ek : keys' ≡ lay keys (first_key shift j) (at ms j).kept = q.1.0 ∙ ap (λ (n : ℕ). lay keys n (at ms j).kept) f in
      let eh : heads' ≡ with_head heads (message_number shift j) false (start + need_to g ms j) (rows_at g ms j) (width_at g ms j) (first_key shift j)
      (length (at ms j).kept)
      = q.1.1 ∙ rw (e, f, p.next-is) refl in
      let er : r ≡ next + factor_numbers (rows_at g ms j) (width_at g ms j) = q.0 ∙ rw e refl in
      let small = products (rows_at g ms j) (width_at g ms j) (message-rows-most g ms c j l) (message-kept g ms c j l).total in
      let b = before_more g ms c shift start j keys heads low l p.tables p.placed sized (omega (arith, content-few)) keys' heads' ek eh in
      record {
        few = omega arith;
        next-is = er ∙ omega (arith, p.next-is, need-more g ms j);
        low = omega (arith, p.low, er, small.0, small.1, message-rows-most g ms c j l);
        before = record { of_keys = λ i h. b.of_keys i h ∙ p.before.of_keys i h; of_heads = λ i h. b.of_heads i h ∙ p.before.of_heads i h };
        tables = tables_more g ms c shift start j keys heads low l p.tables p.placed sized (omega (arith, content-few)) keys' heads' ek eh;
        placed = placed-more g ms c shift start j keys heads low l p.tables p.placed sized (omega (arith, content-few)) keys' heads' ek eh;
      }

pub progress_done : (g : Graph) (ms : List ClosedFactor) (shift start : ℕ) (keys₀ heads₀ keys heads : List ℕ) (next j : ℕ)
    → Progress g ms shift start keys₀ heads₀ keys heads next j → j ≡ length ms
    → (next ≡ start + need g ms) × (Before shift keys₀ heads₀ keys heads × (Tables g keys heads × PlacedTo g ms shift start keys heads (length ms)))
unfolding need
progress_done g ms shift start keys₀ heads₀ keys heads next j p e =
    (p.next-is ∙ ap (λ (n : ℕ). start + need_to g ms n) e, (p.before, (p.tables, λ i h. p.placed i (omega arith))))
