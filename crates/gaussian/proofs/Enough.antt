-- What is asked of the tables alone is enough for every function below: each slot then fits the frame of the branch that runs. Assumes nothing.
use Prim.Native.Nat.{ℕ, zero, suc, ◌+◌, ◌*◌, ◌≤◌, ◌<◌}
use mathlib.Core.Path.{◌≡◌, refl, ap, ap₂, ◌∙◌}
use mathlib.Core.Bool.{Bool, true, false, cond, ◌||◌}
use mathlib.Core.List.{List, []}
use native.Mathlib.Decide.{dec_lt}
use native.Mathlib.Omega.{arith}
use lib.ListN.{length, get_or}
use lib.Ieee.{Float}
use Rattle.matrix.specs.Views.{part}
use Rattle.factor.specs.Limits.{max_variables, max_total}
use Rattle.workspace.specs.Frames.{frame_of}
use Rattle.slots.specs.Limits.{scratch_numbers}
use Rattle.slots.specs.Layouts.{member, dim_of, column_in, layout_of}
use Rattle.slots.specs.Views.{FactorView, rows_of, rows_of_all, factor_numbers}
use Rattle.slots.specs.Tables.{head_of, head_keys, slot_store, view_at, rows_by, rows_by_all}
use Rattle.slots.specs.Fitting.{KnownKey, Fitted, SlotReady}
use Rattle.slots.specs.declared.Branch.{Branch}
use Rattle.slots.specs.declared.Branch.TheVariants.{Z, X}
use Rattle.slots.specs.declared.layout.Layout.{Layout}
use Rattle.slots.specs.declared.Head.{Head}
use Rattle.slots.proofs.LayoutTables.{first_fits, get_d_table}
use Rattle.slots.proofs.Reading.{rows_bound}
use Rattle.gaussian.proofs.Heads.{size_is, count-is, key-at, prior-size, counted-head, rows_are}
use Rattle.gaussian.specs.Elimination.{branch_of}
use Rattle.gaussian.specs.Asked.{KeyFits, HeadFits, Asked, SlotsAsked, frame_for}

-- ---- a key

-- the columns of a key that is kept or cleared are within its list
sits_by : (f₁ f₂ s u d : ℕ) (c k : Bool) → (c ≡ true → f₁ + s ≤ u) → (k ≡ true → f₂ + s ≤ d) → (c || k) ≡ true → cond c f₁ f₂ + s ≤ cond c u d
sits_by f₁ f₂ s u d true k hc hk h = hc refl
sits_by f₁ f₂ s u d false k hc hk h = hk h

module _ (kept cleared sizes : List ℕ) (len : length sizes ≡ max_variables) where
  pub cleared_at : (key : ℕ) → key < max_variables → get_or (layout_of kept cleared sizes).cleared key false ≡ member key cleared
  unfolding layout_of
  cleared_at key h = get_d_table (λ k. member k cleared) 0 (length sizes) key false (rw len h) ∙ ap (λ (k : ℕ). member k cleared) (omega arith)

  first-at : (key : ℕ) → key < max_variables → get_or (layout_of kept cleared sizes).first key 0
      ≡ cond (member key cleared) (column_in sizes cleared key) (column_in sizes kept key)
  unfolding layout_of
  first-at key h =
      get_d_table (λ k. cond (member k cleared) (column_in sizes cleared k) (column_in sizes kept k)) 0 (length sizes) key 0 (rw len h)
      ∙ ap (λ (k : ℕ). cond (member k cleared) (column_in sizes cleared k) (column_in sizes kept k)) (omega arith)

  known-key : (r key : ℕ) → KeyFits kept cleared sizes key → KnownKey (frame_of (dim_of sizes cleared) r (dim_of sizes kept)) (layout_of kept cleared sizes) key
  unfolding frame_of
  known-key r key k =
      record {
        listed = k.listed;
        small = rw (size_is kept cleared sizes) k.small;
        sits =
            rw (cleared_at key k.listed, first-at key k.listed, size_is kept cleared sizes)
            (sits_by (column_in sizes cleared key) (column_in sizes kept key) (get_or sizes key 0) (dim_of sizes cleared) (dim_of sizes kept)
            (member key cleared) (member key kept)
            (first_fits sizes cleared key) (first_fits sizes kept key) k.placed);
      }

  -- ---- a slot's head

  module _ (keys : List ℕ) (store : ℕ) (h : Head) (k : HeadFits kept cleared sizes keys store h) where
    fitted : (branch : Branch) (r row : ℕ) → (branch ≡ X → r ≡ dim_of sizes kept) → (branch ≡ Z → row + rows_by (layout_of kept cleared sizes) keys h ≤ r)
        → Fitted (frame_of (dim_of sizes cleared) r (dim_of sizes kept)) (layout_of kept cleared sizes) branch row h.prior (head_keys keys h) h.rows
        h.width scratch_numbers (factor_numbers h.rows h.width)
    unfolding frame_of
    fitted branch r row hx hz =
        record {
          some = λ e. rw (count-is kept cleared sizes keys store h k) (k.of_prior e).0;
          known = λ j l. rw (key-at kept cleared sizes keys store h k j (rw (count-is kept cleared sizes keys store h k) at l))
              (known-key r _ (k.known j (rw (count-is kept cleared sizes keys store h k) at l)));
          count = rw (count-is kept cleared sizes keys store h k) k.count;
          narrow = k.width;
          rows = k.rows;
          square = hx;
          inside = λ e. rw (← rows_are kept cleared sizes keys store h k []) (hz e);
          of_prior = prior-size kept cleared sizes keys store h k;
          of_other = λ e. rw (size_is kept cleared sizes, (count-is kept cleared sizes keys store h k)) (k.of_likelihood e);
          scratch = omega (arith, k.rows);
          whole = omega arith;
        }

-- ---- all slots

rows-rise : (m : Layout) (view : ℕ → FactorView) (n i : ℕ) → i < n → rows_of_all m view i + rows_of m (view i) ≤ rows_of_all m view n
unfolding rows_of_all
rows-rise m view zero i h = absurd (omega arith)
rows-rise m view (suc n) i h = go (dec_lt i n) (rows-rise m view n i)
  where
    go : Dec (i < n) → (i < n → rows_of_all m view i + rows_of m (view i) ≤ rows_of_all m view n)
        → rows_of_all m view i + rows_of m (view i) ≤ rows_of_all m view n + rows_of m (view n)
    go (yes p) ih = omega (arith, ih p)
    go (no p) ih = let e : i ≡ n = omega arith in rw e (omega arith)

module _ {kept cleared sizes : List ℕ} {factors messages : List Float} {work : ℕ} {keys heads slots : List ℕ} (len : length sizes ≡ max_variables)
    (q : Asked kept cleared sizes factors messages work keys heads slots) where
  rows_all : (n : ℕ) → n ≤ length slots → (rows_by_all (layout_of kept cleared sizes) keys heads slots n
      ≡ rows_of_all (layout_of kept cleared sizes) (view_at factors messages keys heads slots) n)
      × (rows_by_all (layout_of kept cleared sizes) keys heads slots n ≤ max_total * n)
  unfolding rows_by_all rows_of_all view_at
  rows_all zero h = (refl, omega arith)
  rows_all (suc n) h =
      let ih = rows_all n (omega arith) in
      let k = q.fits n (omega arith) in (
        ap₂ (λ (a b : ℕ). a + b) ih.0 (rows_are kept cleared sizes keys _ (head_of heads (get_or slots n 0)) k _),
        omega (arith, ih.1, rows_bound (layout_of kept cleared sizes) keys (head_of heads (get_or slots n 0)) k.rows),
      )

  -- in z the rows of each slot are within those of all
  rows_inside : (i : ℕ) → i < length slots
      → rows_of_all (layout_of kept cleared sizes) (view_at factors messages keys heads slots) i + rows_by (layout_of kept cleared sizes) keys
      (head_of heads (get_or slots i 0))
      ≤ rows_by_all (layout_of kept cleared sizes) keys heads slots (length slots)
  unfolding view_at
  rows_inside i h =
      let k : Head = head_of heads (get_or slots i 0) in
      rw (
        rows_are kept cleared sizes keys _ k (q.fits i h) (part (slot_store k.slot factors messages) k.at
            (k.at + factor_numbers k.rows k.width)),
        (rows_all (length slots) (omega arith)).0,
      )
      (rows-rise (layout_of kept cleared sizes) (view_at factors messages keys heads slots) (length slots) i h)

  pub enough : SlotsAsked (dim_of sizes cleared) (dim_of sizes kept) (layout_of kept cleared sizes) factors messages work keys heads slots
  enough =
      record {
        total = q.total;
        counted =
            record {
              few = q.few;
              headed = q.headed;
              counted = λ i h. counted-head kept cleared sizes keys _ (head_of heads (get_or slots i 0)) (q.fits i h);
            };
        rows = (rows_all (length slots) (omega arith)).0;
        ready = ready;
        enough = q.enough;
      }
    where
      ready : (i : ℕ) → i < length slots
          → SlotReady (frame_for (dim_of sizes cleared) (dim_of sizes kept) (rows_by_all (layout_of kept cleared sizes) keys heads slots (length slots)))
          (layout_of kept cleared sizes)
          (branch_of (rows_by_all (layout_of kept cleared sizes) keys heads slots (length slots)) (dim_of sizes kept))
          (rows_of_all (layout_of kept cleared sizes) (view_at factors messages keys heads slots) i) factors messages keys scratch_numbers
          (head_of heads (get_or slots i 0))
      ready i h =
          let k = q.fits i h in
          let b = rows_all i (omega arith) in
          record {
            listed = k.listed;
            stored = k.stored;
            low = omega (arith, b.0, b.1, q.few);
            fitted =
                fitted kept cleared sizes len keys _ (head_of heads (get_or slots i 0)) k _ _ _ (λ e. rw e) (λ e. rw e (rows_inside i h));
          }
