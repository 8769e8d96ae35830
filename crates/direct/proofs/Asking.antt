-- A call that its early checks admit has tables that an elimination can ask for; the listed factors are the views of the definition. Assumes nothing.
use Prim.Native.Nat.{ℕ, zero, suc, ◌+◌, ◌*◌, ◌≤◌, ◌<◌}
use mathlib.Core.Path.{◌≡◌, refl, ap, ap₂, ◌∙◌, sym}
use mathlib.Core.Bool.{true, not, ◌||◌}
use mathlib.Core.List.{List, [], ◌∷◌, map}
use native.Mathlib.Omega.{arith}
use borrow.Author.Tests.{leb-true, not-true}
use lib.Ieee.{Float}
use lib.ListN.{length, get_or, length-map}
use Rattle.workspace.specs.Frames.{work_numbers}
use Rattle.factor.specs.Factor.{key_at, known}
use Rattle.factor.specs.declared.Factor.{Factor}
use Rattle.factor.proofs.Counting.{every-at, all-at}
use Rattle.graph.specs.Record.{factor_at}
use Rattle.graph.specs.declared.Graph.{Graph}
use Rattle.graph.proofs.Validity.{valid-count}
use Rattle.slots.specs.Limits.{max_slots, numbers_per_head}
use Rattle.slots.specs.Layouts.{member, dim_of, layout_of, Listed}
use Rattle.slots.specs.Views.{rows_of, rows_of_all, factor_numbers}
use Rattle.slots.specs.Tables.{head_of, slot_store, read_view, rows_by_all}
use Rattle.slots.specs.Fitting.{Counted}
use Rattle.slots.specs.declared.layout.Layout.{Layout}
use Rattle.slots.specs.declared.Head.{Head}
use Rattle.gaussian.specs.Elimination.{message_rows, nth}
use Rattle.gaussian.specs.Answers.{views_of}
use Rattle.gaussian.specs.Asked.{HeadFits, Asked, Roomy}
use Rattle.gaussian.proofs.Heads.{counted-head, rows_are}
use Rattle.gaussian.proofs.Listing.{get_d_map}
use Rattle.tables.specs.Originals.{original_view}
use Rattle.tables.proofs.OriginalsRead.{original_view_lem, original-fits}
use Rattle.tables.proofs.Dimensions.{Below, Once, total-within, cleared_listed, kept_listed, known-below, rising_once}
use Rattle.direct.specs.Direct.{list_counts_fit, disjoint, lists_fit, all_known, factor_placed, all_placed, views, direct_need}
use Rattle.direct.specs.Between.{Admitted}
use Rattle.tables.specs.Heads.{Originals}

-- ---- lists

map_same : {A : Type 0} (f h : ℕ → A) (l : List ℕ) → ((i : ℕ) → i < length l → f (get_or l i 0) ≡ h (get_or l i 0)) → map f l ≡ map h l
map_same f h [] e = refl
map_same f h (x ∷ l) e = ap₂ (λ a b. a ∷ b) (e 0 (omega arith)) (map_same f h l (λ i k. e (suc i) (omega arith)))

pub slots-known : (g : Graph) (slots kept cleared : List ℕ) → all_known g slots kept cleared ≡ true → known g.count slots ≡ true
unfolding all_known
slots-known g slots kept cleared h = every-at _ 2 h

-- ---- the lists of a call

module _ (g : Graph) (slots kept cleared : List ℕ) (factors : List Float) (ok : Admitted g slots kept cleared factors) where
  slot_below : Below g.count slots
  slot_below = known-below g.count slots (slots-known g slots kept cleared ok.there)

  kept-below : Below g.variables kept
  unfolding all_known
  kept-below = known-below g.variables kept (every-at _ 0 ok.there)

  cleared-below : Below g.variables cleared
  unfolding all_known
  cleared-below = known-below g.variables cleared (every-at _ 1 ok.there)

  once : Once g.variables cleared kept
  unfolding lists_fit disjoint
  once =
      rising_once g.variables cleared kept (every-at _ 1 ok.apart) (every-at _ 0 ok.apart)
      (λ i l. not-true _ (all-at (λ j. not (member (get_or kept j 0) cleared)) (length kept) i (every-at _ 2 ok.apart) l))

  pub of_kept : Listed kept g.sizes
  of_kept = kept_listed g ok.reached cleared kept cleared-below kept-below once

  pub of_cleared : Listed cleared g.sizes
  of_cleared = cleared_listed g ok.reached cleared kept cleared-below kept-below once

  placed_at : (i : ℕ) → i < length slots → (j : ℕ) → j < (factor_at g (get_or slots i 0)).touched
      → (member (key_at (factor_at g (get_or slots i 0)) j) cleared || member (key_at (factor_at g (get_or slots i 0)) j) kept) ≡ true
  unfolding all_placed factor_placed
  placed_at i l j m =
      let f : Factor = factor_at g (get_or slots i 0) in
      all-at (λ n. member (key_at f n) cleared || member (key_at f n) kept) f.touched j
      (all-at (λ n. factor_placed kept cleared (factor_at g (get_or slots n 0))) (length slots) i ok.placed l) m

  few : length slots ≤ max_slots
  unfolding list_counts_fit
  few = leb-true _ _ (every-at _ 0 ok.few)

  -- ---- the tables

  module _ (keys heads : List ℕ) (o : Originals g keys heads) where
    abbrev m : Layout
    m = layout_of kept cleared g.sizes

    fits-at : (i : ℕ) → i < length slots → HeadFits kept cleared g.sizes keys (length factors) (head_of heads (get_or slots i 0))
    fits-at i l = original-fits g ok.reached keys heads o (get_or slots i 0) (slot_below i l) kept cleared (placed_at i l) (length factors) ok.stored

    headed : (i : ℕ) → i < length slots → numbers_per_head * get_or slots i 0 + 5 < length heads
    headed i l = omega (arith, slot_below i l, valid-count g ok.reached, o.long_heads)

    pub counted : Counted keys heads slots
    counted = record { few = few; headed = headed; counted = λ i l. counted-head kept cleared g.sizes keys _ _ (fits-at i l) }

    -- the factors read from the tables are those of the definition
    pub views-are : (messages : List Float) → views_of factors messages keys heads slots ≡ views g slots factors
    unfolding views_of views
    views-are messages =
        map_same (λ number. read_view factors messages keys (head_of heads number)) (original_view g factors) slots
        (λ i l. original_view_lem g ok.reached keys heads o (get_or slots i 0) (slot_below i l) factors messages)

    rows_to_lem : (n : ℕ) → n ≤ length slots → rows_by_all m keys heads slots n ≡ rows_of_all m (nth (views g slots factors)) n
    unfolding rows_by_all rows_of_all views
    rows_to_lem zero h = refl
    rows_to_lem (suc n) h =
        let number : ℕ = get_or slots n 0 in
        ap₂ (λ (a b : ℕ). a + b) (rows_to_lem n (omega arith))
        (rows_are kept cleared g.sizes keys _ (head_of heads number) (fits-at n (omega arith)) _
        ∙ ap (rows_of m) (original_view_lem g ok.reached keys heads o number (slot_below n (omega arith)) factors []
        ∙ sym (get_d_map (original_view g factors) slots n _ (omega arith))))

    pub need-is : factor_numbers (message_rows (rows_by_all m keys heads slots (length slots)) (dim_of g.sizes kept)) (dim_of g.sizes kept)
        ≡ direct_need g kept cleared (views g slots factors)
    unfolding direct_need views
    need-is =
        let d : ℕ = dim_of g.sizes kept in
        let e : rows_by_all m keys heads slots (length slots) ≡ rows_of_all m (nth (views g slots factors)) (length (views g slots factors)) =
        rows_to_lem (length slots) (omega arith) ∙ ap (rows_of_all m (nth (views g slots factors))) (sym (length-map slots (original_view g factors))) in
        ap (λ (y : ℕ). factor_numbers (message_rows y d) d) e

    -- what the elimination asks for
    pub asked : (messages : List Float) (work n : ℕ) → n ≡ factor_numbers
        (message_rows (rows_by_all m keys heads slots (length slots)) (dim_of g.sizes kept)) (dim_of g.sizes kept) → n ≤ length messages → work_numbers ≤ work
        → Asked kept cleared g.sizes factors messages work keys heads slots × Roomy kept cleared g.sizes keys heads slots 0 (length messages)
    asked messages work n en room enough = (
      record {
        kept_listed = of_kept;
        cleared_listed = of_cleared;
        total = total-within g ok.reached cleared kept cleared-below kept-below once;
        few = few;
        headed = headed;
        fits = λ i l.
            rw (ap (λ (h : Head). length (slot_store h.slot factors messages)) (o.entered (get_or slots i 0) (slot_below i l)).head) (fits-at i l);
        enough = enough;
      },
      omega arith,
    )
