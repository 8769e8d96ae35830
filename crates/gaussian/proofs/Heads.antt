-- What is asked of one slot's head: its keys stand in the table of keys, and its rows are those of the factor that is read. Assumes nothing.
use Prim.Native.Nat.{ℕ, ◌+◌, ◌-◌, ◌<◌}
use mathlib.Core.Path.{◌≡◌, refl, ap, ◌∙◌, subst}
use mathlib.Core.Bool.{true}
use mathlib.Core.List.{List}
use native.Mathlib.Omega.{arith}
use lib.ListN.{length, get_or, drop, length-take, length-drop}
use lib.Seq.{get_or-take, get_or-drop}
use lib.Ieee.{Float}
use Rattle.factor.specs.Limits.{max_variables}
use Rattle.slots.specs.Layouts.{layout_of}
use Rattle.slots.specs.Views.{rows_of, view_of}
use Rattle.slots.specs.Tables.{head_keys, rows_by}
use Rattle.slots.specs.Fitting.{CountedHead}
use Rattle.slots.specs.declared.Head.{Head}
use Rattle.slots.proofs.Reading.{rows_of_view}
use Rattle.gaussian.specs.Asked.{HeadFits}

pub size_is : (kept cleared sizes : List ℕ) → (layout_of kept cleared sizes).size ≡ sizes
unfolding layout_of
size_is kept cleared sizes = refl

module _ (kept cleared sizes keys : List ℕ) (store : ℕ) (h : Head) (k : HeadFits kept cleared sizes keys store h) where
  pub count-is : length (head_keys keys h) ≡ h.count
  count-is = simp (length-take, length-drop) (omega (arith, k.listed))

  pub key-at : (j : ℕ) → j < h.count → get_or (head_keys keys h) j 0 ≡ get_or keys (h.first + j) 0
  key-at j l = get_or-take (h.first + h.count - h.first) (drop h.first keys) j 0 (omega arith) ∙ get_or-drop h.first keys j 0

  first_key_lem : h.prior ≡ true → get_or (head_keys keys h) 0 0 ≡ get_or keys h.first 0
  first_key_lem e = key-at 0 (k.of_prior e).0 ∙ ap (λ (n : ℕ). get_or keys n 0) (omega arith)

  pub prior-size : h.prior ≡ true → get_or (layout_of kept cleared sizes).size (get_or (head_keys keys h) 0 0) 0 ≡ h.rows
  prior-size e = rw (size_is kept cleared sizes, first_key_lem e) (k.of_prior e).1

  pub counted-head : CountedHead keys h
  counted-head =
      record {
        rows = k.rows;
        of_prior = λ e. let c = (k.of_prior e).0 in
            (omega (arith, k.listed), subst (λ (n : ℕ). get_or keys n 0 < max_variables) (omega arith) (k.known 0 c).listed);
      }

  pub rows_are : (t : List Float) → rows_by (layout_of kept cleared sizes) keys h
      ≡ rows_of (layout_of kept cleared sizes) (view_of h.prior (head_keys keys h) h.rows h.width t)
  unfolding rows_by
  rows_are t = rows_of_view (layout_of kept cleared sizes) h.prior (head_keys keys h) (get_or keys h.first 0) h.rows h.width t prior-size first_key_lem
