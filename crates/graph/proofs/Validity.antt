-- What a valid record tells. Assumes nothing.
use Prim.Native.Nat.{ℕ, ◌+◌, ◌-◌, ◌<◌, ◌≤◌}
use mathlib.Core.Path.{◌≡◌, refl, ap, sym, ◌∙◌}
use mathlib.Core.Bool.{Bool, true, false, and-true, cond, not}
use native.Mathlib.Omega.{arith}
use borrow.Author.Tests.{leb-true, ltb-true, lt-ltb, le-ltb, ne_eqb}
use Rattle.std.specs.Prelude.{Result, Ok, Err}
use Rattle.factor.specs.Limits.{max_variables, max_size, max_total, max_factors, max_keys, max_rows}
use Rattle.factor.specs.Counting.{every}
use Rattle.factor.specs.Factor.{key_at, fits, is_clear, width, numbers}
use Rattle.factor.proofs.Counting.{every-at, all-at, pick_true, pick-false, sum_more, sum-le}
use Rattle.factor.specs.declared.Factor.{Factor}
use Rattle.factor.proofs.Fitting.{fits_touched, fits-key, prior_touched, prior-rows, few_rows}
use Rattle.factor.proofs.KeyOrder.{width-within}
use Rattle.graph.specs.Record.{size_at, factor_at, size_fits, registered, clear, variable_place, variables_fit, factor_place, factors_fit, offset, total}
use Rattle.graph.specs.Record.{live_at, last_live, valid}
use Rattle.graph.specs.declared.Graph.{Graph}
use Rattle.graph.specs.declared.refusal.Refusal.{Refusal}
use Rattle.graph.specs.declared.refusal.Refusal.TheVariants.{NotLive, NoSuchGraph}

-- a size is within the limit
pub size-most : (s : ℕ) → size_fits s ≡ true → s ≤ max_size
unfolding size_fits
size-most s h = leb-true _ _ (every-at _ 1 h)

-- a live factor has a number below the count, and its record says that it is live
module _ (g : Graph) (j : ℕ) (h : live_at g j ≡ true) where
  pub live_below : j < g.count
  unfolding live_at
  live_below = ltb-true _ _ (every-at _ 0 h)

  pub live-told : (factor_at g j).live ≡ true
  unfolding live_at
  live-told = every-at _ 1 h

-- below the count the record alone says whether a factor is live
pub live-is : (g : Graph) (j : ℕ) → j < g.count → live_at g j ≡ (factor_at g j).live
unfolding live_at every
live-is g j l = simp (lt-ltb _ _ l, and-true)

pub live_of : (g : Graph) (j : ℕ) → j < g.count → (factor_at g j).live ≡ true → live_at g j ≡ true
live_of g j l e = live-is g j l ∙ e

module _ (g : Graph) (v : valid g ≡ true) where
  pub valid-variables : g.variables ≤ max_variables
  unfolding valid
  valid-variables = leb-true _ _ (every-at _ 0 v)

  pub valid-count : g.count ≤ max_factors
  unfolding valid
  valid-count = leb-true _ _ (every-at _ 1 v)

  pub valid-total : total g ≤ max_total
  unfolding valid
  valid-total = leb-true _ _ (every-at _ 3 v)

  valid-place : (i : ℕ) → i < max_variables → variable_place g i ≡ true
  unfolding valid variables_fit
  valid-place i l = all-at (λ k. variable_place g k) max_variables i (every-at _ 2 v) l

  pub valid-registered : (i : ℕ) → i < g.variables → registered g i ≡ true
  unfolding variable_place
  valid-registered i l = pick_true _ (clear g i) (lt-ltb _ _ l) (valid-place i (omega (arith, valid-variables)))

  pub valid-clear : (i : ℕ) → g.variables ≤ i → i < max_variables → clear g i ≡ true
  unfolding variable_place
  valid-clear i l m = pick-false (registered g i) (clear g i) (le-ltb _ _ l) (valid-place i m)

  -- the size of a registered key
  pub valid-size : (i : ℕ) → i < g.variables → size_fits (size_at g i) ≡ true
  unfolding registered
  valid-size i l = every-at _ 1 (valid-registered i l)

  valid-factor-place : (i : ℕ) → i < max_factors → factor_place g i ≡ true
  unfolding valid factors_fit
  valid-factor-place i l = all-at (λ k. factor_place g k) max_factors i (every-at _ 4 v) l

  -- a factor's record fits: `Fitting` of crate `factor` says what that tells
  pub valid-factor : (i : ℕ) → i < g.count → fits g.sizes g.variables (factor_at g i) ≡ true
  unfolding factor_place
  valid-factor i l = pick_true _ (is_clear (factor_at g i)) (lt-ltb _ _ l) (valid-factor-place i (omega (arith, valid-count)))

  pub valid_no_factor : (i : ℕ) → g.count ≤ i → i < max_factors → is_clear (factor_at g i) ≡ true
  unfolding factor_place
  valid_no_factor i l m = pick-false (fits g.sizes g.variables (factor_at g i)) (is_clear (factor_at g i)) (le-ltb _ _ l) (valid-factor-place i m)

  -- the last factor is live
  pub valid-last : (i : ℕ) → i + 1 ≡ g.count → (factor_at g i).live ≡ true
  unfolding valid last_live
  valid-last i e =
      let at : i ≡ g.count - 1 = omega arith in
      ap (λ (j : ℕ). (factor_at g j).live) at
      ∙ live-told g (g.count - 1) (pick-false true _ (ne_eqb g.count 0 (λ z. omega arith)) (every-at _ 5 v))

  pub valid_touched : (i : ℕ) → i < g.count → (factor_at g i).touched ≤ max_keys
  valid_touched i l = fits_touched g.sizes g.variables (factor_at g i) (valid-factor i l)

  -- a record that fits has few rows
  pub rows-most : (f : Factor) → fits g.sizes g.variables f ≡ true → f.rows ≤ max_rows
  rows-most f h = go f.prior refl
    where
      go : (b : Bool) → f.prior ≡ b → f.rows ≤ max_rows
      go true p =
          let t : f.touched ≡ 1 = prior_touched g.sizes g.variables f h p in
          let k : key_at f 0 < g.variables = fits-key g.sizes g.variables f h 0 (omega arith) in
          omega (arith, prior-rows g.sizes g.variables f h p, size-most _ (valid-size (key_at f 0) k))
      go false p = few_rows g.sizes g.variables f h p

  -- a record that fits is no wider than all variables together
  pub width-most : (f : Factor) → fits g.sizes g.variables f ≡ true → width g.sizes f ≤ max_total
  unfolding total
  width-most f h =
      let w : width g.sizes f ≤ total g = width-within g.sizes g.variables f h max_variables
      (λ j l. omega (arith, fits-key g.sizes g.variables f h j l, valid-variables)) in
      omega (arith, valid-total)

-- the numbers of a factor follow those of the one before it
pub offset-more : (g : Graph) (i : ℕ) → offset g (i + 1) ≡ offset g i + numbers g.sizes (factor_at g i)
unfolding offset
offset-more g i = sum_more (λ k. numbers g.sizes (factor_at g k)) i

-- and end within those of all factors
pub offset-within : (g : Graph) (i n : ℕ) → i < n → offset g i + numbers g.sizes (factor_at g i) ≤ offset g n
unfolding offset
offset-within g i n l = omega (
  arith,
  sum_more (λ k. numbers g.sizes (factor_at g k)) i,
  sum-le (λ k. numbers g.sizes (factor_at g k)) (i + 1) n (omega arith),
)

-- a factor that a call may supersede has a place
pub live_checked : (g : Graph) (j : ℕ) (u : Unit {0}) (r : Result (Unit {0}) Refusal)
    → r ≡ cond (not (valid g)) (Err NoSuchGraph) (cond (not (live_at g j)) (Err NotLive) (Ok tt))
    → r ≡ Ok u → j < max_factors
live_checked g j u r e o = go (valid g) (live_at g j) refl refl (sym e ∙ o)
  where
    go : (a b : Bool) → valid g ≡ a → live_at g j ≡ b
        → ◌≡◌ {A = Result (Unit {0}) Refusal} (cond (not a) (Err NoSuchGraph) (cond (not b) (Err NotLive) (Ok tt))) (Ok u)
        → j < max_factors
    go true true v l h = omega (arith, live_below g j l, valid-count g v)
    go true false v l h = absurd (let z : ◌≡◌ {A = ℕ} 0 1 = cc in omega arith)
    go false b v l h = absurd (let z : ◌≡◌ {A = ℕ} 0 1 = cc in omega arith)
