-- Each registering call keeps a record valid, whether it refuses or not. Assumes nothing.
use Prim.Native.Nat.{ℕ, ◌+◌, ◌-◌, ◌<◌, ◌≤◌}
use mathlib.Core.Path.{◌≡◌, refl, sym, ap, ◌∙◌}
use mathlib.Core.Bool.{true, false, not}
use mathlib.Core.List.{List, [], ◌∷◌}
use native.Mathlib.Omega.{arith}
use native.Mathlib.Decide.{ℕ_discrete, dec_lt}
use borrow.Author.Tests.{ltb-true, ltb-false, eqb-true, eqb-false, le-leb}
use lib.Dec.{eqb}
use lib.Ieee.{Float}
use lib.ListN.{length, get_or-replicate, length-set}
use lib.Seq.{get_or-set_same, get_or-set_other}
use Rattle.factor.specs.Limits.{max_variables, max_total, max_factors, max_keys}
use Rattle.factor.specs.Counting.{every, all, sum}
use Rattle.factor.specs.Factor.{no_factor, absent, with_live, fits, is_clear}
use Rattle.factor.specs.declared.Factor.{Factor}
use Rattle.factor.proofs.Counting.{every-at, every_3, every_6, by_test, all_of, all_ext, sum-put}
use Rattle.factor.proofs.Fitting.{fits_more, fits-live}
use Rattle.graph.specs.Record.{no_name, name_at, size_at, factor_at, fresh, scalar, size_fits, same, free, total, registered, clear, variable_place}
use Rattle.graph.specs.Record.{variables_fit, factor_place, factors_fit, live_at, last_live, valid}
use Rattle.graph.specs.Registration.{Added, with_variable, with_factor, retired}
use Rattle.graph.specs.Reached.{Call, graph_after, yields, Reached}
use Rattle.graph.specs.declared.Symbol.{Symbol}
use Rattle.graph.specs.declared.Graph.{Graph}
use Rattle.graph.proofs.Checking.{Named, Taken}
use Rattle.graph.proofs.Calls.{Comes, turned, named, taken, replaced, comes}
use Rattle.graph.proofs.Validity.{valid-variables, valid-count, valid-total, valid-registered, valid-clear, valid-factor, valid_no_factor, valid-last}
use Rattle.graph.proofs.Validity.{live_below, live_of}
use Rattle.graph.proofs.Factors.{added_at, added_else, retired-at, retired_else}

-- the arrays have the lengths that the struct declares
pub record Shaped (g : Graph) : Type 0 where
  pub symbols : length g.symbols ≡ max_variables
  pub sizes : length g.sizes ≡ max_variables
  pub factors : length g.factors ≡ max_factors
  pub keys : (i : ℕ) → i < max_factors → length (factor_at g i).keys ≡ max_keys

-- what makes a record valid, index by index
pub record Sound (g : Graph) : Type 0 where
  pub few : g.variables ≤ max_variables
  pub few_factors : g.count ≤ max_factors
  pub used : (i : ℕ) → i < g.variables → registered g i ≡ true
  pub unused : (i : ℕ) → g.variables ≤ i → i < max_variables → clear g i ≡ true
  pub room : total g ≤ max_total
  pub good : (i : ℕ) → i < g.count → fits g.sizes g.variables (factor_at g i) ≡ true
  pub none : (i : ℕ) → g.count ≤ i → i < max_factors → is_clear (factor_at g i) ≡ true
  pub last : (i : ℕ) → i + 1 ≡ g.count → (factor_at g i).live ≡ true

pub sound_of : (g : Graph) → valid g ≡ true → Sound g
sound_of g v =
    record {
      few = valid-variables g v;
      few_factors = valid-count g v;
      used = valid-registered g v;
      unused = valid-clear g v;
      room = valid-total g v;
      good = valid-factor g v;
      none = valid_no_factor g v;
      last = valid-last g v;
    }

valid_of : (g : Graph) → Sound g → valid g ≡ true
unfolding valid variables_fit factors_fit variable_place factor_place last_live
valid_of g s =
    every_6 _ _ _ _ _ _
    (le-leb _ _ s.few)
    (le-leb _ _ s.few_factors)
    (all_of (λ i. variable_place g i) max_variables (λ i l. by_test _ _ _ (λ t. s.used i (ltb-true _ _ t)) (λ t. s.unused i (ltb-false _ _ t) l)))
    (le-leb _ _ s.room)
    (all_of (λ i. factor_place g i) max_factors (λ i l. by_test _ _ _ (λ t. s.good i (ltb-true _ _ t)) (λ t. s.none i (ltb-false _ _ t) l)))
    (by_test (eqb g.count 0) _ _ (λ _. refl) (λ t. last (eqb-false _ _ t)))
  where
    last : (g.count ≡ 0 → ⊥) → live_at g (g.count - 1) ≡ true
    last d = live_of g (g.count - 1) (omega arith) (s.last (g.count - 1) (omega arith))

-- ---- what a place of the variables looks at

pub free_ext : (g h : Graph) (n : ℕ) (name : Symbol) → ((j : ℕ) → j < n → name_at g j ≡ name_at h j) → free g n name ≡ free h n name
unfolding free
free_ext g h n name e = all_ext _ _ n (λ j l. ap (λ (s : Symbol). not (same s name)) (e j l))

registered_ext : (g h : Graph) (i : ℕ) → ((j : ℕ) → j < i + 1 → name_at g j ≡ name_at h j) → size_at g i ≡ size_at h i → registered g i ≡ registered h i
unfolding registered
registered_ext g h i e s =
    let a : name_at g i ≡ name_at h i = e i (omega arith) in
    let b : free g i (name_at g i) ≡ free h i (name_at g i) = free_ext g h i (name_at g i) (λ j l. e j (omega arith)) in
    rw (b, a, s)

clear_ext : (g h : Graph) (i : ℕ) → name_at g i ≡ name_at h i → size_at g i ≡ size_at h i → clear g i ≡ clear h i
unfolding clear
clear_ext g h i e s = rw (e, s)

same-is : (a b : Symbol) → same a b ≡ true → a ≡ b
unfolding same
same-is a b e = λ i. record { 0 = eqb-true a.0 b.0 (every-at _ 0 e) i; 1 = eqb-true a.1 b.1 (every-at _ 1 e) i }

pub clear_name : (g : Graph) (i : ℕ) → clear g i ≡ true → name_at g i ≡ no_name
unfolding clear
clear_name g i e = same-is _ _ (every-at _ 0 e)

pub clear-size : (g : Graph) (i : ℕ) → clear g i ≡ true → size_at g i ≡ 0
unfolding clear
clear-size g i e = eqb-true _ _ (every-at _ 1 e)

-- ---- a variable more

module _ (g : Graph) (sh : Shaped g) (so : Sound g) (name : Symbol) (size : ℕ) (new : Named g name size) where
  abbrev n : ℕ
  n = g.variables

  abbrev h : Graph
  h = with_variable g name size

  name_at_lem : name_at h n ≡ name
  name_at_lem = get_or-set_same g.symbols n name no_name (omega (arith, sh.symbols, new.few))

  size-at : size_at h n ≡ size
  size-at = get_or-set_same g.sizes n size 0 (omega (arith, sh.sizes, new.few))

  name_else : (i : ℕ) → (i ≡ n → ⊥) → name_at h i ≡ name_at g i
  name_else i d = get_or-set_other g.symbols n i name no_name d

  size_else : (i : ℕ) → (i ≡ n → ⊥) → size_at h i ≡ size_at g i
  size_else i d = get_or-set_other g.sizes n i size 0 d

  new-place : registered h n ≡ true
  unfolding registered
  new-place =
      every_3 _ _ _ (ap (λ (s : Symbol). scalar s.0) name_at_lem ∙ new.letter) (ap size_fits size-at ∙ new.sized)
      (ap (λ (s : Symbol). free h n s) name_at_lem ∙ free_ext h g n name (λ j k. name_else j (λ x. omega arith)) ∙ new.new)

  used_more : (i : ℕ) → i < n + 1 → registered h i ≡ true
  used_more i l = go (dec_lt i n)
    where
      go : Dec (i < n) → registered h i ≡ true
      go (yes m) = registered_ext h g i (λ j k. name_else j (λ x. omega arith)) (size_else i (λ x. omega arith)) ∙ so.used i m
      go (no m) = let e : i ≡ n = omega arith in rw e new-place

  total-more : total h ≡ total g + size
  unfolding total
  total-more =
      sum-put (λ i. size_at g i) (λ i. size_at h i) n max_variables new.few (λ i l d. size_else i d) (clear-size g n (so.unused n (omega arith) new.few))
      ∙ ap (λ (x : ℕ). sum (λ i. size_at g i) max_variables + x) size-at

  variable-sound : Sound h
  variable-sound =
      record {
        few = omega (arith, new.few);
        few_factors = so.few_factors;
        used = used_more;
        unused = λ i l m. clear_ext h g i (name_else i (λ x. omega arith)) (size_else i (λ x. omega arith)) ∙ so.unused i (omega arith) m;
        room = omega (arith, total-more, new.room);
        good = λ i l. fits_more g.sizes h.sizes g.variables h.variables (omega arith) (λ j k. sym (size_else j (λ x. omega arith)))
            (factor_at g i) (so.good i l);
        none = so.none;
        last = so.last;
      }

  variable_shaped : Shaped h
  variable_shaped =
      record {
        symbols = length-set g.symbols n name ∙ sh.symbols;
        sizes = length-set g.sizes n size ∙ sh.sizes;
        factors = sh.factors;
        keys = sh.keys;
      }

-- ---- a factor more

module _ (g : Graph) (sh : Shaped g) (so : Sound g) (f : Factor) (h12 : g.count < max_factors) (fit : fits g.sizes g.variables f ≡ true)
    (long : length f.keys ≡ max_keys) (alive : f.live ≡ true) where
  factor-at : factor_at (with_factor g f) g.count ≡ f
  factor-at = added_at g f (omega (arith, sh.factors))

  good_more : (i : ℕ) → i < g.count + 1 → fits g.sizes g.variables (factor_at (with_factor g f) i) ≡ true
  good_more i l = go (dec_lt i g.count)
    where
      go : Dec (i < g.count) → fits g.sizes g.variables (factor_at (with_factor g f) i) ≡ true
      go (yes m) = rw (added_else g f i (λ x. omega arith)) (so.good i m)
      go (no m) = let e : i ≡ g.count = omega arith in rw (e, factor-at) fit

  factor-sound : Sound (with_factor g f)
  unfolding total
  factor-sound =
      record {
        few = so.few;
        few_factors = omega arith;
        used = λ i l. registered_ext (with_factor g f) g i (λ j k. refl) refl ∙ so.used i l;
        unused = λ i l m. clear_ext (with_factor g f) g i refl refl ∙ so.unused i l m;
        room = so.room;
        good = good_more;
        none = λ i l m. ap is_clear (added_else g f i (λ x. omega arith)) ∙ so.none i (omega arith) m;
        last = λ i e. let at : i ≡ g.count = omega arith in rw (at, factor-at) alive;
      }

  keys-more : (i : ℕ) → i < max_factors → Dec (i < g.count) → Dec (g.count < i) → length (factor_at (with_factor g f) i).keys ≡ max_keys
  keys-more i l (yes m) d = ap (λ (x : Factor). length x.keys) (added_else g f i (λ x. omega arith)) ∙ sh.keys i l
  keys-more i l (no m) (yes k) = ap (λ (x : Factor). length x.keys) (added_else g f i (λ x. omega arith)) ∙ sh.keys i l
  keys-more i l (no m) (no k) =
      let e : i ≡ g.count = omega arith in
      ap (λ (j : ℕ). length (factor_at (with_factor g f) j).keys) e ∙ ap (λ (x : Factor). length x.keys) factor-at ∙ long

  factor_shaped : Shaped (with_factor g f)
  factor_shaped =
      record {
        symbols = sh.symbols;
        sizes = sh.sizes;
        factors = length-set g.factors g.count f ∙ sh.factors;
        keys = λ i l. keys-more i l (dec_lt i g.count) (dec_lt g.count i);
      }

-- ---- a factor retired that isn't the last

module _ (g : Graph) (sh : Shaped g) (so : Sound g) (j : ℕ) (l : j + 1 < g.count) where
  -- what doesn't look at the live state stays as it was
  retired_as : (P : Factor → Type 0) → (P (factor_at g j) → P (with_live (factor_at g j) false)) → (i : ℕ) → P (factor_at g i) → P (factor_at (retired g j) i)
  retired_as P h i p = go (ℕ_discrete i j)
    where
      go : Dec (i ≡ j) → P (factor_at (retired g j) i)
      go (yes e) = let q : P (factor_at g j) = rw e at p in rw (e, retired-at g j (omega (arith, sh.factors, so.few_factors))) (h q)
      go (no d) = rw (retired_else g j i d) p

  retired-sound : Sound (retired g j)
  unfolding total
  retired-sound =
      record {
        few = so.few;
        few_factors = so.few_factors;
        used = λ i k. registered_ext (retired g j) g i (λ _ _. refl) refl ∙ so.used i k;
        unused = λ i k m. clear_ext (retired g j) g i refl refl ∙ so.unused i k m;
        room = so.room;
        good = λ i k. retired_as (λ f. fits g.sizes g.variables f ≡ true) (λ p. fits-live g.sizes g.variables (factor_at g j) false ∙ p) i
            (so.good i k);
        none = λ i k m. ap is_clear (retired_else g j i (λ x. omega arith)) ∙ so.none i k m;
        last = λ i e. ap (λ (f : Factor). f.live) (retired_else g j i (λ x. omega arith)) ∙ so.last i e;
      }

  retired_shaped : Shaped (retired g j)
  retired_shaped =
      record {
        symbols = sh.symbols;
        sizes = sh.sizes;
        factors = length-set g.factors j (with_live (factor_at g j) false) ∙ sh.factors;
        keys = λ i k. retired_as (λ f. length f.keys ≡ max_keys) (λ p. p) i (sh.keys i k);
      }

-- ---- each call

abbrev pub Good : Graph → Type 0
Good g = Shaped g × (valid g ≡ true)

module _ (g : Graph) (ok : Good g) where
  abbrev so : Sound g
  so = sound_of g ok.1

  taken_shaped : (f : Factor) {a mean variance store xi w : List Float} → Taken g f a mean variance store xi w → Shaped (with_factor g f)
  taken_shaped f t = factor_shaped g ok.0 so f t.passed.few t.fit t.long t.alive

  taken-sound : (f : Factor) {a mean variance store xi w : List Float} → Taken g f a mean variance store xi w → Sound (with_factor g f)
  taken-sound f t = factor-sound g ok.0 so f t.passed.few t.fit t.long t.alive

  comes_good : {keys olds : List ℕ} {store s : List Float} {x : Added} → Comes g keys olds store x s → Good x.graph
  comes_good (turned why) = ok
  comes_good (named name size n) = (variable_shaped g ok.0 so name size n, valid_of _ (variable-sound g ok.0 so name size n))
  comes_good (taken f a mean variance xi w t e o) = (taken_shaped f t, valid_of _ (taken-sound f t))
  comes_good (replaced j h f a mean variance xi w t e o) =
      let l : j + 1 < g.count + 1 = omega (arith, live_below g j h) in (
        retired_shaped (with_factor g f) (taken_shaped f t) (taken-sound f t) j l,
        valid_of _ (retired-sound (with_factor g f) (taken_shaped f t) (taken-sound f t) j l),
      )

fresh_good : Good fresh
unfolding valid variables_fit factors_fit every all variable_place clear same factor_place is_clear total sum last_live
fresh_good = (
  record {
    symbols = refl;
    sizes = refl;
    factors = refl;
    keys = λ i l. ap (λ (x : Factor). length x.keys)
        (get_or-replicate max_factors i no_factor absent l);
  },
  refl,
)

yields_good : (cs : List Call) (g : Graph) → Good g → Good (yields g cs)
unfolding yields
yields_good [] g ok = ok
yields_good (c ∷ cs) g ok = yields_good cs (graph_after g c) (comes_good g ok (comes g [] c))

-- a graph that some list of calls yields is valid
pub good_of : (g : Graph) → Reached g → Good g
good_of g r = rw r.1 at (yields_good r.0 fresh fresh_good)
