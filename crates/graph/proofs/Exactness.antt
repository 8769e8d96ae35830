-- The record test is exact: a valid record of the declared shape is yielded by registering its variables in order, and then its factors in order, each in
-- place of the one before it where that one isn't live. Assumes nothing.
use Prim.Native.Nat.{ℕ, zero, suc, ◌+◌, ◌<◌, ◌≤◌}
use mathlib.Core.Path.{◌≡◌, refl, sym, ap, subst, ◌∙◌}
use mathlib.Core.Bool.{Bool, true, false}
use mathlib.Core.Logic.{◌↔◌}
use mathlib.Core.List.{List, [], ◌∷◌}
use native.Mathlib.Numerals.{add-one}
use native.Mathlib.Omega.{arith}
use lib.ListN.{length, set, replicate}
use lib.Seq.{set-set, set_comm}
use Rattle.factor.specs.Limits.{max_variables, max_total, max_factors, max_keys}
use Rattle.factor.specs.Counting.{every, sum}
use Rattle.factor.specs.Factor.{key_at, no_factor, absent, with_live}
use Rattle.factor.specs.declared.Factor.{Factor}
use Rattle.factor.proofs.Counting.{every-at, sum-le, sum_more, sum_ext, sum-stop}
use Rattle.factor.proofs.Fitting.{fits_touched, fits-key, prior_touched, prior-is, some-rows, few_rows, touches, touches-long, touches-rising}
use Rattle.factor.proofs.Fitting.{touches-known, observation-is, clear-is}
use Rattle.graph.specs.Record.{no_name, name_at, size_at, factor_at, scalar, size_fits, free, total, registered, live_at, valid}
use Rattle.graph.specs.Registration.{Added, with_factor, retired, replacing}
use Rattle.graph.specs.Reached.{Exposure, variable, register, supersede, graph_after, yields, Reached}
use Rattle.graph.specs.declared.Graph.{Graph}
use Rattle.graph.proofs.Calls.{in_place_lem, reached-more}
use Rattle.graph.proofs.Filling.{fill, fill-set, fill-below, fill-above, fill-all, fill-length}
use Rattle.graph.proofs.Keeping.{Shaped, Sound, sound_of, free_ext, clear_name, clear-size, good_of}
use Rattle.graph.proofs.Passing.{variable-taken, room, EntersAs, plain_prior, prior-taken, plain_observation, observation-taken}
use Rattle.graph.proofs.Validity.{live_of}
use Rattle.graph.proofs.Factors.{added_at, added_else}

module _ (g : Graph) (sh : Shaped g) (so : Sound g) where
  -- ---- the first k variables, and no factors

  abbrev vars : ℕ → Graph
  vars k =
      record {
        symbols = fill g.symbols max_variables sh.symbols no_name no_name k;
        sizes = fill g.sizes max_variables sh.sizes 0 0 k;
        variables = k;
        factors = replicate max_factors no_factor;
        count = 0;
      }

  total_of : (k : ℕ) → k ≤ g.variables → total (vars k) ≡ sum (λ i. size_at g i) k
  unfolding total
  total_of k l =
      let m : g.variables ≤ max_variables = so.few in
      sum-stop (λ i. size_at (vars k) i) k max_variables (omega arith) (λ i a b. fill-above g.sizes max_variables sh.sizes 0 0 k i a b)
      ∙ sum_ext (λ i. size_at (vars k) i) (λ i. size_at g i) k (λ i a. fill-below g.sizes max_variables sh.sizes 0 0 k i (omega arith) a)

  room_for : (k : ℕ) → k < g.variables → total (vars k) + size_at g k ≤ max_total
  unfolding total
  room_for k l =
      let m : g.variables ≤ max_variables = so.few in
      let a : sum (λ i. size_at g i) (k + 1) ≤ sum (λ i. size_at g i) max_variables = sum-le (λ i. size_at g i) (k + 1) max_variables (omega arith) in
      omega (arith, so.room, sum_more (λ i. size_at g i) k, total_of k (omega arith))

  next-variable : (k : ℕ) → k < g.variables → valid (vars k) ≡ true → graph_after (vars k) (variable (name_at g k) (size_at g k)) ≡ vars (k + 1)
  unfolding registered
  next-variable k l v =
      let m : g.variables ≤ max_variables = so.few in
      let r : every (scalar (name_at g k).0 ∷ size_fits (size_at g k) ∷ free g k (name_at g k) ∷ []) ≡ true = so.used k l in
      let f : free (vars k) k (name_at g k) ≡ true =
      free_ext (vars k) g k (name_at g k) (λ j a. fill-below g.symbols max_variables sh.symbols no_name no_name k j (omega arith) a) ∙ every-at _ 2 r in
      let b : k < max_variables = omega arith in
      variable-taken (vars k) (name_at g k) (size_at g k) (record {
        sound = v;
        letter = every-at _ 0 r;
        sized = every-at _ 1 r;
        new = f;
        few = b;
        room =
            room_for k l;
      })
      ∙ (λ i. record {
        symbols = fill-set g.symbols max_variables sh.symbols no_name no_name k b i;
        sizes = fill-set g.sizes max_variables sh.sizes 0 0 k b i;
        variables = k + 1;
        factors = replicate max_factors no_factor;
        count = 0;
      })

  reach_variables : (k : ℕ) → k ≤ g.variables → Reached (vars k)
  unfolding yields
  reach_variables zero l = ([], refl)
  reach_variables (suc k) l =
      let r : Reached (vars k) = reach_variables k (omega arith) in
      let s : Reached (vars (k + 1)) = reached-more (vars k) (vars (k + 1)) (variable (name_at g k) (size_at g k)) r
      (next-variable k l (good_of (vars k) r).1) in
      rw add-one at s

  -- ---- all variables, and the first k factors

  abbrev facs : ℕ → Graph
  facs k =
      record {
        symbols = g.symbols;
        sizes = g.sizes;
        variables = g.variables;
        factors = fill g.factors max_factors sh.factors no_factor absent k;
        count = k;
      }

  begun : vars g.variables ≡ facs 0
  begun =
      let m : g.variables ≤ max_variables = so.few in
      λ i. record {
        symbols = fill-all g.symbols max_variables sh.symbols no_name no_name g.variables m (λ j a b. clear_name g j (so.unused j a b)) i;
        sizes = fill-all g.sizes max_variables sh.sizes 0 0 g.variables m (λ j a b. clear-size g j (so.unused j a b)) i;
        variables = g.variables;
        factors = replicate max_factors no_factor;
        count = 0;
      }

  ended : facs g.count ≡ g
  ended =
      let m : g.count ≤ max_factors = so.few_factors in
      λ i. record {
        symbols = g.symbols;
        sizes = g.sizes;
        variables = g.variables;
        factors = fill-all g.factors max_factors sh.factors no_factor absent g.count m
            (λ j a b. clear-is (factor_at g j) (sh.keys j b) (so.none j a b)) i;
        count = g.count;
      }

  -- factor k of g as the call that registers it makes it, and all variables with the first k factors as they stand in g and that one
  abbrev made : ℕ → Factor
  made k = with_live (factor_at g k) true

  abbrev top : ℕ → Graph
  top k = with_factor (facs k) (made k)

  as_it_is : (f : Factor) (b : Bool) → f.live ≡ b → with_live f b ≡ f
  as_it_is f b e = λ i. record { prior = f.prior; touched = f.touched; rows = f.rows; keys = f.keys; live = sym e i }

  module _ (k : ℕ) (l : k < g.count) where
    below : k < max_factors
    below = omega (arith, so.few_factors)

    abbrev f : Factor
    f = factor_at g k

    -- the next factor of g goes to its place
    put_next : set (facs k).factors k (factor_at g k) ≡ (facs (k + 1)).factors
    put_next = fill-set g.factors max_factors sh.factors no_factor absent k below

    -- one that is live in g stands as it was registered
    stays : (factor_at g k).live ≡ true → top k ≡ facs (k + 1)
    stays e =
        ap (λ (fs : List Factor). record { symbols = g.symbols; sizes = g.sizes; variables = g.variables; factors = fs; count = k + 1 })
        (ap (set (facs k).factors k) (as_it_is (factor_at g k) true e) ∙ put_next)

    top_at : factor_at (top k) k ≡ made k
    top_at = added_at (facs k) (made k)
        (omega (arith, fill-length g.factors max_factors sh.factors no_factor absent k (omega (arith, below)), below))

    top_live : live_at (top k) k ≡ true
    top_live = live_of (top k) k (omega arith) (ap (λ (f : Factor). f.live) top_at)

    -- one that isn't is superseded by the next
    goes : (factor_at g k).live ≡ false → (h : Factor) → retired (with_factor (top k) h) k ≡ with_factor (facs (k + 1)) h
    goes e h =
        let old : factor_at (with_factor (top k) h) k ≡ made k = added_else (top k) h k (λ x. omega arith) ∙ top_at in
        ap (λ (fs : List Factor). record { symbols = g.symbols; sizes = g.sizes; variables = g.variables; factors = fs; count = k + 1 + 1 })
        (ap (λ (x : Factor). set (set (top k).factors (k + 1) h) k (with_live x false)) old
        ∙ ap (set (set (top k).factors (k + 1) h) k) (as_it_is (factor_at g k) false e)
        ∙ set_comm (top k).factors (k + 1) k h (factor_at g k) (λ x. omega arith)
        ∙ ap (λ (x : List Factor). set x (k + 1) h) (set-set (facs k).factors k (made k) (factor_at g k) ∙ put_next))

    -- to any factors there may be, over the variables of g, factor k of g can be added
    module _ (fs : List Factor) (n : ℕ) (few : n < max_factors) where
      abbrev having : Graph
      having = record { symbols = g.symbols; sizes = g.sizes; variables = g.variables; factors = fs; count = n }

      next-factor : valid having ≡ true → (exposure : Exposure) × (EntersAs having exposure (made k))
      next-factor v = go (factor_at g k).prior refl
        where
          go : (t : Bool) → f.prior ≡ t → (exposure : Exposure) × (EntersAs having exposure (made k))
          go true p =
              let t : f.touched ≡ 1 = prior_touched g.sizes g.variables f (so.good k l) p in
              let there : key_at f 0 < g.variables = fits-key g.sizes g.variables f (so.good k l) 0 (omega arith) in (
                plain_prior having (key_at f 0),
                rw (prior-is g.sizes g.variables f (sh.keys k below) (so.good k l) p) (prior-taken having v few (key_at f 0) there),
              )
          go false p =
              let keys : List ℕ = touches g.sizes g.variables f (sh.keys k below) (so.good k l) in
              let most : length keys ≤ max_keys =
              omega (
                arith,
                touches-long g.sizes g.variables f (sh.keys k below) (so.good k l),
                fits_touched g.sizes g.variables f (so.good k l),
              ) in (
                plain_observation having keys f.rows,
                rw (observation-is g.sizes g.variables f (sh.keys k below) (so.good k l) p)
                    (observation-taken having v few keys f.rows most (some-rows g.sizes g.variables f (so.good k l) p)
                    (few_rows g.sizes g.variables f (so.good k l) p) (touches-rising g.sizes g.variables f (sh.keys k below) (so.good k l))
                    (touches-known g.sizes g.variables f (sh.keys k below) (so.good k l))),
              )

      -- by a plain call, or in place of a live factor
      plainly : Reached having → Reached (with_factor having (made k))
      plainly r =
          let next = next-factor (good_of having r).1 in
          reached-more having _ (register next.0 (room having (made k))) r (ap (λ (x : Added). x.graph) next.1)

      over : (j : ℕ) → live_at having j ≡ true → Reached having → Reached (retired (with_factor having (made k)) j)
      over j h r =
          let v = (good_of having r).1 in
          let next = next-factor v in
          reached-more having _ (supersede j next.0 (room having (made k))) r
          (ap (λ (x : Added). x.graph) (sym (in_place_lem having j _ [] [] v _ h _ _ (refl, refl) refl).0
          ∙ ap (λ (x : Added). replacing x.graph j x.outcome) next.1))

  -- factor k + 1 is registered by a plain call where g has factor k live, and in place of factor k where it hasn't
  next_top : (k : ℕ) → k + 1 < g.count → Reached (top k) → Reached (top (k + 1))
  next_top k l r = go (factor_at g k).live refl
    where
      here : k < g.count
      here = omega arith

      few : k + 1 < max_factors
      few = omega (arith, so.few_factors)

      go : (b : Bool) → (factor_at g k).live ≡ b → Reached (top (k + 1))
      go true e = subst Reached (ap (λ (x : Graph). with_factor x (made (k + 1))) (stays k here e)) (plainly (k + 1) l (top k).factors (k + 1) few r)
      go false e = subst Reached (goes k here e (made (k + 1))) (over (k + 1) l (top k).factors (k + 1) few k (top_live k here) r)

  reach_begun : Reached (facs 0)
  reach_begun = let z : g.variables ≤ g.variables = omega arith in rw begun at (reach_variables g.variables z)

  reach_tops : (k : ℕ) → k < g.count → Reached (top k)
  reach_tops zero l = plainly 0 l (facs 0).factors 0 (omega arith) reach_begun
  reach_tops (suc k) l = let t : Reached (top (k + 1)) = next_top k (omega arith) (reach_tops k (omega arith)) in rw add-one at t

  -- there are no factors, or the last one is live
  reach_all : Reached (facs g.count)
  reach_all = go g.count refl
    where
      go : (n : ℕ) → g.count ≡ n → Reached (facs g.count)
      go zero e = rw e reach_begun
      go (suc n) e =
          let l : n < g.count = omega arith in
          let f : n + 1 ≡ g.count = omega arith in
          rw (stays n l (so.last n f) ∙ ap facs f) at (reach_tops n l)

-- a record of the declared shape is valid if and only if some list of calls yields it
pub exact : (g : Graph) → Shaped g → (valid g ≡ true) ↔ Reached g
exact g sh = (there, λ r. (good_of g r).1)
  where
    there : valid g ≡ true → Reached g
    there v =
        let so : Sound g = sound_of g v in
        rw (ended g sh so) at (reach_all g sh so)
