-- The look for an original met twice finds nothing, since every key lists each live original once (`once`); so the run with it is the run. Assumes nothing.
use mathlib.Core.Path.{◌≡◌, refl, subst}
use mathlib.Core.Bool.{Bool, true, false, not, cond, ◌||◌, true≢false}
use mathlib.Core.List.{List, [], ◌∷◌, ◌++◌}
use Prim.Native.Nat.{ℕ, suc, ◌+◌, ◌-◌, ◌≤◌, ◌<◌}
use native.Mathlib.Omega.{arith}
use lib.Dec.{leb}
use Rattle.std.specs.Prelude.{Ok, Err}
use lib.Ieee.{Float}
use lib.ListN.{length, get_or}
use Rattle.factor.specs.Counting.{every}
use Rattle.graph.specs.Record.{live_at, offset, valid}
use Rattle.graph.specs.declared.Graph.{Graph}
use Rattle.graph.proofs.Numbers.{never_18}
use Rattle.schedule.specs.Count.{count, from, each_once}
use Rattle.schedule.specs.Pass.{at}
use Rattle.schedule.specs.Gather.{Gathered}
use Rattle.schedule.specs.Plan as schedule
use Rattle.schedule.proofs.Counts.{hit_same, rising_once}
use Rattle.workspace.specs.Frames.{work_numbers}
use Rattle.gaussian.specs.Elimination.{Outcome}
use Rattle.messages.specs.Values.{values, FirstRefusal, refusal_from, finished_numbers, overlaid}
use Rattle.marginals.specs.Marginals.{marginal_numbers, Found, found, refused, marginal, marginals_from, planned_marginals, missing_from}
use Rattle.solver.specs.Plan.{graph_plan, plan_along, planned, planned_along}
use Rattle.solver.specs.Run as solver
use Rattle.solver.specs.Run.{RunVerdict, refuse, key_at}
use Rattle.solver.proofs.GraphOnce.{once}
use Rattle.solver.proofs.Carriable.{along-runnable}
use Rattle.solver.proofs.Rising.{rising-plan}
use Rattle.claims.specs.Demand3.{plan_of}
use Rattle.claims.specs.Retired as looking
use Rattle.claims.specs.Retired.{twice, met, some_met, Verdict, told, unless, Retired}

-- ---- the look finds nothing

-- in a list that has nothing twice
not-twice : (l : List ℕ) → ((i : ℕ) → count i l ≤ 1) → twice l ≡ false
unfolding twice count
not-twice [] h = refl
not-twice (i ∷ l) h =
    let z : count i l ≡ 0 = omega (arith, h i, hit_same i) in
    rw z (not-twice l (λ j. omega (arith, h j)))

-- at a key whose leaves have nothing twice
not-met : (q : Gathered) → ((i : ℕ) → count i q.leaves ≤ 1) → met q ≡ false
unfolding met
not-met q h = not-twice q.leaves h

none-met : (qs : List Gathered) → ((k : ℕ) → k < length qs → (d : Gathered) (i : ℕ) → count i (get_or qs k d).leaves ≤ 1) → some_met qs ≡ false
unfolding some_met
none-met [] h = refl
none-met (q ∷ qs) h = rw (not-met q (h 0 (omega arith) q), none-met qs (λ k l. h (suc k) (omega arith))) refl

-- in a plan
plans_along : (g : Graph) (order : List ℕ) → some_met (plan_of (planned_along g order)).at_key ≡ false
unfolding planned_along some_met
plans_along g order = go (valid g) (each_once g.variables order) refl refl
  where
    go : (a b : Bool) → valid g ≡ a → each_once g.variables order ≡ b → some_met (plan_of (planned_along g order)).at_key ≡ false
    go true true v o = rw (v, o) (none-met (plan_along g order).at_key (λ k l d i. omega
        (arith, (once g order v o k (omega (arith, (along-runnable g order v o).for_each)) d).listed i, rising_once g.count (live_at g) i)))
    go true false v o = rw (v, o) refl
    go false b v o = rw v refl

plans : (g : Graph) → some_met (plan_of (planned g)).at_key ≡ false
plans g = subst (λ a. some_met (plan_of a).at_key ≡ false) (rising-plan g) (plans_along g (from 0 g.variables))

-- ---- the run

neither : (a b : Bool) → (a || b) ≡ false → (a ≡ false) × (b ≡ false)
neither true b e = absurd (true≢false e)
neither false b e = (refl, e)

-- what follows a test, with the look and without
by_test : (b : Bool) (v w : RunVerdict) (w' : Verdict) → (b ≡ true → w' ≡ told w) → cond (not b) (told v) w' ≡ told (cond (not b) v w)
by_test true v w w' h = h refl
by_test false v w w' h = refl

module _ (g : Graph) (key : ℕ → ℕ) (p : schedule.Plan) (figure : ℕ) (factors messages marginals : List Float) where
  abbrev fw : List Outcome
  fw = values g factors p.forward

  abbrev bw : List Outcome
  bw = values g factors p.backward

  abbrev laid : List Float
  laid = overlaid messages (finished_numbers fw ++ finished_numbers bw)

  abbrev stage_three : FirstRefusal → RunVerdict
  stage_three = solver.third figure laid marginals (planned_marginals g factors p)

  by_key : (k : ℕ) (f : Found) (fs : List Found) (next' : Verdict) → next' ≡ told (stage_three (missing_from (k + 1) fs))
      → unless (missing_from k (f ∷ [])) (λ i why. refuse figure why 3 i laid marginals) next' ≡ told (stage_three (missing_from k (f ∷ fs)))
  unfolding unless solver.third missing_from
  by_key k (found mean covariance) fs next' h = h
  by_key k (refused why) fs next' h = refl

  thirds : (k : ℕ) (qs : List Gathered) → some_met qs ≡ false
      → looking.third g key p figure factors messages marginals k qs ≡ told (stage_three (missing_from k (marginals_from g factors p fw bw k qs)))
  unfolding some_met looking.third solver.third marginals_from missing_from
  thirds k [] e = refl
  thirds k (q ∷ qs) e =
      let clear = neither (met q) (some_met qs) e in
      rw clear.0 (by_key k (marginal g factors p fw bw k q) (marginals_from g factors p fw bw (k + 1) qs) _ (thirds (k + 1) qs clear.1))

  seconds : (s : FirstRefusal) (next : RunVerdict) (next' : Verdict) → next' ≡ told next
      → unless s (λ j why. refuse figure why 2 (key (g.variables - 1 - (at p.backward j).step)) laid marginals) next'
      ≡ told (solver.second figure g.variables key p.backward laid marginals s next)
  unfolding unless solver.second
  seconds (Ok done) next next' h = h
  seconds (Err undone) next next' h = refl

  firsts : (s : FirstRefusal) (l : List Float) (next : RunVerdict) (next' : Verdict) → next' ≡ told next
      → unless s (λ j why. refuse figure why 1 (key (at p.forward j).step) l marginals) next' ≡ told (solver.first figure key p.forward l marginals s next)
  unfolding unless solver.first
  firsts (Ok done) l next next' h = h
  firsts (Err undone) l next next' h = refl

  checked-same : (work : ℕ) → some_met p.at_key ≡ false
      → looking.checked g key p figure factors messages marginals work ≡ told (solver.checked g key p figure factors messages work marginals)
  unfolding looking.checked looking.carried solver.checked solver.carried
  checked-same work e =
      by_test (leb (offset g g.count) (length factors)) _ _ _
      (λ a. by_test (every (leb figure (length messages) ∷ leb work_numbers work ∷ leb (marginal_numbers g) (length marginals) ∷ [])) _ _ _
      (λ b. firsts (refusal_from 0 fw) _ _ _ (seconds (refusal_from 0 bw) _ _ (thirds 0 p.at_key e))))

module _ (g : Graph) (factors messages : List Float) (work : ℕ) (marginals : List Float) where
  runs : looking.run g factors messages work marginals ≡ told (solver.run g factors messages work marginals)
  unfolding looking.run solver.run planned
  runs = by_test (valid g) _ _ _ (λ v. checked-same g (λ place. place) (graph_plan g) _ factors messages marginals work (made_once v))
    where
      made_once : valid g ≡ true → some_met (graph_plan g).at_key ≡ false
      made_once v = rw v at (plans g)

  runs_along : (order : List ℕ) → looking.run_along g order factors messages work marginals ≡ told (solver.run_along g order factors messages work marginals)
  unfolding looking.run_along solver.run_along planned_along
  runs_along order =
      by_test (valid g) _ _ _
      (λ v. by_test (each_once g.variables order) _ _ _
      (λ o. checked-same g (key_at order) (plan_along g order) _ factors messages marginals work (made_once v o)))
    where
      made_once : valid g ≡ true → each_once g.variables order ≡ true → some_met (plan_along g order).at_key ≡ false
      made_once v o = rw (v, o) at (plans_along g order)

pub retired : Retired
retired =
    record {
      number_gone = never_18;
      plans = plans;
      plans_along = plans_along;
      runs = runs;
      runs_along = λ g order factors messages work marginals. runs_along g factors messages work marginals order;
    }
