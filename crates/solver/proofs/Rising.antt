-- With keys rising the plan and the run along an order are those without one. Assumes nothing.
use mathlib.Core.Path.{◌≡◌, refl, ap, subst, ◌∙◌}
use mathlib.Core.Bool.{Bool, true, false}
use mathlib.Core.List.{List}
use Prim.Native.Nat.{ℕ, zero, suc, ◌+◌, ◌-◌, ◌<◌, min}
use native.Mathlib.Omega.{arith}
use lib.Ieee.{Float}
use lib.ListN.{length, get_or, take}
use Rattle.factor.specs.Limits.{max_variables}
use Rattle.graph.specs.Record.{valid}
use Rattle.graph.specs.declared.Graph.{Graph}
use Rattle.graph.proofs.Validity.{valid-variables}
use Rattle.schedule.specs.Count.{from, each_once}
use Rattle.schedule.specs.Pass.{ClosedFactor, at}
use Rattle.schedule.specs.Plan as schedule
use Rattle.schedule.proofs.Orders.{rising-each}
use Rattle.plan.proofs.Membership.{sure_true}
use Rattle.plan.proofs.Rising.{take-from}
use Rattle.messages.specs.Values.{values, FirstRefusal, refusal_from}
use Rattle.messages.specs.declared.Undone.{Undone}
use Rattle.std.proofs.Common.{Ok, Err}
use Rattle.messages.proofs.Reading.{values_length}
use Rattle.solver.specs.Plan.{graph_plan, plan_along, planned, planned_along}
use Rattle.solver.specs.Run.{RunVerdict, first, second, carried, checked, run, key_at, run_along}
use Rattle.solver.specs.Stages.{Runnable}
use Rattle.solver.proofs.Carriable.{along-runnable}
use Rattle.solver.proofs.Stages.{stop-from}

-- the keys rising are an order
pub rising_order : (n : ℕ) → each_once n (from 0 n) ≡ true
rising_order n = sure_true (each_once n (from 0 n)) (rising-each n)

-- ---- the plan

graph-along : (g : Graph) → plan_along g (from 0 g.variables) ≡ graph_plan g
unfolding plan_along graph_plan
graph-along g = refl

pub rising-plan : (g : Graph) → planned_along g (from 0 g.variables) ≡ planned g
unfolding planned_along planned
rising-plan g = rw (rising_order g.variables, graph-along g)

graph-runnable : (g : Graph) → valid g ≡ true → Runnable g (graph_plan g)
graph-runnable g v = subst (Runnable g) (graph-along g) (along-runnable g (from 0 g.variables) v (rising_order g.variables))

-- ---- the run

-- each place holds its own number
key-rising : (a n i : ℕ) → i < n → get_or (from a n) i 0 ≡ a + i
unfolding from
key-rising a zero i h = absurd (omega arith)
key-rising a (suc n) zero h = omega arith
key-rising a (suc n) (suc i) h = key-rising (suc a) n i (omega arith) ∙ omega arith

-- keys that agree on all places name the same key with each refusal
module _ (g : Graph) (p : schedule.Plan) (can : Runnable g p) (key key' : ℕ → ℕ) (same : (i : ℕ) → i < g.variables → key i ≡ key' i) where
  -- where a pass was stopped is one of its messages
  stopped : (factors : List Float) (ms : List ClosedFactor) (u : Undone) → refusal_from 0 (values g factors ms) ≡ Err u → u.at < length ms
  unfolding values
  stopped factors ms u e = omega (arith, stop-from 0 (values g factors ms) u e, values_length g factors ms (length ms))

  firsts : (figure : ℕ) (factors messages marginals : List Float) (s : FirstRefusal) (next next' : RunVerdict)
      → refusal_from 0 (values g factors p.forward) ≡ s → next ≡ next'
      → first figure key p.forward messages marginals s next ≡ first figure key' p.forward messages marginals s next'
  unfolding first
  firsts figure factors messages marginals (Ok _) next next' e h = h
  firsts figure factors messages marginals (Err u) next next' e h =
      rw (same (at p.forward u.at).step (can.forward_steps u.at (stopped factors p.forward u e)))

  seconds : (figure : ℕ) (factors messages marginals : List Float) (s : FirstRefusal) (next : RunVerdict)
      → refusal_from 0 (values g factors p.backward) ≡ s
      → second figure g.variables key p.backward messages marginals s next ≡ second figure g.variables key' p.backward messages marginals s next
  unfolding second
  seconds figure factors messages marginals (Ok _) next e = refl
  seconds figure factors messages marginals (Err u) next e =
      let l : (at p.backward u.at).step < g.variables = can.backward_steps u.at (stopped factors p.backward u e) in
      rw (same (g.variables - 1 - (at p.backward u.at).step) (omega arith))

  carried_same : (figure : ℕ) (factors messages marginals : List Float) → carried g key p figure factors messages marginals
      ≡ carried g key' p figure factors messages marginals
  unfolding carried
  carried_same figure factors messages marginals =
      firsts figure factors _ marginals (refusal_from 0 (values g factors p.forward)) _ _ refl
      (seconds figure factors _ marginals (refusal_from 0 (values g factors p.backward)) _ refl)

  checked-same : (figure : ℕ) (factors messages : List Float) (work : ℕ) (marginals : List Float)
      → checked g key p figure factors messages work marginals ≡ checked g key' p figure factors messages work marginals
  unfolding checked
  checked-same figure factors messages work marginals = rw (carried_same figure factors messages marginals)

module _ (g : Graph) (factors messages : List Float) (work : ℕ) (marginals : List Float) where
  abbrev along : RunVerdict
  along = run_along g (from 0 g.variables) factors messages work marginals

  pub rising-run : along ≡ run g factors messages work marginals
  unfolding run_along run
  rising-run = go (valid g) refl
    where
      go : (b : Bool) → valid g ≡ b → along ≡ run g factors messages work marginals
      go true v =
          rw (v, rising_order g.variables, graph-along g)
          (checked-same g (graph_plan g) (graph-runnable g v) (key_at (from 0 g.variables)) (λ place. place)
          (λ i l. key-rising 0 g.variables i l ∙ omega arith) _ factors messages work marginals)
      go false v = rw v refl

  -- what holds of each run along an order holds of the run without one
  pub as_rising : (P : RunVerdict → Type 0) → P along → P (run g factors messages work marginals)
  as_rising P h = subst P rising-run h

-- ---- as the calls without an order lend it

-- as much of all keys, rising, as the record has variables; a record that has more isn't valid
module _ (g : Graph) (all : List ℕ) (rises : all ≡ from 0 max_variables) (n : ℕ) (least : n ≡ min g.variables max_variables) where
  lent : valid g ≡ true → take n all ≡ from 0 g.variables
  lent v =
      let m : n ≡ g.variables = omega (arith, valid-variables g v) in
      rw (rises, m) (take-from 0 max_variables g.variables (valid-variables g v))

  pub lent-plan : planned_along g (take n all) ≡ planned g
  unfolding planned_along planned
  lent-plan = go (valid g) refl
    where
      go : (b : Bool) → valid g ≡ b → planned_along g (take n all) ≡ planned g
      go true v = ap (planned_along g) (lent v) ∙ rising-plan g
      go false v = rw v refl

  pub lent-run : (factors messages : List Float) (work : ℕ) (marginals : List Float)
      → run_along g (take n all) factors messages work marginals ≡ run g factors messages work marginals
  unfolding run_along run
  lent-run factors messages work marginals = go (valid g) refl
    where
      go : (b : Bool) → valid g ≡ b → run_along g (take n all) factors messages work marginals ≡ run g factors messages work marginals
      go true v = ap (λ (order : List ℕ). run_along g order factors messages work marginals) (lent v) ∙ rising-run g factors messages work marginals
      go false v = rw v refl
