-- Demand 3 over the plan of a valid graph, along any order of its keys: behind each key every live factor stands exactly once, every other key is cleared
-- exactly once and the key itself never. Assumes nothing.
use mathlib.Core.Path.{◌≡◌, refl, sym, subst}
use mathlib.Core.Bool.{Bool, true, false, cond}
use mathlib.Core.List.{List, []}
use Prim.Native.Nat.{ℕ, ◌<◌}
use native.Mathlib.Omega.{arith}
use borrow.Author.Tests.{ltb-true}
use lib.Dec.{T, ltb}
use lib.ListN.{get_or, take, length-take}
use lib.Seq.{get_or-take}
use Rattle.factor.proofs.Fitting.{fits-key}
use Rattle.graph.specs.Record.{factor_at, live_at, valid, factor_keys}
use Rattle.graph.specs.declared.Graph.{Graph}
use Rattle.graph.proofs.Validity.{valid-factor, live_below}
use Rattle.schedule.specs.Count.{count, In, from, each_once}
use Rattle.schedule.specs.Gather.{Gathered}
use Rattle.schedule.specs.Once.{Once}
use Rattle.schedule.proofs.Counts.{rising_yes, rising_once}
use Rattle.schedule.proofs.Demand3 as schedule
use Rattle.schedule.proofs.Demand3.{demand3}
use Rattle.schedule.proofs.Orders.{order_each}
use Rattle.solver.specs.Plan.{live_numbers, graph_plan, plan_along}
use Rattle.solver.proofs.Tables.{bounded}

none_in : (j : ℕ) → In j [] → ⊥
unfolding count
none_in j s = omega arith

-- a factor's keys are registered
pub low : (g : Graph) → valid g ≡ true → (i j : ℕ) → In j (factor_keys g i) → j < g.variables
unfolding factor_keys
low g v i j = go (ltb i g.count) refl
  where
    go : (b : Bool) → ltb i g.count ≡ b → In j (cond b (take (factor_at g i).touched (factor_at g i).keys) []) → j < g.variables
    go true e s =
        bounded (take (factor_at g i).touched (factor_at g i).keys) g.variables
        (λ k l. let m : k < (factor_at g i).touched = omega (arith, length-take (factor_at g i).touched (factor_at g i).keys) in rw
        (get_or-take (factor_at g i).touched (factor_at g i).keys k 0 m)
        (fits-key g.sizes g.variables (factor_at g i) (valid-factor g v i (ltb-true i g.count e)) k m))
        j s
    go false e s = absurd (none_in j s)

pub once : (g : Graph) (order : List ℕ) → valid g ≡ true → each_once g.variables order ≡ true → (k : ℕ) → k < g.variables → (d : Gathered)
    → Once g.variables (factor_keys g) (live_numbers g) k (plan_along g order).forward (plan_along g order).backward (get_or (plan_along g order).at_key k d)
unfolding plan_along
once g order v o k h d = demand3 g.variables (factor_keys g) (live_numbers g) order (rising_once g.count (live_at g))
    (λ f s j u. low g v f j u) (order_each g.variables order o) k h d

-- a live factor without keys is uncovered at every key
pub keyless : (g : Graph) → valid g ≡ true → (i k : ℕ) → live_at g i ≡ true → factor_keys g i ≡ [] → k < g.variables → (d : Gathered)
    → In i (get_or (graph_plan g).at_key k d).originals
unfolding graph_plan
keyless g v i k l e h d =
    schedule.keyless g.variables (factor_keys g) (live_numbers g) (from 0 g.variables) (rising_once g.count (live_at g))
    (λ f s j u. low g v f j u) (λ j. refl) i k h
    (λ j s. none_in j (subst (λ (ks : List ℕ). In j ks) e s))
    (omega (arith, rising_yes g.count (live_at g) i (live_below g i l) (subst T (sym l) tt))) d
