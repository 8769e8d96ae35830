-- The claims on lent orders. Assumes nothing.
use mathlib.Core.Path.{◌≡◌, refl, sym, ap, ◌∙◌}
use mathlib.Core.Bool.{true, false}
use mathlib.Core.List.{List}
use Prim.Native.Nat.{ℕ}
use lib.Dec.{not_T}
use Rattle.graph.specs.Record.{fresh, valid}
use Rattle.graph.specs.Reached.{Call, yields}
use Rattle.graph.specs.declared.Graph.{Graph}
use Rattle.graph.proofs.Keeping.{good_of}
use Rattle.schedule.specs.Count.{count, each_once}
use Rattle.schedule.proofs.Orders.{each_counts}
use Rattle.plan.proofs.Membership.{sure_false}
use Rattle.solver.specs.Plan.{planned_along, struct_of, plan_answer, plan_along_answer}
use Rattle.solver.specs.Run.{run_along}
use Rattle.solver.proofs.Rising.{rising-plan, rising-run}
use Rattle.claims.specs.Demand3.{Order}
use Rattle.claims.specs.Orders.{Unlike, Rising, Orders}
use Rattle.claims.proofs.Calls.{reached, keys-are}

module _ (cs : List Call) (order : List ℕ) (no : Order cs order → ⊥) where
  abbrev g : Graph
  g = yields fresh cs

  sound : valid g ≡ true
  sound = (good_of g (reached cs)).1

  fails : each_once g.variables order ≡ false
  fails = sure_false (each_once g.variables order) (not_T (each_once g.variables order)
      (λ t. no (λ k. each_counts g.variables order t k ∙ ap (count k) (sym (keys-are cs)))))

  unlike : Unlike cs order
  unfolding planned_along run_along
  unlike = record { plan_refused = rw (sound, fails) refl; run_refused = λ factors messages work marginals. rw (sound, fails) refl }

rising : (g : Graph) → Rising g
unfolding plan_answer plan_along_answer
rising g = record { plans = rising-plan g; answers = ap struct_of (rising-plan g); runs = rising-run g }

pub orders : Orders
orders = record { unlike = unlike; rising = rising }
