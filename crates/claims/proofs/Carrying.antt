-- What a run comes to: an unrefused one has stored what the plan's eliminations give, and without keys there is no marginal. Assumes nothing.
use mathlib.Core.Path.{◌≡◌, refl, ap}
use mathlib.Core.Bool.{false≢true}
use mathlib.Core.List.{List, [], ◌++◌}
use Prim.Native.Nat.{ℕ}
use Rattle.std.specs.Prelude.{Ok, is_ok}
use lib.Ieee.{Float}
use Rattle.graph.specs.declared.Graph.{Graph}
use Rattle.graph.specs.declared.refusal.Refusal.{Refusal}
use Rattle.graph.specs.declared.refusal.Refusal.TheVariants.{FactorStoreShort, StoreShort, OrderUnlike, NoSuchGraph}
use Rattle.schedule.specs.Gather.{Gathered}
use Rattle.schedule.specs.Plan as schedule
use Rattle.gaussian.specs.Elimination.{Outcome}
use Rattle.messages.specs.Values.{values, finished_numbers, overlaid}
use Rattle.solver.specs.Plan.{plan_along}
use Rattle.marginals.specs.Marginals.{marginals_from, planned_marginals, marginals_in}
use Rattle.solver.specs.Run.{figure_of, RunVerdict, refuse, key_at, run_along}
use Rattle.solver.proofs.Cases.{Ends, along-cases}
use Rattle.claims.specs.Demand3.{Exact}

-- what is claimed of the answer and the stores of a run
pub record Carries (g : Graph) (p : schedule.Plan) (factors messages marginals : List Float) (v : RunVerdict) : Type 0 where
  pub exact : v.answer.ended ≡ Ok tt → Exact g p factors messages marginals v
  pub bare : p.at_key ≡ [] → v.marginals ≡ marginals

module _ (g : Graph) (p : schedule.Plan) (factors messages marginals : List Float) where
  abbrev Right : RunVerdict → Type 0
  Right = Carries g p factors messages marginals

  abbrev fw : List Outcome
  fw = values g factors p.forward

  abbrev bw : List Outcome
  bw = values g factors p.backward

  refused_run : (figure : ℕ) (why : Refusal) (stage key : ℕ) (l : List Float) → Right (refuse figure why stage key l marginals)
  refused_run figure why stage key l = record { exact = λ e. absurd (false≢true (ap is_ok e)); bare = λ e. refl }

  no_marginals : p.at_key ≡ [] → overlaid marginals (marginals_in (planned_marginals g factors p)) ≡ marginals
  unfolding marginals_from marginals_in
  no_marginals e = ap (λ (qs : List Gathered). overlaid marginals (marginals_in (marginals_from g factors p fw bw 0 qs))) e

  ends : (key : ℕ → ℕ) (figure : ℕ) → Ends Right g key p figure factors messages marginals
  ends key figure =
      record {
        factors_short = refused_run figure FactorStoreShort 1 0 messages;
        short = refused_run figure StoreShort 1 0 messages;
        first = λ j why e. refused_run figure why 1 _ (overlaid messages (finished_numbers fw));
        second = λ j why e. refused_run figure why 2 _ (overlaid messages (finished_numbers fw ++ finished_numbers bw));
        third = λ k why e. refused_run figure why 3 k (overlaid messages (finished_numbers fw ++ finished_numbers bw));
        done =
            λ ef eb ek. record {
              exact = λ e. record { forward_made = ef; backward_made = eb; messages_are = refl; all_found = ek; marginals_are = refl };
              bare = no_marginals;
            };
      }

pub run_carries : (g : Graph) (order : List ℕ) (factors messages : List Float) (work : ℕ) (marginals : List Float)
    → Carries g (plan_along g order) factors messages marginals (run_along g order factors messages work marginals)
run_carries g order factors messages work marginals =
    let p : schedule.Plan = plan_along g order in
    along-cases (Right g p factors messages marginals) g order factors messages work marginals
    (refused_run g p factors messages marginals 0 NoSuchGraph 1 0 messages)
    (refused_run g p factors messages marginals 0 OrderUnlike 1 0 messages)
    (λ v o. ends g p factors messages marginals (key_at order) (figure_of g p))
