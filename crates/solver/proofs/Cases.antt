-- What a run can come to: one law for all that is claimed of every run. Assumes nothing.
use mathlib.Core.Path.{◌≡◌, refl}
use mathlib.Core.Bool.{Bool, true, false, not, cond}
use mathlib.Core.List.{List, [], ◌∷◌, ◌++◌}
use Prim.Native.Nat.{ℕ, ◌-◌}
use lib.Dec.{leb}
use lib.Ieee.{Float}
use lib.ListN.{length}
use Rattle.factor.specs.Counting.{every}
use Rattle.graph.specs.Record.{offset, valid}
use Rattle.graph.specs.declared.Graph.{Graph}
use Rattle.graph.specs.declared.refusal.Refusal.{Refusal}
use Rattle.graph.specs.declared.refusal.Refusal.TheVariants.{FactorStoreShort, StoreShort, OrderUnlike, NoSuchGraph}
use Rattle.schedule.specs.Count.{each_once}
use Rattle.schedule.specs.Pass.{at}
use Rattle.schedule.specs.Plan as schedule
use Rattle.workspace.specs.Frames.{work_numbers}
use Rattle.gaussian.specs.Elimination.{Outcome}
use Rattle.messages.specs.Values.{values, FirstRefusal, none, refused_at, refusal_from, finished_numbers, overlaid}
use Rattle.marginals.specs.Marginals.{marginal_numbers, Found, marginals_from, missing_from, marginals_in}
use Rattle.solver.specs.Plan.{plan_along}
use Rattle.solver.specs.Run as spec
use Rattle.solver.specs.Run.{RunVerdict, figure_of, refuse, carried, checked, key_at, run_along}
use Rattle.std.proofs.Common.{Ok, Err}

module _ (P : RunVerdict → Type 0) where
  by_test : (b : Bool) (v w : RunVerdict) → P v → (b ≡ true → P w) → P (cond (not b) v w)
  by_test true v w h k = k refl
  by_test false v w h k = h

  module _ (g : Graph) (key : ℕ → ℕ) (p : schedule.Plan) (figure : ℕ) (factors messages marginals : List Float) where
    abbrev fw : List Outcome
    fw = values g factors p.forward

    abbrev bw : List Outcome
    bw = values g factors p.backward

    abbrev found : List Found
    found = marginals_from g factors p fw bw 0 p.at_key

    -- the messages of both passes in the message store
    abbrev laid : List Float
    laid = overlaid messages (finished_numbers fw ++ finished_numbers bw)

    -- what is to be shown: of a short store, of a refusal in each stage, and of a run that is done
    pub record Ends : Type 0 where
      pub factors_short : P (refuse figure FactorStoreShort 1 0 messages marginals)
      pub short : P (refuse figure StoreShort 1 0 messages marginals)
      pub first : (j : ℕ) (why : Refusal) → refusal_from 0 fw ≡ refused_at j why
          → P (refuse figure why 1 (key (at p.forward j).step) (overlaid messages (finished_numbers fw)) marginals)
      pub second : (j : ℕ) (why : Refusal) → refusal_from 0 bw ≡ refused_at j why
          → P (refuse figure why 2 (key (g.variables - 1 - (at p.backward j).step)) laid marginals)
      pub third : (k : ℕ) (why : Refusal) → missing_from 0 found ≡ refused_at k why → P (refuse figure why 3 k laid marginals)
      pub done : refusal_from 0 fw ≡ none → refusal_from 0 bw ≡ none → missing_from 0 found ≡ none
          → P (record { answer = record { figure = figure; ended = Ok tt }; messages = laid; marginals = overlaid marginals (marginals_in found) })

    module _ (ends : Ends) where
      thirds : (s : FirstRefusal) → refusal_from 0 fw ≡ none → refusal_from 0 bw ≡ none → missing_from 0 found ≡ s → P (spec.third figure laid marginals found s)
      unfolding spec.third
      thirds (Ok _) a b e = ends.done a b e
      thirds (Err u) a b e = ends.third u.at u.why e

      seconds : (s : FirstRefusal) (next : RunVerdict) → refusal_from 0 bw ≡ s → (refusal_from 0 bw ≡ none → P next)
          → P (spec.second figure g.variables key p.backward laid marginals s next)
      unfolding spec.second
      seconds (Ok _) next e h = h e
      seconds (Err u) next e h = ends.second u.at u.why e

      firsts : (s : FirstRefusal) (next : RunVerdict) → refusal_from 0 fw ≡ s → (refusal_from 0 fw ≡ none → P next)
          → P (spec.first figure key p.forward (overlaid messages (finished_numbers fw)) marginals s next)
      unfolding spec.first
      firsts (Ok _) next e h = h e
      firsts (Err u) next e h = ends.first u.at u.why e

      carried-cases : P (carried g key p figure factors messages marginals)
      unfolding carried
      carried-cases = firsts (refusal_from 0 fw) _ refl (λ a. seconds (refusal_from 0 bw) _ refl (λ b. thirds (missing_from 0 found) a b refl))

      pub checked-cases : (work : ℕ) → P (checked g key p figure factors messages work marginals)
      unfolding checked
      checked-cases work =
          by_test (leb (offset g g.count) (length factors)) _ _ ends.factors_short
          (λ a. by_test (every (leb figure (length messages) ∷ leb work_numbers work ∷ leb (marginal_numbers g) (length marginals) ∷ [])) _ _ ends.short
          (λ b. carried-cases))

  module _ (g : Graph) (order : List ℕ) (factors messages : List Float) (work : ℕ) (marginals : List Float) where
    pub along-cases : P (refuse 0 NoSuchGraph 1 0 messages marginals) → P (refuse 0 OrderUnlike 1 0 messages marginals)
        → (valid g ≡ true → each_once g.variables order ≡ true
        → Ends g (key_at order) (plan_along g order) (figure_of g (plan_along g order)) factors messages marginals)
        → P (run_along g order factors messages work marginals)
    unfolding run_along
    along-cases no_graph no_order ends =
        by_test (valid g) _ _ no_graph
        (λ v. by_test (each_once g.variables order) _ _ no_order
        (λ o. checked-cases g (key_at order) (plan_along g order) (figure_of g (plan_along g order)) factors messages marginals (ends v o) work))
