-- The run as it was with the look for an original met twice, number 18, and that the look changed nothing (document 02, C-24). Nothing else cites this run.
-- Definitions only.
use Rattle.std.specs.Prelude.{◌≡◌, ◌≢◌, Bool, false, not, cond, ◌||◌, List, [], ◌∷◌, ◌++◌, ℕ, ◌+◌, ◌-◌, leb, Float, length, Ok, Err}
use Rattle.factor.specs.Counting.{every}
use Rattle.factor.specs.Told.{Told, refusal}
use Rattle.graph.specs.Refusals.{refusal_number}
use Rattle.graph.specs.Record.{offset, valid}
use Rattle.graph.specs.declared.Graph.{Graph}
use Rattle.graph.specs.declared.refusal.Refusal.{Refusal}
use Rattle.graph.specs.declared.refusal.Refusal.TheVariants.{FactorStoreShort, StoreShort, OrderUnlike, NoSuchGraph}
use Rattle.schedule.specs.Count.{mem, each_once}
use Rattle.schedule.specs.Pass.{at}
use Rattle.schedule.specs.Gather.{Gathered}
use Rattle.schedule.specs.Plan as schedule
use Rattle.workspace.specs.Frames.{work_numbers}
use Rattle.gaussian.specs.Elimination.{Outcome}
use Rattle.messages.specs.Values.{values, FirstRefusal, refusal_from, finished_numbers, overlaid}
use Rattle.marginals.specs.Marginals.{marginal_numbers, marginal, planned_marginals, missing_from, marginals_in}
use Rattle.solver.specs.Plan.{graph_plan, plan_along, planned, planned_along}
use Rattle.solver.specs.Run as solver
use Rattle.solver.specs.Run.{RunVerdict, refuse, figure_of, key_at}
use Rattle.solver.specs.Told.{ran_told}
use Rattle.claims.specs.Demand3.{plan_of}

-- ---- the look

-- some original stands twice in the list
unfoldable pub twice : List ℕ → Bool
twice [] = false
twice (i ∷ l) = mem i l || twice l

-- at a key: some original stands twice among the leaves
unfoldable pub met : Gathered → Bool
met q = twice q.leaves

-- at some key
unfoldable pub some_met : List Gathered → Bool
some_met [] = false
some_met (q ∷ qs) = met q || some_met qs

-- ---- the run with the look

-- an answer in the numbers of document 01, and what the message and the marginal store then hold
pub record Verdict : Type 0 where
  pub answer : Told
  pub messages : List Float
  pub marginals : List Float

abbrev pub told : RunVerdict → Verdict
told v = record { answer = ran_told v.answer; messages = v.messages; marginals = v.marginals }

-- a refusal ends the run
unfoldable pub unless : FirstRefusal → (stop : ℕ → Refusal → RunVerdict) (next : Verdict) → Verdict
unless (Ok done) stop next = next
unless (Err undone) stop next = told (stop undone.at undone.why)

module _ (g : Graph) (key : ℕ → ℕ) (p : schedule.Plan) (figure : ℕ) (factors messages marginals : List Float) where
  abbrev fw : List Outcome
  fw = values g factors p.forward

  abbrev bw : List Outcome
  bw = values g factors p.backward

  abbrev laid : List Float
  laid = overlaid messages (finished_numbers fw ++ finished_numbers bw)

  -- stage 3, the keys from k on: at each the look, before any arithmetic
  unfoldable pub third : (k : ℕ) → List Gathered → Verdict
  third k [] =
      told (record {
        answer = record { figure = figure; ended = Ok tt };
        messages = laid;
        marginals = overlaid marginals (marginals_in (planned_marginals g factors p));
      })
  third k (q ∷ qs) =
      cond (met q) (record { answer = refusal 18 (figure ∷ 3 ∷ k ∷ []); messages = laid; marginals = marginals })
      (unless (missing_from k (marginal g factors p fw bw k q ∷ [])) (λ i why. refuse figure why 3 i laid marginals) (third (k + 1) qs))

  -- stages 1 and 2
  unfoldable pub carried : Verdict
  carried =
      unless (refusal_from 0 fw) (λ j why. refuse figure why 1 (key (at p.forward j).step) (overlaid messages (finished_numbers fw)) marginals)
      (unless (refusal_from 0 bw) (λ j why. refuse figure why 2 (key (g.variables - 1 - (at p.backward j).step)) laid marginals)
      (third 0 p.at_key))

  -- 13 and 14
  unfoldable pub checked : (work : ℕ) → Verdict
  checked work =
      cond (not (leb (offset g g.count) (length factors))) (told (refuse figure FactorStoreShort 1 0 messages marginals))
      (cond (not (every (leb figure (length messages) ∷ leb work_numbers work ∷ leb (marginal_numbers g) (length marginals) ∷ [])))
      (told (refuse figure StoreShort 1 0 messages marginals))
      carried)

unfoldable pub run : (g : Graph) (factors messages : List Float) (work : ℕ) (marginals : List Float) → Verdict
run g factors messages work marginals =
    cond (not (valid g)) (told (refuse 0 NoSuchGraph 1 0 messages marginals))
    (let p = graph_plan g in checked g (λ place. place) p (figure_of g p) factors messages marginals work)

unfoldable pub run_along : (g : Graph) (order : List ℕ) (factors messages : List Float) (work : ℕ) (marginals : List Float) → Verdict
run_along g order factors messages work marginals =
    cond (not (valid g)) (told (refuse 0 NoSuchGraph 1 0 messages marginals))
    (cond (not (each_once g.variables order)) (told (refuse 0 OrderUnlike 1 0 messages marginals))
    (let p = plan_along g order in checked g (key_at order) p (figure_of g p) factors messages marginals work))

-- ---- the claim

pub record Retired : Type 0 where
  -- no refusal has the number
  pub number_gone : (why : Refusal) → refusal_number why ≢ 18
  -- the look finds nothing in what a plan answers, for every record, refused ones too, without an order and along every one
  pub plans : (g : Graph) → some_met (plan_of (planned g)).at_key ≡ false
  pub plans_along : (g : Graph) (order : List ℕ) → some_met (plan_of (planned_along g order)).at_key ≡ false
  -- every run's answer and both its stores are those with the look, likewise and whatever stores it is lent
  pub runs : (g : Graph) (factors messages : List Float) (work : ℕ) (marginals : List Float)
      → run g factors messages work marginals ≡ told (solver.run g factors messages work marginals)
  pub runs_along : (g : Graph) (order : List ℕ) (factors messages : List Float) (work : ℕ) (marginals : List Float)
      → run_along g order factors messages work marginals ≡ told (solver.run_along g order factors messages work marginals)
