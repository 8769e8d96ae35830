-- Inner: between the functions of a run: what each asks for, and what each comes to.
use Rattle.std.specs.Prelude.{◌≡◌, not, cond, List, [], ◌∷◌, ℕ, ◌+◌, ◌≤◌, ◌<◌, leb, length, get_or, Float, Result, Ok, Err}
use Rattle.factor.specs.Counting.{every}
use Rattle.graph.specs.Record.{offset, factor_keys}
use Rattle.graph.specs.declared.Graph.{Graph}
use Rattle.graph.specs.declared.refusal.Refusal.{Refusal}
use Rattle.graph.specs.declared.refusal.Refusal.TheVariants.{FactorStoreShort, StoreShort}
use Rattle.schedule.specs.Count.{from}
use Rattle.schedule.specs.Pass.{at}
use Rattle.schedule.specs.Gather.{Gathered}
use Rattle.schedule.specs.Plan as schedule
use Rattle.schedule.specs.Messages.{Settled}
use Rattle.plan.specs.Plan.{plan_in, Bounded}
use Rattle.plan.specs.declared.gather.Gathered as arrays
use Rattle.plan.specs.declared.plan.Plan.{Plan}
use Rattle.workspace.specs.Frames.{work_numbers}
use Rattle.lists.specs.Lists.{backward_shift}
use Rattle.messages.specs.Figure.{need}
use Rattle.messages.specs.Tables.{Carriable, PlacedTo, Tables}
use Rattle.marginals.specs.Asked.{PlanCarried}
use Rattle.marginals.specs.Marginals.{marginal_numbers, planned_marginals, missing_from}
use Rattle.solver.specs.Run.{third, run_verdict}
use Rattle.solver.specs.declared.run.Places.{Places}
use Rattle.solver.specs.declared.run.Ran.{Ran}
use Rattle.solver.specs.declared.run.Stopped.{Stopped}
use Rattle.solver.specs.declared.Arranged.{Arranged}
use Rattle.solver.specs.Plan.{Answer}

-- What a run relies on in a plan. Any plan over originals of a valid graph, along any order of its keys, has it.
pub record Runnable (g : Graph) (q : schedule.Plan) : Type 0 where
  pub forward : Carriable g q.forward
  pub backward : Carriable g q.backward
  pub forward_steps : (j : ℕ) → j < length q.forward → (at q.forward j).step < g.variables
  pub backward_steps : (j : ℕ) → j < length q.backward → (at q.backward j).step < g.variables
  pub for_each : length q.at_key ≡ g.variables
  pub settled : (k : ℕ) → k < g.variables → (d : Gathered)
      → Settled g.variables (factor_keys g) (from 0 g.count) q.forward q.backward k (get_or q.at_key k d)

-- the arrays p hold the plan q, and it can be carried out
pub record Planned (g : Graph) (p : Plan) (q : schedule.Plan) : Type 0 where
  pub bounded : Bounded g.variables p
  pub is : plan_in g.variables p ≡ q
  pub runnable : Runnable g q

-- Every message has its place. The forward ones take the first numbers of the message store, the backward ones follow them; `figure` is the need of both
-- together.
pub record RunReady (g : Graph) (q : schedule.Plan) (places : Places) (keys heads : List ℕ) : Type 0 where
  pub tables : Tables g keys heads
  pub placed : PlacedTo g q.forward 0 0 keys heads (length q.forward)
  pub placed' : PlacedTo g q.backward backward_shift places.forward keys heads (length q.backward)
  pub forward_need_is : places.forward ≡ need g q.forward
  pub figure_is : places.figure ≡ places.forward + need g q.backward

-- stores of these lengths are long enough
pub record Enough (g : Graph) (figure factors messages work marginals : ℕ) : Type 0 where
  pub of_factors : offset g g.count ≤ factors
  pub of_messages : figure ≤ messages
  pub of_work : work_numbers ≤ work
  pub of_marginals : marginal_numbers g ≤ marginals

-- whether they are
unfoldable pub stores_of : Graph → (figure factors messages work marginals : ℕ) → Result (Unit {0}) Refusal
stores_of g figure factors messages work marginals =
    cond (not (leb (offset g g.count) factors)) (Err FactorStoreShort)
    (cond (not (every (leb figure messages ∷ leb work_numbers work ∷ leb (marginal_numbers g) marginals ∷ []))) (Err StoreShort) (Ok tt))

-- an end with its figure beside it
abbrev pub ran : (figure : ℕ) → Result (Unit {0}) Stopped → Ran
ran figure ended = record { figure = figure; ended = ended }

-- what stage 3 comes to, for every plan whose messages stand in these tables and stores
abbrev pub ThirdPlanned : (g : Graph) (at : List arrays.Gathered) (figure : ℕ) (factors messages : List Float) (keys heads : List ℕ)
    (before : List Float) (r : Result (Unit {0}) Stopped) (after : List Float) → Type 0
ThirdPlanned g at figure factors messages keys heads before r after =
    (q : schedule.Plan) → PlanCarried g q at factors messages keys heads
    → run_verdict (ran figure r) messages after ≡ third figure messages before (planned_marginals g factors q) (missing_from 0 (planned_marginals g factors q))

-- what the arrays of an answer hold
unfoldable pub read : Result Arranged Refusal → Result Answer Refusal
read (Ok r) = Ok (record { keys = r.keys; plan = plan_in r.keys r.plan })
read (Err why) = Err why
