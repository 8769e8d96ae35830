-- Demand 3, whole, as one claim about a list of registering calls. Keys and factors are read off what the calls answered and were given, never off the graph
-- that they yield. Definitions only.
use Rattle.std.specs.Prelude.{◌≡◌, ◌≢◌, true, not, ℕ, ◌+◌, ◌≤◌, length, get_or, Float, Result, Ok, Err, is_ok}
use mathlib.Core.List.{List, [], ◌∷◌, ◌++◌, map, Memᴰ}
use Rattle.graph.specs.Record.{fresh}
use Rattle.graph.specs.Reached.{Call, variable, answered, keys_given, numbers_named, graph_after, yields}
use Rattle.graph.specs.declared.Graph.{Graph}
use Rattle.graph.specs.declared.refusal.Refusal.{Refusal}
use Rattle.schedule.specs.Count.{count, In, mem, keep, joined}
use Rattle.schedule.specs.Pass.{ClosedFactor, at}
use Rattle.schedule.specs.Gather.{Gathered, leaves}
use Rattle.schedule.specs.Once.{behind, AllUnder, cleared_by}
use Rattle.schedule.specs.Plan as schedule
use Rattle.messages.specs.Values.{values, refusal_from, finished_numbers, overlaid}
use Rattle.solver.specs.Plan.{Answer, no_plan, planned, planned_along}
use Rattle.marginals.specs.Marginals.{planned_marginals, missing_from, marginals_in}
use Rattle.solver.specs.Run.{RunVerdict, run, run_along}

-- ---- what the calls answered

-- an accepted factor: the number that its call answered, and the keys that this call gave
pub record Accepted : Type 0 where
  pub number : ℕ
  pub keys : List ℕ

-- the key that the answer to a call tells, if it tells one: a variable's does
unfoldable pub key_in : Call → Result ℕ Refusal → List ℕ
key_in (variable name size) (Ok k) = k ∷ []
key_in c answer = []

-- the factor that it tells, if it tells one: every other call's does
unfoldable pub factor_in : Call → Result ℕ Refusal → List Accepted
factor_in (variable name size) answer = []
factor_in c (Ok f) = record { number = f; keys = keys_given c } ∷ []
factor_in c (Err why) = []

-- the registered keys: those that the calls answered, the first call being handed g and each other one what the call before it returned
unfoldable pub keys_answered : Graph → List Call → List ℕ
keys_answered g [] = []
keys_answered g (c ∷ cs) = key_in c (answered g c).outcome ++ keys_answered (graph_after g c) cs

-- the accepted factors, likewise
unfoldable pub accepted : Graph → List Call → List Accepted
accepted g [] = []
accepted g (c ∷ cs) = factor_in c (answered g c).outcome ++ accepted (graph_after g c) cs

abbrev pub numbers_answered : List Accepted → List ℕ
numbers_answered = map (λ (f : Accepted). f.number)

-- the factors that are superseded by the answer to a call: an accepted factor takes the place of the one named
unfoldable pub superseded_in : Call → Result ℕ Refusal → List ℕ
superseded_in c (Ok f) = numbers_named c
superseded_in c (Err why) = []

-- the superseded factors, likewise
unfoldable pub superseded : Graph → List Call → List ℕ
superseded g [] = []
superseded g (c ∷ cs) = superseded_in c (answered g c).outcome ++ superseded (graph_after g c) cs

-- the live factors: those that were accepted and not superseded
unfoldable pub live : Graph → List Call → List Accepted
live g cs = keep (λ (f : Accepted). not (mem f.number (superseded g cs))) (accepted g cs)

-- ---- what is claimed of the plan at a key

-- the keys that the eliminations behind a key clear: those of its gathered messages and of all messages under them, in both passes, and the last one
abbrev pub cleared_behind : schedule.Plan → Gathered → List ℕ
cleared_behind p q = cleared_by p.forward (behind p.forward q.forward) ++ cleared_by p.backward (behind p.backward q.backward) ++ q.last

-- every live factor that touches a key which one of these messages clears is a leaf under that message
abbrev pub Covered : List Accepted → List ClosedFactor → List ℕ → Type 0
Covered factors messages is =
    (i : ℕ) → In i is → (f : Accepted) → Memᴰ f factors → (j : ℕ) → In j f.keys → In j (at messages i).cleared → In f.number (leaves messages i)

-- the claim at the key k, where the plan p has gathered q, over the registered keys and the live factors
pub record Rests (keys : List ℕ) (factors : List Accepted) (p : schedule.Plan) (k : ℕ) (q : Gathered) : Type 0 where
  -- the leaves are those of all that k gathers, in that order; `under` has found every message behind k
  pub leaves_of : q.leaves ≡ joined (leaves p.forward) q.forward ++ joined (leaves p.backward) q.backward ++ q.originals
  pub forward_under : AllUnder p.forward (behind p.forward q.forward)
  pub backward_under : AllUnder p.backward (behind p.backward q.backward)
  -- the leaves list every live factor exactly once, and nothing else: no superseded one
  pub listed : (f : Accepted) → Memᴰ f factors → count f.number q.leaves ≡ 1
  pub no_other_leaf : (i : ℕ) → In i q.leaves → In i (numbers_answered factors)
  -- in the eliminations behind k every other registered key is cleared exactly once, k never, and nothing that is not registered
  pub others_once : (j : ℕ) → In j keys → j ≢ k → count j (cleared_behind p q) ≡ 1
  pub itself_never : count k (cleared_behind p q) ≡ 0
  pub no_other_key : (j : ℕ) → In j (cleared_behind p q) → In j keys
  -- a live factor that touches a cleared key is a leaf under the elimination that clears it: a forward message, a backward one, or the last one
  pub forward_covers : Covered factors p.forward (behind p.forward q.forward)
  pub backward_covers : Covered factors p.backward (behind p.backward q.backward)
  pub last_covers : (f : Accepted) → Memᴰ f factors → (j : ℕ) → In j f.keys → In j q.last → In f.number q.leaves

-- ---- what is claimed of a run

-- The stores after an unrefused run: no elimination of the plan is refused, and what stands in the stores is what they come to from the factor store. Past
-- that the stores are as they were.
pub record Exact (g : Graph) (p : schedule.Plan) (factors messages marginals : List Float) (v : RunVerdict) : Type 0 where
  pub forward_made : refusal_from 0 (values g factors p.forward) ≡ Ok tt
  pub backward_made : refusal_from 0 (values g factors p.backward) ≡ Ok tt
  pub messages_are : v.messages ≡ overlaid messages (finished_numbers (values g factors p.forward) ++ finished_numbers (values g factors p.backward))
  pub all_found : missing_from 0 (planned_marginals g factors p) ≡ Ok tt
  pub marginals_are : v.marginals ≡ overlaid marginals (marginals_in (planned_marginals g factors p))

-- ---- the demand

-- the graph after the calls, from a fresh one
abbrev pub graph_of : List Call → Graph
graph_of cs = yields fresh cs

-- the order names each registered key exactly once, and nothing else
abbrev pub Order : List Call → List ℕ → Type 0
Order cs order = (k : ℕ) → count k order ≡ count k (keys_answered fresh cs)

-- the plan in an answer, and no messages and no keys in a refused one
abbrev pub plan_of : Result Answer Refusal → schedule.Plan
plan_of (Ok made) = made.plan
plan_of (Err why) = no_plan

-- what is claimed of a plan's answer, and of the run that is made with that plan
pub record Smooths (cs : List Call) (answer : Result Answer Refusal) (ran : (factors messages : List Float) (work : ℕ) (marginals : List Float) → RunVerdict) : Type 0 where
  -- the plan is made, and has one gathering for each registered key
  pub made : is_ok answer ≡ true
  pub for_each : length (plan_of answer).at_key ≡ length (keys_answered fresh cs)
  -- behind each registered key stands the whole graph, once
  pub rests : (k : ℕ) → In k (keys_answered fresh cs) → (d : Gathered)
      → Rests (keys_answered fresh cs) (live fresh cs) (plan_of answer) k (get_or (plan_of answer).at_key k d)
  -- an unrefused run's messages, means and covariances are those that the plan's eliminations give from its factor store
  pub exact : (factors messages : List Float) (work : ℕ) (marginals : List Float) → (ran factors messages work marginals).answer.ended ≡ Ok tt
      → Exact (graph_of cs) (plan_of answer) factors messages marginals (ran factors messages work marginals)
  -- where no key is registered no run gives a marginal: the marginal store is as it was
  pub none_without_keys : keys_answered fresh cs ≡ [] → (factors messages : List Float) (work : ℕ) (marginals : List Float)
      → (ran factors messages work marginals).marginals ≡ marginals

pub record Whole (cs : List Call) : Type 0 where
  -- the calls answered no key twice, and no number twice
  pub keys_apart : (k : ℕ) → count k (keys_answered fresh cs) ≤ 1
  pub numbers_apart : (i : ℕ) → count i (numbers_answered (accepted fresh cs)) ≤ 1
  -- along every order of the registered keys, and without an order
  pub along : (order : List ℕ) → Order cs order → Smooths cs (planned_along (graph_of cs) order) (run_along (graph_of cs) order)
  pub rising : Smooths cs (planned (graph_of cs)) (run (graph_of cs))
