-- The plan of a graph: the schedule's plan over the keys of its live factors, with keys rising or along a lent order. Definitions only.
use Rattle.std.specs.Prelude.{cond, List, [], ℕ, Result, Ok, Err}
use Rattle.graph.specs.Record.{live_at, valid, factor_keys}
use Rattle.graph.specs.declared.Graph.{Graph}
use Rattle.graph.specs.declared.refusal.Refusal.{Refusal}
use Rattle.graph.specs.declared.refusal.Refusal.TheVariants.{OrderUnlike, NoSuchGraph}
use Rattle.schedule.specs.Count.{from, rising_where, each_once}
use Rattle.schedule.specs.Plan as schedule
use Rattle.plan_answer.specs.Answer.{answer_of}
use Rattle.solver.specs.declared.Planned.{Planned}

-- the numbers of the live factors, rising
abbrev pub live_numbers : Graph → List ℕ
live_numbers g = rising_where g.count (λ i. live_at g i)

-- the messages of both passes and what each key gathers, over the live factors, with keys rising
unfoldable pub graph_plan : Graph → schedule.Plan
graph_plan g = schedule.plan g.variables (factor_keys g) (live_numbers g) (from 0 g.variables)

-- the same along an order of the keys
unfoldable pub plan_along : Graph → (order : List ℕ) → schedule.Plan
plan_along g order = schedule.plan g.variables (factor_keys g) (live_numbers g) order

abbrev pub no_plan : schedule.Plan
no_plan = record { forward = []; backward = []; at_key = [] }

-- What a plan's call answers, with the plan over lists: for how many keys, and the plan. Refused, there is neither.
pub record Answer : Type 0 where
  pub keys : ℕ
  pub plan : schedule.Plan

abbrev pub made : Graph → schedule.Plan → Result Answer Refusal
made g p = Ok (record { keys = g.variables; plan = p })

-- Without an order only a record that no list of registering calls yields is refused.
unfoldable pub planned : Graph → Result Answer Refusal
planned g = cond (valid g) (made g (graph_plan g)) (Err NoSuchGraph)

-- A lent order must be each registered key exactly once.
unfoldable pub planned_along : Graph → (order : List ℕ) → Result Answer Refusal
planned_along g order = cond (valid g) (cond (each_once g.variables order) (made g (plan_along g order)) (Err OrderUnlike)) (Err NoSuchGraph)

-- with the plan in its struct
abbrev pub struct_of : Result Answer Refusal → Result Planned Refusal
struct_of (Ok a) = Ok (record { keys = a.keys; plan = answer_of a.plan })
struct_of (Err why) = Err why

-- what the calls `plan` and `plan_along` answer
unfoldable pub plan_answer : Graph → Result Planned Refusal
plan_answer g = struct_of (planned g)

unfoldable pub plan_along_answer : Graph → (order : List ℕ) → Result Planned Refusal
plan_along_answer g order = struct_of (planned_along g order)
