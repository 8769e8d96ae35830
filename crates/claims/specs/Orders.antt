-- Lent orders (document 02, C-16): which are refused and how, and that keys rising are the run and the plan without an order. Definitions only.
use Rattle.std.specs.Prelude.{◌≡◌, List, ℕ, Float, Err}
use Rattle.graph.specs.Reached.{Call}
use Rattle.graph.specs.declared.Graph.{Graph}
use Rattle.graph.specs.declared.refusal.Refusal.TheVariants.{OrderUnlike}
use Rattle.schedule.specs.Count.{from}
use Rattle.solver.specs.Plan.{planned, planned_along, plan_answer, plan_along_answer}
use Rattle.solver.specs.Run.{refuse, run, run_along}
use Rattle.claims.specs.Demand3.{graph_of, Order}

-- after any calls an order that isn't each registered key exactly once is refused: there is no plan; the run has figure 0, stage 1 and key 0, whatever stores
-- it is lent, and changes none
pub record Unlike (cs : List Call) (order : List ℕ) : Type 0 where
  pub plan_refused : planned_along (graph_of cs) order ≡ Err OrderUnlike
  pub run_refused : (factors messages : List Float) (work : ℕ) (marginals : List Float)
      → run_along (graph_of cs) order factors messages work marginals ≡ refuse 0 OrderUnlike 1 0 messages marginals

-- with keys rising every answer and every store are those without an order, for every record, refused ones too
pub record Rising (g : Graph) : Type 0 where
  pub plans : planned_along g (from 0 g.variables) ≡ planned g
  pub answers : plan_along_answer g (from 0 g.variables) ≡ plan_answer g
  pub runs : (factors messages : List Float) (work : ℕ) (marginals : List Float)
      → run_along g (from 0 g.variables) factors messages work marginals ≡ run g factors messages work marginals

pub record Orders : Type 0 where
  pub unlike : (cs : List Call) (order : List ℕ) → (Order cs order → ⊥) → Unlike cs order
  pub rising : (g : Graph) → Rising g
