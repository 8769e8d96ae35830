-- Late exposures (document 02, C-23): what one exposure more at the end leaves as it was in the plan. Definitions only.
use Rattle.std.specs.Prelude.{List, [], ◌∷◌, ◌++◌, ℕ, Float}
use Rattle.graph.specs.Reached.{Call, Exposure, exposed, register}
use Rattle.schedule.specs.Late.{Agree, AtLeast}
use Rattle.solver.specs.Plan.{planned}
use Rattle.claims.specs.Demand3.{graph_of, plan_of}

-- After any calls, superseding ones among them, one observation or prior more whose keys are all at least t: up to step t the same forward messages arise.
-- Nothing is asked of the call's answer, because a refused call leaves the plan as it was.
abbrev pub Late : Type 0
Late = (cs : List Call) (exposure : Exposure) (store : List Float) (t : ℕ) → AtLeast t (exposed exposure)
    → Agree t (plan_of (planned (graph_of cs))).forward (plan_of (planned (graph_of (cs ++ (register exposure store ∷ []))))).forward
