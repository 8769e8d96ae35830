-- What a plan and a run tell in the numbers of document 01. Definitions only.
use Rattle.std.specs.Prelude.{cond, List, [], ◌∷◌, ℕ, Result, Ok, Err}
use Rattle.factor.specs.Told.{Told, value, refusal}
use Rattle.graph.specs.Record.{valid}
use Rattle.graph.specs.Refusals.{refusal_number}
use Rattle.graph.specs.declared.Graph.{Graph}
use Rattle.graph.specs.declared.refusal.Refusal.{Refusal}
use Rattle.schedule.specs.Count.{each_once}
use Rattle.solver.specs.declared.Planned.{Planned}
use Rattle.solver.specs.declared.run.Stopped.{Stopped}
use Rattle.solver.specs.declared.run.Ran.{Ran}

-- that a plan was made, or the number of the refusal
unfoldable pub plan_outcome_told : Result Planned Refusal → Told
plan_outcome_told (Ok _) = value []
plan_outcome_told (Err why) = refusal (refusal_number why) []

-- without an order only 30 refuses a plan
unfoldable pub plan_told : Graph → Told
plan_told g = cond (valid g) (value []) (refusal 30 [])

-- under one only 30 and 21
unfoldable pub plan_along_told : Graph → (order : List ℕ) → Told
plan_along_told g order = cond (valid g) (cond (each_once g.variables order) (value []) (refusal 21 [])) (refusal 30 [])

-- the figure is in every answer of a run; a refusal has its number, the figure, the stage and the key
unfoldable pub run_told : ℕ → Result (Unit {0}) Stopped → Told
run_told figure (Ok _) = value (figure ∷ [])
run_told figure (Err s) = refusal (refusal_number s.why) (figure ∷ s.stage ∷ s.key ∷ [])

abbrev pub ran_told : Ran → Told
ran_told r = run_told r.figure r.ended
