-- An answer that is the definition's tells the definition's numbers. Assumes nothing.
use mathlib.Core.Path.{◌≡◌, ap}
use mathlib.Core.List.{List}
use lib.Ieee.{Float}
use Rattle.solver.specs.Run.{RunVerdict, run_verdict}
use Rattle.solver.specs.Told.{ran_told}
use Rattle.solver.specs.declared.run.Ran.{Ran}

-- a run's answer with its stores, and what the answer tells
pub run-tells : (v : RunVerdict) (r : Ran) (messages marginals : List Float) → run_verdict r messages marginals ≡ v
    → (run_verdict r messages marginals ≡ v) × (ran_told r ≡ ran_told v.answer)
run-tells v r messages marginals e = (e, ap (λ (w : RunVerdict). ran_told w.answer) e)
