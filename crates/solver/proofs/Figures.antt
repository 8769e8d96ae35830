-- The figure is in every answer of a run but those of 30 and 21, and is small. Assumes nothing.
use mathlib.Core.Path.{◌≡◌, refl}
use mathlib.Core.Bool.{true}
use mathlib.Core.List.{List, [], ◌∷◌}
use Prim.Native.Nat.{ℕ, ◌≤◌}
use native.Mathlib.Omega.{arith}
use lib.Ieee.{Float}
use Rattle.factor.specs.Factor.{prior_of, observation_of}
use Rattle.graph.specs.Record.{valid}
use Rattle.graph.specs.declared.Graph.{Graph}
use Rattle.schedule.specs.Count.{sum_over, each_once}
use Rattle.schedule.specs.Plan.{Plan}
use Rattle.schedule.specs.Pass.{original}
use Rattle.messages.specs.Figure.{slot_rows, rows_in, rows_to, need_to, need}
use Rattle.solver.specs.Plan.{plan_along}
use Rattle.solver.specs.Run.{RunVerdict, figure_of, key_at, run_along}
use Rattle.solver.specs.Stages.{Runnable}
use Rattle.solver.proofs.Carriable.{along-runnable}
use Rattle.solver.proofs.Cases.{checked-cases, along-cases}
use Rattle.solver.proofs.Stages.{need-most}

-- two passes of at most 66,560 numbers
small : (g : Graph) (p : Plan) → Runnable g p → figure_of g p ≤ 133120
unfolding figure_of
small g p can = omega (arith, need-most g p.forward can.forward, need-most g p.backward can.backward)

module _ (g : Graph) (order : List ℕ) (factors messages : List Float) (work : ℕ) (marginals : List Float) where
  abbrev Small : RunVerdict → Type 0
  Small v = v.answer.figure ≤ 133120

  pub figure_most : Small (run_along g order factors messages work marginals)
  figure_most =
      along-cases Small g order factors messages work marginals (omega arith) (omega arith)
      (λ v o. let m : figure_of g (plan_along g order) ≤ 133120 = small g (plan_along g order) (along-runnable g order v o) in
      record { factors_short = m; short = m; first = λ j why e. m; second = λ j why e. m; third = λ k why e. m; done = λ a b c. m })

  -- it is told with every answer where there is such a graph and such an order
  pub figure_told : valid g ≡ true → each_once g.variables order ≡ true → (run_along g order factors messages work marginals).answer.figure
      ≡ figure_of g (plan_along g order)
  unfolding run_along
  figure_told v o =
      rw (v, o)
      (checked-cases (λ (v : RunVerdict). v.answer.figure ≡ figure_of g (plan_along g order)) g
      (key_at order) (plan_along g order) (figure_of g (plan_along g order))
      factors messages marginals
      (record { factors_short = refl; short = refl; first = λ j why e. refl; second = λ j why e. refl; third = λ k why e. refl; done = λ a b c. refl }) work)

-- ---- computed: each of the two messages of P4's graph has one row over one column, so A, xi and W take three numbers

abbrev graph : Graph
graph = record {
  symbols = [];
  sizes = 1 ∷ 1 ∷ [];
  variables = 2;
  factors = prior_of 0 1 ∷ prior_of 0 1 ∷ prior_of 0 1 ∷ observation_of (0 ∷ 1 ∷ []) 1 ∷
      [];
  count = 4;
}

abbrev plan : Plan
plan =
    record {
      forward = record { step = 1; content = original 0 ∷ original 3 ∷ original 2 ∷ original 1 ∷ []; kept = 1 ∷ []; cleared = 0 ∷ [] } ∷ [];
      backward = record { step = 1; content = original 3 ∷ []; kept = 0 ∷ []; cleared = 1 ∷ [] } ∷ [];
      at_key = [];
    }

figure_of_two : figure_of graph plan ≡ 6
unfolding figure_of need need_to rows_to rows_in slot_rows sum_over
figure_of_two = refl
