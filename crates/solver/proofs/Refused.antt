-- A refused run leaves the marginals as they were: they are stored only once all keys have theirs. Assumes nothing.
use mathlib.Core.Path.{◌≡◌, refl}
use mathlib.Core.Logic.{◌≢◌}
use mathlib.Core.List.{List}
use Prim.Native.Nat.{ℕ}
use lib.Ieee.{Float}
use Rattle.graph.specs.declared.Graph.{Graph}
use Rattle.schedule.specs.Count.{from}
use Rattle.solver.specs.Run.{RunVerdict, run, run_along}
use Rattle.std.proofs.Common.{Ok}
use Rattle.solver.proofs.Cases.{along-cases}
use Rattle.solver.proofs.Rising.{as_rising}

module _ (g : Graph) (factors messages : List Float) (work : ℕ) (marginals : List Float) where
  -- the marginals are as they were unless the run is done
  abbrev Kept : RunVerdict → Type 0
  Kept v = v.answer.ended ≢ Ok tt → v.marginals ≡ marginals

  pub along-kept : (order : List ℕ) → Kept (run_along g order factors messages work marginals)
  along-kept order =
      along-cases Kept g order factors messages work marginals (λ h. refl) (λ h. refl)
      (λ v o. record {
        factors_short = λ h. refl;
        short = λ h. refl;
        first = λ j why e h. refl;
        second = λ j why e h. refl;
        third = λ k why e h. refl;
        done = λ a b c h. absurd (h refl);
      })

  pub marginals-kept : Kept (run g factors messages work marginals)
  marginals-kept = as_rising g factors messages work marginals Kept (along-kept (from 0 g.variables))
