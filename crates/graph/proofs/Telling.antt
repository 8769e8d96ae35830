-- An answer that is the definition's tells the definition's numbers. Assumes nothing.
use mathlib.Core.Path.{◌≡◌, refl}
use mathlib.Core.List.{List}
use lib.Ieee.{Float}
use Rattle.cholesky.specs.Forms.{pivot, not_finite}
use Rattle.factor.specs.Told.{weight_told}
use Rattle.factor.specs.declared.Factor.{Factor}
use Rattle.graph.specs.Registration.{FactorVerdict, accept, refuse, settle, weighed_verdict}
use Rattle.graph.specs.Told.{call_told, factor_verdict_told}
use Rattle.graph.specs.declared.Graph.{Graph}
use Rattle.graph.specs.declared.refusal.Refusal.{Refusal}
use Rattle.std.specs.Prelude.{Err}

-- a factor's call tells what its checks come to
pub settled : (g : Graph) (f : Factor) (v : FactorVerdict) → call_told (settle g f v).outcome ≡ factor_verdict_told g v
unfolding call_told factor_verdict_told
settled g f (accept numbers) = refl
settled g f (refuse why) = refl

pub refused_tells : (g : Graph) (why : Refusal) → call_told (Err why) ≡ factor_verdict_told g (refuse why)
unfolding call_told factor_verdict_told
refused_tells g why = refl

-- the numbers with which `factor` tells that a mean and a variance have no other form are those of the refusals here
pub weighing_tells : (g : Graph) (a : List Float) → (factor_verdict_told g (weighed_verdict a pivot) ≡ weight_told pivot) ×
    (factor_verdict_told g (weighed_verdict a not_finite) ≡ weight_told not_finite)
unfolding factor_verdict_told weight_told
weighing_tells g a = (refl, refl)
