-- A factor whose variance is symmetric is never refused with 20, nor with 7 if its pivots have roots. So none is whose variance is a diagonal of one
-- number that is finite and has a root. Assumes nothing.
use Prim.Native.Nat.{ℕ}
use mathlib.Core.Path.{◌≡◌, ap, sym, ◌∙◌}
use mathlib.Core.Bool.{true, false, true≢false}
use mathlib.Core.List.{List}
use mathlib.Core.Logic.{◌≢◌}
use native.Mathlib.Omega.{arith}
use lib.Ieee.{Float}
use Rattle.matrix.specs.Triangles.{diagonal_of}
use Rattle.matrix.specs.Finite.{is_finite}
use Rattle.cholesky.specs.Forms.{pivot, exchanged}
use Rattle.cholesky.proofs.Diagonal.{Rooted}
use Rattle.cholesky.proofs.Forms.{diagonal_passes}
use Rattle.factor.specs.Factor.{symmetric}
use Rattle.factor.specs.declared.Factor.{Factor}
use Rattle.factor.proofs.Symmetry.{diagonal-symmetric}
use Rattle.graph.specs.Refusals.{refusal_number}
use Rattle.graph.specs.Registration.{FactorVerdict, accept, refuse, factor_verdict}
use Rattle.graph.specs.declared.Graph.{Graph}
use Rattle.graph.specs.declared.refusal.Refusal.TheVariants.{VariancePivot, NotSymmetric}
use Rattle.graph.proofs.Checking.{factor_ways}

-- the number of a refusal, and 0
number : FactorVerdict → ℕ
number (accept numbers) = 0
number (refuse why) = refusal_number why

module _ (g : Graph) (f : Factor) (a mean variance store : List Float) where
  -- 20 is told only where the triangles differ, and 7 only where a pivot is refused
  reasons : (number (factor_verdict g f a mean variance store) ≡ 20 → symmetric f.rows variance ≡ false) ×
      (number (factor_verdict g f a mean variance store) ≡ 7 → exchanged f.rows mean variance ≡ pivot)
  unfolding number
  reasons =
      factor_ways g f a mean variance store
      (λ v. (number v ≡ 20 → symmetric f.rows variance ≡ false) × (number v ≡ 7 → exchanged f.rows mean variance ≡ pivot))
      (λ e. absurd (omega arith), λ e. absurd (omega arith))
      (λ e. absurd (omega arith), λ e. absurd (omega arith))
      (λ e. absurd (omega arith), λ e. absurd (omega arith))
      (λ e. absurd (omega arith), λ e. absurd (omega arith))
      (λ differ. (λ e. differ, λ e. absurd (omega arith)))
      (λ stuck. (λ e. absurd (omega arith), λ e. stuck))
      (λ p xi w q. (λ e. absurd (omega arith), λ e. absurd (omega arith)))

  pub never_asymmetric : symmetric f.rows variance ≡ true → factor_verdict g f a mean variance store ≢ refuse NotSymmetric
  unfolding number
  never_asymmetric h e = true≢false (sym h ∙ reasons.0 (ap number e))

  never_pivot : exchanged f.rows mean variance ≢ pivot → factor_verdict g f a mean variance store ≢ refuse VariancePivot
  unfolding number
  never_pivot h e = h (reasons.1 (ap number e))

-- a diagonal of one number that is finite and has a root
module _ (g : Graph) (f : Factor) (a mean store : List Float) (x : Float) where
  pub diagonal_symmetry : is_finite x ≡ true → factor_verdict g f a mean (diagonal_of x f.rows) store ≢ refuse NotSymmetric
  diagonal_symmetry h = never_asymmetric g f a mean (diagonal_of x f.rows) store (diagonal-symmetric x f.rows h)

  pub diagonal_pivots : (r : Float) → Rooted x r → factor_verdict g f a mean (diagonal_of x f.rows) store ≢ refuse VariancePivot
  diagonal_pivots r ok = never_pivot g f a mean (diagonal_of x f.rows) store (diagonal_passes x r ok f.rows mean)
