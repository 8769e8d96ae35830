use Prim.Native.Nat.{◌<◌, ◌≤◌, ℕ}
use mathlib.Core.Bool.{true}
use mathlib.Core.Path.{◌≡◌}
use lib.ListN.{length}
use Rattle.factor.specs.Counting.{all}
use Rattle.factor.specs.Limits.{max_factors, max_keys}
use Rattle.graph.specs.Record.{factor_at, factor_place}
use Rattle.graph.proofs.Graph.factors_fit.Given as goal

abbrev pub invariant-loop-number : goal.invariant-loop-number
invariant-loop-number l = (l.number ≤ max_factors) × (all (λ i. factor_place l.self i) l.number ≡ true) ×
    ((i : ℕ) → i < l.number → length (factor_at l.self i).keys ≡ max_keys)
