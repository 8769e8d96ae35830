use Prim.Native.Nat.{◌*◌, ◌≤◌}
use mathlib.Core.Path.{◌≡◌}
use Rattle.factor.specs.Factor.{numbers}
use Rattle.factor.specs.Limits.{most_numbers}
use Rattle.graph.specs.Record.{factor_at}
use Rattle.factor.specs.Counting as counting
use Rattle.graph.proofs.Graph.offset.Given as goal

abbrev pub invariant-loop-f : goal.invariant-loop-f
invariant-loop-f l = (l.sum ≤ most_numbers * l.f-index) × (l.sum ≡ counting.sum (λ k. numbers l.fn.self.sizes (factor_at l.fn.self k)) l.f-index)
