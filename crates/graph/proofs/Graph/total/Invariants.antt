use Prim.Native.Nat.{◌*◌, ◌≤◌}
use mathlib.Core.Path.{◌≡◌}
use Rattle.graph.specs.Record.{size_at}
use Rattle.factor.specs.Counting as counting
use Rattle.graph.proofs.Graph.total.Given as goal

abbrev pub invariant-loop-size : goal.invariant-loop-size
invariant-loop-size l = (l.sum ≤ 255 * l.size-index) × (l.sum ≡ counting.sum (λ i. size_at l.self i) l.size-index)
