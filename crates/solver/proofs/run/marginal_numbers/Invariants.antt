use mathlib.Core.Path.{◌≡◌}
use Prim.Native.Nat.{◌*◌, ◌≤◌}
use Rattle.graph.specs.Moments.{start_of}
use Rattle.solver.proofs.run.marginal_numbers.Given as goal

abbrev pub invariant-loop-size : goal.invariant-loop-size
invariant-loop-size l = (l.sum ≡ start_of l.fn.g.sizes l.size-index) × (l.sum ≤ 65280 * l.size-index)
