use Prim.Native.Nat.{◌*◌, ◌≤◌}
use mathlib.Core.Path.{◌≡◌}
use Rattle.factor.specs.Factor.{first_column}
use Rattle.factor.proofs.Factor.first_column.Given as goal

abbrev pub invariant-loop-key : goal.invariant-loop-key
invariant-loop-key l = (l.sum ≤ 255 * l.key-index) × (l.sum ≡ first_column l.sizes l.fn.self.keys l.key-index)
