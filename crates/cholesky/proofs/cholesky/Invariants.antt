use Prim.Native.Nat.{suc, ◌<◌, ◌-◌}
use mathlib.Core.Path.{◌≡◌}
use Rattle.cholesky.specs.Factor.{whole, factor_column, factor}
use Rattle.cholesky.proofs.cholesky.Given as goal

abbrev pub invariant-loop-i : goal.invariant-loop-i
invariant-loop-i l = (l.i ≡ l.j → l.s ≡ l.initial.s) × (l.j < l.i → factor_column l.v l.j (l.i - suc l.j) (whole l.initial.s) ≡ whole l.s)

abbrev pub invariant-loop-j : goal.invariant-loop-j
invariant-loop-j l = factor l.v l.n l.initial.s l.j ≡ whole l.s
