use Prim.Native.Nat.{◌≤◌}
use Rattle.factor.specs.Factor.{below}
use Rattle.factor.proofs.lists.lookup.Given as goal

abbrev pub invariant-loop-place : goal.invariant-loop-place
invariant-loop-place l = l.place ≤ below l.keys l.key
