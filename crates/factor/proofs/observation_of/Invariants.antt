use Prim.Native.Nat.{◌-◌}
use mathlib.Core.List.{◌++◌}
use mathlib.Core.Path.{◌≡◌}
use lib.ListN.{replicate, take}
use Rattle.factor.specs.Limits.{max_keys}
use Rattle.factor.proofs.observation_of.Given as goal

abbrev pub invariant-loop-place : goal.invariant-loop-place
invariant-loop-place l = l.packed ≡ take l.place l.keys ++ replicate (max_keys - l.place) 0
