use Prim.Native.Nat.{◌≤◌}
use mathlib.Core.List.{map}
use lib.ListN.{take}
use Rattle.plan.specs.Gather.{gathered_of}
use Rattle.text.specs.Putting.{Puts}
use Rattle.plan_text.specs.Text.{key_text, numbered}
use Rattle.plan_text.proofs.put_keys.Given as goal

abbrev pub invariant-loop-k : goal.invariant-loop-k
invariant-loop-k l = (l.k ≤ l.n) × Puts l.initial.out l.out l.at l.to (numbered key_text 0 (map gathered_of (take l.k l.plan.at)))
