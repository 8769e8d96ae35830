use Prim.Native.Nat.{◌≤◌}
use Rattle.factor.specs.Limits.{max_variables}
use Rattle.schedule.specs.Count.{joined, rising_where}
use Rattle.plan.specs.Mask.{has}
use Rattle.text.specs.Decimals.{field_text}
use Rattle.text.specs.Putting.{Puts}
use Rattle.plan_text.proofs.put_set.Given as goal

abbrev pub invariant-loop-k : goal.invariant-loop-k
invariant-loop-k l = (l.k ≤ max_variables) × Puts l.initial.out l.out l.initial.to l.to (joined field_text (rising_where l.k (λ i. has i l.set)))
