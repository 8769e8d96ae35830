use Prim.Native.Nat.{◌+◌}
use Rattle.plan.specs.Mask.{has}
use Rattle.lists.proofs.Writing.{Put}
use Rattle.lists.proofs.put_set.Given as goal

abbrev pub invariant-loop-j : goal.invariant-loop-j
invariant-loop-j l = Put (λ i. l.shift + i) (λ i. has i l.set) l.initial.list l.at l.list l.to l.j
