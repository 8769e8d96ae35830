use mathlib.Core.Path.{◌≡◌}
use Prim.Native.Nat.{◌+◌, ◌*◌, ◌≤◌}
use lib.ListN.{length}
use Rattle.plan.specs.Pass.{messages_of}
use Rattle.messages.proofs.Carrying.{Carrying}
use Rattle.messages.proofs.carry_pass.Given as goal

abbrev pub invariant-loop-j : goal.invariant-loop-j
invariant-loop-j l = Carrying l.g l.factors (messages_of l.p) l.start l.initial.messages l.messages
    l.to l.j × (length l.work ≡ length l.initial.work) × (l.to ≤ l.start + 2080 * l.j)
