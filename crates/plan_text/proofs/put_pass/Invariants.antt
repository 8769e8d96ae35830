use Prim.Native.Nat.{◌≤◌}
use mathlib.Core.Path.{◌≡◌}
use mathlib.Core.List.{map}
use Rattle.schedule.specs.Count.{from}
use Rattle.plan.specs.Pass.{msg_at}
use Rattle.text.specs.Putting.{Puts}
use Rattle.plan_text.specs.Text.{message_text, numbered}
use Rattle.plan_text.proofs.put_pass.Given as goal

abbrev pub invariant-loop-j : goal.invariant-loop-j
invariant-loop-j l = (l.j-end ≡ l.messages.count) × (l.j ≤ l.j-end) × Puts l.initial.out l.out l.at l.to
    (numbered (message_text l.name) 0 (map (msg_at l.messages) (from 0 l.j)))
