use mathlib.Core.Path.{◌≡◌}
use Prim.Native.Nat.{◌-◌, ◌≤◌}
use lib.ListN.{length}
use Rattle.workspace.specs.Frames.{work_numbers}
use Rattle.measured.specs.Measured.{stores, again}
use Rattle.measured.proofs.repeat.Given as goal

abbrev pub invariant-loop : goal.invariant-loop
invariant-loop l = (l.counter ≤ l.times) × (length l.work ≡ work_numbers) ×
    (stores l.messages l.marginals ≡ again l.g l.factors (stores l.initial.messages l.initial.marginals) l.counter) × (length l.messages ≡ length l.initial.messages) ×
    (length l.marginals ≡ length l.initial.marginals)
