-- `plan_text::put_each`. The loop's invariant: the numbers passed are put.
use Rattle.std.proofs.Common.{take}
use Rattle.schedule.specs.Count.{joined}
use Rattle.text.specs.Putting.{Puts}
use Rattle.plan_text.specs.Lent.{NumberText, PutsAs}
use Rattle.plan_text.proofs.put_each.Given as goal

abbrev pub invariant-loop-x : goal.invariant-loop-x
invariant-loop-x g l = (text : NumberText) → PutsAs (goal.F-post g l.put_one) text → Puts l.initial.out l.out l.at l.to (joined text (take l.x-index l.numbers))
