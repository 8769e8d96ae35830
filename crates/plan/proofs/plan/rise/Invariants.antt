use mathlib.Core.Path.{◌≡◌}
use lib.ListN.{take}
use Rattle.schedule.specs.Count.{from}
use Rattle.plan.proofs.plan.rise.Given as goal

abbrev pub invariant-loop-i : goal.invariant-loop-i
invariant-loop-i l = take l.i l.list ≡ from 0 l.i
