use mathlib.Core.List.{map}
use lib.ListN.{take}
use Rattle.schedule.specs.Gather.{messages_in}
use Rattle.plan.specs.Mask.{Set}
use Rattle.plan.specs.Pass.{pass_slot}
use Rattle.plan.proofs.gather.messages_in.Given as goal

abbrev pub invariant-loop-s : goal.invariant-loop-s
invariant-loop-s l = Set (messages_in (map pass_slot (take l.s-index l.s-items))) l.r
