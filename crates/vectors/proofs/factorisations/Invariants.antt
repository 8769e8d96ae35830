-- Every record has a word of its own, so the loop ends.
use Rattle.std.proofs.Common.{◌-◌, ◌≤◌}
use Rattle.vectors.proofs.factorisations.Given as goal

abbrev pub invariant-loop-at : goal.invariant-loop-at
invariant-loop-at l = l.at ≤ 8192

abbrev pub decreases-loop-at : goal.decreases-loop-at
decreases-loop-at l = 8192 - l.at
