-- `measured::replan`. The loop's invariant: the count is that of the plan made last.
use Rattle.std.proofs.Common.{◌≡◌}
use Rattle.measured.specs.Measured.{replanned}
use Rattle.measured.proofs.replan.Given as goal

abbrev pub invariant-loop : goal.invariant-loop
invariant-loop l = l.count ≡ replanned l.g l.counter
