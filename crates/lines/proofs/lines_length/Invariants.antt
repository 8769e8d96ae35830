-- `lines::lines_length`. The loop's invariant: the lengths of the lines passed are added up.
use Rattle.std.proofs.Common.{◌≡◌, ◌*◌, ◌≤◌}
use Rattle.lines.specs.Lines.{lines_length}
use Rattle.lines.proofs.lines_length.Given as goal

abbrev pub invariant-loop-key : goal.invariant-loop-key
invariant-loop-key l = (l.sum ≡ lines_length l.g l.key) × (l.sum ≤ 735 * l.key)
