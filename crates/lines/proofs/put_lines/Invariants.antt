-- `lines::put_lines`. The loop's invariant: the lines of the keys passed are put, and the next key's numbers begin at its start.
use Rattle.std.proofs.Common.{◌≡◌}
use Rattle.graph.specs.Moments.{start_of}
use Rattle.text.specs.Putting.{Puts}
use Rattle.lines.specs.Lines.{lines_text}
use Rattle.lines.proofs.put_lines.Given as goal

abbrev pub invariant-loop-key : goal.invariant-loop-key
invariant-loop-key l = (l.from ≡ start_of l.g.sizes l.key) × Puts l.initial.out l.out 0 l.to (lines_text l.g l.values l.key)
