-- `lines::put_hex`. The loop's invariant: the digits passed are put.
use Rattle.text.specs.Putting.{Puts}
use Rattle.lines.specs.Lines.{hex_by}
use Rattle.lines.proofs.put_hex.Given as goal

abbrev pub invariant-loop-i : goal.invariant-loop-i
invariant-loop-i l = Puts l.initial.out l.out l.at l.to (hex_by l.i l.bits)
