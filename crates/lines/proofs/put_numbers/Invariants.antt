-- `lines::put_numbers`. The loop's invariant: the numbers passed are put.
use Rattle.text.specs.Putting.{Puts}
use Rattle.lines.specs.Lines.{numbers_text}
use Rattle.lines.proofs.put_numbers.Given as goal

abbrev pub invariant-loop-x : goal.invariant-loop-x
invariant-loop-x l = Puts l.initial.out l.out l.at l.to (numbers_text l.values l.from l.x-index)
