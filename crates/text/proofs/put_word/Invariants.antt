-- `text::put_word`. The loop's invariant: the bytes passed are put.
use Rattle.std.proofs.Common.{take}
use Rattle.text.specs.Putting.{Puts}
use Rattle.text.proofs.put_word.Given as goal

abbrev pub invariant-loop-byte : goal.invariant-loop-byte
invariant-loop-byte l = Puts l.initial.out l.out l.at l.to (take l.byte-index l.word)
