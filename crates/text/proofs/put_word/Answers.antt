-- `text::put_word`: one byte more is put in each turn.
use Rattle.std.proofs.Common.{sym, arith}
use Rattle.std.proofs.lemmas.List.{take_more}
use Rattle.text.proofs.Putting.{none, both, same}
use Rattle.text.proofs.put_word.Goals as goal

pub loop-byte-init : goal.loop-byte-init
loop-byte-init c = none

pub loop-byte-preserved : goal.loop-byte-preserved
loop-byte-preserved c = same (sym (take_more c.args.word.now c.loop-byte.byte-index _ (omega arith))) (both c.loop-byte.invariant c.put-to.ensures)
