-- `lines::put_refusal` meets its contract: one part after another. Assumes nothing.
use Rattle.lines.specs.Lines.{refusal_text}
use Rattle.text.proofs.Putting.{both}
use Rattle.lines.proofs.put_refusal.Goals as goal

pub returns : goal.returns
unfolding refusal_text
returns c = both (both (both (both c.put_word-first.ensures c.put_field-second.ensures) c.put_field-third.ensures) c.put_field-last.ensures) c.put.ensures
