-- `plan_text::put_named` meets its contract: the word, then the number. Assumes nothing.
use Rattle.plan_text.specs.Text.{named_text}
use Rattle.text.proofs.Putting.{both}
use Rattle.plan_text.proofs.put_named.Goals as goal

pub returns : goal.returns
unfolding named_text
returns c = both c.put_word-to.ensures c.put_field.ensures
