-- `lines::put_line`: the key, its numbers, and a line feed.
use Rattle.text.proofs.Putting.{both}
use Rattle.lines.specs.Lines.{line_text}
use Rattle.lines.proofs.put_line.Goals as goal

pub returns : goal.returns
unfolding line_text
returns c = both (both c.put_decimal-second.ensures c.put_numbers-last.ensures) c.put.ensures
