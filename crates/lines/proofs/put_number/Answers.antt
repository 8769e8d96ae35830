-- `lines::put_number`: a space, then the digits.
use Rattle.std.proofs.Common.{ap}
use Rattle.text.proofs.Putting.{both, same}
use Rattle.lines.specs.Lines.{hex_by, number_text}
use Rattle.lines.proofs.put_number.Goals as goal

pub returns : goal.returns
unfolding number_text
returns c = both c.put-next.ensures (same (ap (hex_by 16) c.bits_of.ensures) c.put_hex.ensures)
