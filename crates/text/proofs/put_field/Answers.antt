-- `text::put_field`: a space, then the digits.
use Rattle.text.specs.Decimals.{field_text}
use Rattle.text.proofs.Putting.{both}
use Rattle.text.proofs.put_field.Goals as goal

pub returns : goal.returns
unfolding field_text
returns c = both c.put-digits.ensures c.put_decimal.ensures
