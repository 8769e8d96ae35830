-- `text::decimal_length`: a tenth of the number is smaller.
use Rattle.text.proofs.+decimal_length.Given as goal

abbrev pub decreases-decimal_length : goal.decreases-decimal_length
decreases-decimal_length l = l.x
