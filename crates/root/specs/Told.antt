-- What an answer tells in numbers. A refused pivot alone has no number of document 01: it is 7 in a variance, 15 in a cleared block and 16 in a marginal.
-- Definitions only.
use Rattle.std.specs.Prelude.{ℕ, cond, to_bits, Option, Some, None, Float}
use Rattle.std.specs.Float.{binary64}
use Rattle.std.specs.Float.Ieee.Positive.{positive}
use Rattle.root.specs.Root.{in_units, root_bits}

-- the bit pattern of the root, or none where the pivot is refused
abbrev pub pivot_told : Option Float → Option ℕ
pivot_told (Some r) = Some (to_bits binary64 r)
pivot_told None = None

-- what is right for v
unfoldable pub right_told : Float → Option ℕ
right_told v = cond (positive v) (Some (root_bits (in_units v))) None
