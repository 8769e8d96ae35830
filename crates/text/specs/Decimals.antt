-- Whole numbers as text, byte by byte. Definitions only.
use Rattle.std.specs.Prelude.{cond, List, [], ◌∷◌, ◌++◌, ℕ, zero, suc, ◌+◌, ◌/◌, ◌%◌, ltb}

abbrev pub space : ℕ
space = 32

abbrev pub feed : ℕ
feed = 10

-- in decimal, without leading zeros; each turn writes a digit
unfoldable pub decimal_by : (turns n : ℕ) → List ℕ
decimal_by zero n = []
decimal_by (suc turns) n = cond (ltb n 10) ((48 + n) ∷ []) (decimal_by turns (n / 10) ++ ((48 + n % 10) ∷ []))

-- a number above 0 has no more digits than its value
unfoldable pub decimal : ℕ → List ℕ
decimal n = decimal_by (suc n) n

-- a space and a number in decimal
unfoldable pub field_text : ℕ → List ℕ
field_text n = space ∷ decimal n
