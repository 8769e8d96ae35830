-- What is printed, byte by byte. Definitions only.
use Rattle.std.specs.Prelude.{cond, List, [], ◌∷◌, ◌++◌, Result, Ok, Err, ℕ, zero, suc, ◌+◌, ◌-◌, ◌*◌, ◌/◌, ◌%◌, ◌^◌, ltb, leb, Float, length, get_or}
use Rattle.std.specs.Float.{nan, binary64}
use Rattle.std.specs.Float.Ieee.{to_bits}
use Rattle.factor.specs.Counting.{sum}
use Rattle.factor.specs.Factor.{lay}
use Rattle.text.specs.Decimals.{space, feed, decimal, field_text}
use Rattle.graph.specs.Record.{size_at}
use Rattle.graph.specs.Moments.{moment_numbers, start_of}
use Rattle.graph.specs.declared.Graph.{Graph}
use Rattle.lines.specs.declared.TooShort.{TooShort}

-- ---- numbers

-- a hexadecimal digit in upper case
abbrev pub hex_digit : ℕ → ℕ
hex_digit d = cond (ltb d 10) (48 + d) (55 + d)

-- the first n of the 16 digits of a pattern of 64 bits
unfoldable pub hex_by : (n bits : ℕ) → List ℕ
hex_by zero bits = []
hex_by (suc n) bits = hex_by n bits ++ (hex_digit (bits / 2 ^ (60 - 4 * n) % 16) ∷ [])

-- a space and a float
unfoldable pub number_text : Float → List ℕ
number_text v = space ∷ hex_by 16 (to_bits binary64 v)

-- as many bytes
abbrev pub number_bytes : ℕ
number_bytes = 17

-- n floats of a list, from a place on
unfoldable pub numbers_text : (values : List Float) (from n : ℕ) → List ℕ
numbers_text values from zero = []
numbers_text values from (suc n) = numbers_text values from n ++ number_text (get_or values (from + n) nan)

-- ---- a line a key

-- the numbers of key k in the marginal store
abbrev pub line_numbers : Graph → ℕ → ℕ
line_numbers g k = moment_numbers (size_at g k)

unfoldable pub line_text : (key : ℕ) (values : List Float) (from n : ℕ) → List ℕ
line_text key values from n = decimal key ++ numbers_text values from n ++ (feed ∷ [])

-- the lines of the first n keys
unfoldable pub lines_text : Graph → List Float → ℕ → List ℕ
lines_text g values zero = []
lines_text g values (suc n) = lines_text g values n ++ line_text n values (start_of g.sizes n) (line_numbers g n)

-- as many bytes: a line has its key, the bytes of each number, and its end
unfoldable pub lines_length : Graph → ℕ → ℕ
lines_length g n = sum (λ k. length (decimal k) + number_bytes * line_numbers g k + 1) n

-- ---- a refusal

-- the word `refused`
abbrev pub refused_word : List ℕ
refused_word = 114 ∷ 101 ∷ 102 ∷ 117 ∷ 115 ∷ 101 ∷ 100 ∷ []

-- number, stage and place
unfoldable pub refusal_text : (number stage place : ℕ) → List ℕ
refusal_text number stage place = refused_word ++ field_text number ++ field_text stage ++ field_text place ++ (feed ∷ [])

-- ---- text in a lent buffer

-- a text that fits stands at the buffer's start; a buffer that is too short is left as it was
unfoldable pub written : (out text : List ℕ) → Result ℕ TooShort
written out text = cond (leb (length text) (length out)) (Ok (length text)) (Err (record {}))

unfoldable pub laid_in : (out text : List ℕ) → List ℕ
laid_in out text = cond (leb (length text) (length out)) (lay out 0 text) out

-- ---- the number that stands for it in C

-- the largest number of 64 bits, which no text has as its length
abbrev pub short : ℕ
short = 0xFFFFFFFFFFFFFFFF

abbrev pub length_of : Result ℕ TooShort → ℕ
length_of (Ok n) = n
length_of (Err why) = short
