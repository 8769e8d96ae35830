-- The texts: how long they are, and how each grows by a piece. Assumes nothing.
use Prim.Native.Nat.{ℕ, zero, suc, ◌+◌, ◌-◌, ◌*◌, ◌/◌, ◌%◌, ◌^◌}
use mathlib.Core.Path.{◌≡◌, refl, ap, ◌∙◌}
use mathlib.Core.List.{List, [], ◌∷◌, ◌++◌}
use native.Mathlib.Omega.{arith}
use native.Mathlib.Numerals.{add-one}
use lib.Ieee.{Float, nan, binary64, to_bits}
use lib.ListN.{length, get_or, length-append}
use Rattle.factor.specs.Counting.{sum}
use Rattle.factor.proofs.Counting.{sum_more}
use Rattle.graph.specs.declared.Graph.{Graph}
use Rattle.text.specs.Decimals.{decimal, feed}
use Rattle.text.proofs.Decimals.{field_length}
use Rattle.graph.specs.Moments.{start_of}
use Rattle.lines.specs.Lines.{hex_digit, hex_by, number_text, number_bytes, numbers_text, line_numbers, line_text, lines_text, lines_length, refusal_text}

-- ---- hexadecimals and floats

pub hex_length : (n bits : ℕ) → length (hex_by n bits) ≡ n
unfolding hex_by
hex_length zero bits = refl
hex_length (suc n) bits = length-append (hex_by n bits) (hex_digit (bits / 2 ^ (60 - 4 * n) % 16) ∷ []) ∙ omega (arith, hex_length n bits)

pub hex_more : (n bits : ℕ) → hex_by (n + 1) bits ≡ hex_by n bits ++ (hex_digit (bits / 2 ^ (60 - 4 * n) % 16) ∷ [])
unfolding hex_by
hex_more n bits = rw add-one

pub number-length : (v : Float) → length (number_text v) ≡ number_bytes
unfolding number_text
number-length v = omega (arith, hex_length 16 (to_bits binary64 v))

pub numbers_more : (values : List Float) (from n : ℕ) → numbers_text values from (n + 1) ≡ numbers_text values from n ++ number_text (get_or values (from + n) nan)
unfolding numbers_text
numbers_more values from n = rw add-one

pub numbers-length : (values : List Float) (from n : ℕ) → length (numbers_text values from n) ≡ number_bytes * n
unfolding numbers_text
numbers-length values from zero = refl
numbers-length values from (suc n) =
    length-append (numbers_text values from n) (number_text (get_or values (from + n) nan))
    ∙ omega (arith, numbers-length values from n, number-length (get_or values (from + n) nan))

-- ---- lines

pub line-length : (key : ℕ) (values : List Float) (from n : ℕ) → length (line_text key values from n) ≡ length (decimal key) + number_bytes * n + 1
unfolding line_text
line-length key values from n =
    length-append (decimal key ++ numbers_text values from n) (feed ∷ [])
    ∙ omega (arith, length-append (decimal key) (numbers_text values from n), numbers-length values from n)

pub length_more : (g : Graph) (k : ℕ) → lines_length g (k + 1) ≡ lines_length g k + (length (decimal k) + number_bytes * line_numbers g k + 1)
unfolding lines_length
length_more g k = sum_more (λ i. length (decimal i) + number_bytes * line_numbers g i + 1) k

pub lines_more : (g : Graph) (values : List Float) (k : ℕ) → lines_text g values (k + 1)
    ≡ lines_text g values k ++ line_text k values (start_of g.sizes k) (line_numbers g k)
unfolding lines_text
lines_more g values k = rw add-one

pub lines_long : (g : Graph) (values : List Float) (k : ℕ) → length (lines_text g values k) ≡ lines_length g k
unfolding lines_text lines_length sum
lines_long g values zero = refl
lines_long g values (suc k) =
    length-append (lines_text g values k) (line_text k values (start_of g.sizes k) (line_numbers g k))
    ∙ omega (
      arith,
      lines_long g values k,
      line-length k values (start_of g.sizes k) (line_numbers g k),
      length_more g k,
      ap (λ (n : ℕ). lines_length g n) (add-one k),
    )

-- ---- a refusal

-- a word of 7 bytes, a space before each number, and the line feed
pub refusal-length : (number stage place : ℕ) → length (refusal_text number stage place)
    ≡ 11 + length (decimal number) + length (decimal stage) + length (decimal place)
unfolding refusal_text
refusal-length number stage place = simp length-append (omega (arith, field_length number, field_length stage, field_length place))
