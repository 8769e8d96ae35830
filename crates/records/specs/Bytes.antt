-- The numbers in a job's bytes. All stand with their lowest byte first. Definitions only.
use Rattle.std.specs.Prelude.{Bool, List, [], ◌∷◌, ◌++◌, ℕ, zero, suc, ◌+◌, ◌*◌, ltb, Float, length, get_or}
use Rattle.std.specs.Float.{binary64}
use Rattle.std.specs.Float.Ieee.{of_bits}

-- the bytes of a float
abbrev pub float_bytes : ℕ
float_bytes = 8

abbrev pub byte_at : List ℕ → ℕ → ℕ
byte_at bytes at = get_or bytes at 0

-- fewer than n bytes stand from a place on
abbrev pub cut : (bytes : List ℕ) (at n : ℕ) → Bool
cut bytes at n = ltb (length bytes) (at + n)

-- an unsigned number of 32 bits
unfoldable pub word_at : List ℕ → ℕ → ℕ
word_at bytes at = byte_at bytes at + 0x100 * byte_at bytes (at + 1) + 0x10000 * byte_at bytes (at + 2) + 0x1000000 * byte_at bytes (at + 3)

-- the float of a pattern of 64 bits
unfoldable pub number_at : List ℕ → ℕ → Float
number_at bytes at = of_bits binary64 (word_at bytes at + 0x100000000 * word_at bytes (at + 4))

-- f 0 to f (n - 1)
unfoldable pub listed {ℓ} : {A : Type ℓ} → (ℕ → A) → ℕ → List A
listed f zero = []
listed f (suc n) = listed f n ++ (f n ∷ [])

-- n bytes as numbers, and n floats
abbrev pub keys_read : (bytes : List ℕ) (at n : ℕ) → List ℕ
keys_read bytes at n = listed (λ i. byte_at bytes (at + i)) n

abbrev pub numbers_at : (bytes : List ℕ) (at n : ℕ) → List Float
numbers_at bytes at n = listed (λ i. number_at bytes (at + float_bytes * i)) n
