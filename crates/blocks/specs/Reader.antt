-- Inner: a reader that gives each key of a factor with its block column in turn.
use Rattle.std.specs.Prelude.{ℕ, zero, suc, ◌+◌, cond, List, [], ◌∷◌, ltb, length, get_or, Option, Some, None, Float}
use Rattle.std.specs.Borrow.{Bor}
use Rattle.blocks.specs.declared.Blocks.{Blocks}
use Rattle.blocks.specs.Blocks.{block_column_of}

-- each key with its block column, where the first block begins at column c
unfoldable pub blocks_from : (sizes : List ℕ) (y : ℕ) (a : List Float) (keys : List ℕ) (c : ℕ) → List (ℕ × List Float)
blocks_from sizes y a [] c = []
blocks_from sizes y a (key ∷ keys) c = (key, block_column_of a y c (get_or sizes key 0)) ∷ blocks_from sizes y a keys (c + get_or sizes key 0)

-- the blocks of a factor of y rows
abbrev pub blocks_of : (sizes keys : List ℕ) (y : ℕ) (a : List Float) → List (ℕ × List Float)
blocks_of sizes keys y a = blocks_from sizes y a keys 0

-- the key at a place, or the end
abbrev pub next_key_at : List ℕ → ℕ → Option ℕ
next_key_at keys place = cond (ltb place (length keys)) (Some (get_or keys place 0)) None

-- the reader at the first key, and past a block of s columns
abbrev pub started : Bor (List Float) → Blocks
started a = record { a = a; place = 0; column = 0 }

abbrev pub passed : Blocks → ℕ → Blocks
passed b s = record { a = b.a; place = b.place + 1; column = b.column + s }

-- the reader after the blocks of the first i keys
unfoldable pub turned : (a : Bor (List Float)) (sizes keys : List ℕ) (i : ℕ) → Blocks
turned a sizes keys zero = started a
turned a sizes keys (suc i) = passed (turned a sizes keys i) (get_or sizes (get_or keys i 0) 0)
