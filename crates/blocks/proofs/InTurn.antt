-- The reader gives each key with its block column in turn: after i blocks it stands at place i, where its key and its block are the i-th entry of
-- `blocks_of`, and after the last one it is at the end. Assumes nothing.
use Prim.Native.Nat.{ℕ, zero, suc, ◌+◌, ◌<◌}
use mathlib.Core.Path.{◌≡◌, refl, ap, ◌∙◌}
use mathlib.Core.List.{List, [], ◌∷◌}
use native.Mathlib.Nat.{zero-add}
use native.Mathlib.Numerals.{add-one}
use native.Mathlib.Omega.{arith}
use borrow.Author.Tests.{le-ltb, lt-ltb}
use lib.Ieee.{Float}
use lib.ListN.{length, get_or}
use denote.Ref.{Bor}
use Rattle.blocks.specs.Blocks.{column_of, block_column_of}
use Rattle.blocks.specs.declared.Blocks.{Blocks}
use Rattle.std.proofs.Common.{Some, None}
use Rattle.blocks.specs.Reader.{blocks_from, blocks_of, next_key_at, turned}

-- ---- where the reader stands

pub stands : (a : Bor (List Float)) (sizes keys : List ℕ) (i : ℕ) → turned a sizes keys i ≡ record { a = a; place = i; column = column_of sizes keys i }
unfolding turned column_of
stands a sizes keys zero = refl
stands a sizes keys (suc i) = rw (stands a sizes keys i, add-one i)

-- ---- the entries of the list

-- the first key's columns come before those of the others
column_cons : (sizes : List ℕ) (key : ℕ) (keys : List ℕ) (i : ℕ) → column_of sizes (key ∷ keys) (suc i) ≡ get_or sizes key 0 + column_of sizes keys i
unfolding column_of
column_cons sizes key keys zero = omega arith
column_cons sizes key keys (suc i) = omega (arith, column_cons sizes key keys i)

entry-from : (sizes : List ℕ) (y : ℕ) (a : List Float) (keys : List ℕ) (c i : ℕ) (none : ℕ × List Float) → i < length keys
    → get_or (blocks_from sizes y a keys c) i none ≡ (get_or keys i 0, block_column_of a y (c + column_of sizes keys i) (get_or sizes (get_or keys i 0) 0))
unfolding blocks_from column_of
entry-from sizes y a [] c i none h = absurd (omega arith)
entry-from sizes y a (key ∷ keys) c zero none h = let e : c ≡ c + 0 = omega arith in ap (λ (k : ℕ). (key, block_column_of a y k (get_or sizes key 0))) e
entry-from sizes y a (key ∷ keys) c (suc i) none h =
    let e : c + get_or sizes key 0 + column_of sizes keys i ≡ c + column_of sizes (key ∷ keys) (suc i) = omega (arith, column_cons sizes key keys i) in
    entry-from sizes y a keys (c + get_or sizes key 0) i none (omega arith) ∙ ap
    (λ (k : ℕ). (get_or keys i 0, block_column_of a y k (get_or sizes (get_or keys i 0) 0))) e

length_from : (sizes : List ℕ) (y : ℕ) (a : List Float) (keys : List ℕ) (c : ℕ) → length (blocks_from sizes y a keys c) ≡ length keys
unfolding blocks_from
length_from sizes y a [] c = refl
length_from sizes y a (key ∷ keys) c = ap suc (length_from sizes y a keys (c + get_or sizes key 0))

pub as_many : (sizes keys : List ℕ) (y : ℕ) (a : List Float) → length (blocks_of sizes keys y a) ≡ length keys
as_many sizes keys y a = length_from sizes y a keys 0

-- ---- each in turn

-- what the reader gives at one place: its key, and the block of that key's size
pub record Gives (b : Blocks) (sizes keys : List ℕ) (y : ℕ) (entry : ℕ × List Float) : Type 0 where
  pub key : next_key_at keys b.place ≡ Some entry.0
  pub block : block_column_of b.a.now y b.column (get_or sizes entry.0 0) ≡ entry.1

at_place : (a : Bor (List Float)) (sizes keys : List ℕ) (y i : ℕ) → i < length keys
    → Gives (record { a = a; place = i; column = column_of sizes keys i }) sizes keys y
    (get_or keys i 0, block_column_of a.now y (column_of sizes keys i) (get_or sizes (get_or keys i 0) 0))
at_place a sizes keys y i h = record { key = simp (lt-ltb i (length keys) h); block = refl }

pub in_turn : (a : Bor (List Float)) (sizes keys : List ℕ) (y i : ℕ) (none : ℕ × List Float) → i < length keys
    → Gives (turned a sizes keys i) sizes keys y (get_or (blocks_of sizes keys y a.now) i none)
in_turn a sizes keys y i none h = rw (stands a sizes keys i, entry-from sizes y a.now keys 0 i none h, zero-add (column_of sizes keys i))
    (at_place a sizes keys y i h)

pub then_end : (a : Bor (List Float)) (sizes keys : List ℕ) → next_key_at keys (turned a sizes keys (length keys)).place ≡ None
then_end a sizes keys = rw (stands a sizes keys (length keys)) (simp (le-ltb (length keys) (length keys) (omega arith)))

-- ---- an example

-- sizes 1 and 2, two rows: the blocks of a matrix of three columns
module _ (p q r s t u : Float) where
  pub example : blocks_of (1 ∷ 2 ∷ []) (0 ∷ 1 ∷ []) 2 (p ∷ q ∷ r ∷ s ∷ t ∷ u ∷ []) ≡ (0, p ∷ q ∷ []) ∷ (1, r ∷ s ∷ t ∷ u ∷ []) ∷ []
  unfolding blocks_from
  example = refl
