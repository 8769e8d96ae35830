-- The rows of a message. Assumes nothing.
use mathlib.Core.Path.{◌≡◌, refl}
use mathlib.Core.Bool.{false}
use mathlib.Core.List.{List}
use Prim.Native.Nat.{ℕ, ◌+◌, ◌*◌, ◌≤◌}
use native.Mathlib.Nat.{mul-le-mul}
use native.Mathlib.Omega.{arith}
use lib.ListN.{length}
use Rattle.slots.specs.Layouts.{dim_of, layout_of, Listed}
use Rattle.slots.specs.Tables.{rows_by_all}
use Rattle.slots.specs.declared.layout.Layout.{Layout}
use Rattle.gaussian.specs.Elimination.{message_rows}
use Rattle.gaussian.proofs.Lengths.{rows_few}
use Rattle.factor.specs.Factor.{lay}
use Rattle.messages.specs.Asked.{message_rows_by, keys_from}
use Rattle.slots.specs.Views.{factor_numbers}
use Rattle.tables.specs.Heads.{with_head}

module _ (kept cleared slots sizes keys heads : List ℕ) (m : Layout) (y d : ℕ) (em : m ≡ layout_of kept cleared sizes)
    (ey : y ≡ rows_by_all m keys heads slots (length slots)) (ed : d ≡ dim_of sizes kept) where
  pub rows_are : (r : ℕ) → r ≡ message_rows y d → r ≡ message_rows_by kept cleared slots sizes keys heads
  rows_are r er = rw (← em, ← ey, ← ed) er

-- products of rows and columns are small
pub products : (r d : ℕ) → r ≤ 32 → d ≤ 32 → (r * d ≤ 1024) × (r * r ≤ 1024)
products r d hr hd = (mul-le-mul hr hd, mul-le-mul hr hr)

-- the rows and the columns of a message that is placed
pub placed-small : (kept cleared slots sizes keys heads : List ℕ) (r d : ℕ) → Listed kept sizes → r ≡ message_rows_by kept cleared slots sizes keys heads → d
    ≡ dim_of sizes kept
    → (r ≤ 32) × (d ≤ 32) × (r * d ≤ 1024) × (r * r ≤ 1024)
placed-small kept cleared slots sizes keys heads r d l er ed =
    let hd : d ≤ 32 = rw ed l.total in
    let hr : r ≤ 32 = rw er (omega (arith, l.total, rows_few (rows_by_all (layout_of kept cleared sizes) keys heads slots (length slots)) (dim_of sizes kept))) in
    (hr, hd, (products r d hr hd).0, (products r d hr hd).1)

-- what the placing of a message comes to
pub placed-is : (kept cleared slots sizes keys heads : List ℕ) (number start r d : ℕ) (keys' heads' : List ℕ) → r
    ≡ message_rows_by kept cleared slots sizes keys heads → d ≡ dim_of sizes kept
    → keys' ≡ lay keys (keys_from number) kept → heads' ≡ with_head heads number false start r d (keys_from number) (length kept)
    → (start + (r * d + r + r * r) ≡ start + factor_numbers (message_rows_by kept cleared slots sizes keys heads) (dim_of sizes kept))
    × (keys' ≡ lay keys (keys_from number) kept)
    × (heads' ≡ with_head heads number false start (message_rows_by kept cleared slots sizes keys heads) (dim_of sizes kept) (keys_from number) (length kept))
placed-is kept cleared slots sizes keys heads number start r d keys' heads' er ed ek eh =
    (rw (er, ed) refl, ek, rw (eh, er, ed) refl)
