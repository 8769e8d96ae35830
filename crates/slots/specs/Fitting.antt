-- Inner: what the functions of an elimination ask for: that keys, numbers and rows fit the tables, the stores and the frame.
use Rattle.std.specs.Prelude.{ℕ, ◌+◌, ◌*◌, ◌≤◌, ◌<◌, ◌≡◌, Bool, true, false, cond, List, [], length, get_or, Float}
use Rattle.blocks.specs.Blocks.{column_of}
use Rattle.workspace.specs.declared.Frame.{Frame}
use Rattle.factor.specs.Limits.{max_variables, max_size, max_total}
use Rattle.slots.specs.Limits.{max_slots, numbers_per_head}
use Rattle.slots.specs.Layouts.{spot_of}
use Rattle.slots.specs.Views.{rows_of, factor_numbers, view_of}
use Rattle.slots.specs.Tables.{head_of, head_keys, slot_store}
use Rattle.slots.specs.declared.Branch.{Branch}
use Rattle.slots.specs.declared.Branch.TheVariants.{Z, X}
use Rattle.slots.specs.declared.layout.Layout.{Layout}
use Rattle.slots.specs.declared.layout.Spot.{Spot}
use Rattle.slots.specs.declared.Head.{Head}

-- the columns of a key are inside its list's dimension
abbrev pub Sits : Frame → Spot → Type 0
Sits f k = k.at + k.size ≤ cond k.cleared f.cleared f.kept

-- what a branch needs of the frame: in x there are as many rows as kept columns; in z the rows of a factor are inside
pub record BranchFits (branch : Branch) (f : Frame) (row y : ℕ) : Type 0 where
  pub square : branch ≡ X → f.rows ≡ f.kept
  pub inside : branch ≡ Z → row + y ≤ f.rows

-- a key has a place in the layout and a size within the limit
pub record KnownKey (f : Frame) (m : Layout) (key : ℕ) : Type 0 where
  pub listed : key < max_variables
  pub small : get_or m.size key 0 ≤ max_size
  pub sits : Sits f (spot_of m key)

abbrev pub Known : Frame → Layout → List ℕ → Type 0
Known f m keys = (j : ℕ) → j < length keys → KnownKey f m (get_or keys j 0)

-- keys within the limits, and A of their width and y rows
pub record Wide (sizes keys : List ℕ) (y len : ℕ) : Type 0 where
  pub count : length keys ≤ max_variables
  pub width : column_of sizes keys (length keys) ≤ max_total
  pub rows : y ≤ max_total
  pub whole : column_of sizes keys (length keys) * y ≤ len

-- what `add_view` asks for: p tells a prior, t and len are the lengths of its working slice and of its numbers
pub record Fitted (f : Frame) (m : Layout) (branch : Branch) (row : ℕ) (p : Bool) (keys : List ℕ) (y d t len : ℕ) : Type 0 where
  pub some : p ≡ true → 0 < length keys
  pub known : Known f m keys
  pub count : length keys ≤ max_variables
  pub narrow : d ≤ max_total
  pub rows : y ≤ max_total
  pub square : branch ≡ X → f.rows ≡ f.kept
  pub inside : branch ≡ Z → row + rows_of m (view_of p keys y d []) ≤ f.rows
  pub of_prior : p ≡ true → get_or m.size (get_or keys 0 0) 0 ≡ y
  pub of_other : p ≡ false → column_of m.size keys (length keys) ≡ d
  pub scratch : max_size * y ≤ t
  pub whole : factor_numbers y d ≤ len

-- what `add_slot` asks for
pub record SlotReady (f : Frame) (m : Layout) (branch : Branch) (row : ℕ) (factors messages : List Float) (keys : List ℕ) (t : ℕ) (h : Head) : Type 0 where
  pub listed : h.first + h.count ≤ length keys
  pub stored : h.at + factor_numbers h.rows h.width ≤ length (slot_store h.slot factors messages)
  pub low : row ≤ 65536
  pub fitted : Fitted f m branch row h.prior (head_keys keys h) h.rows h.width t (factor_numbers h.rows h.width)

-- what `count_rows` asks for: few slots, each with a head of few rows, and the key of a prior in its place
pub record CountedHead (keys : List ℕ) (h : Head) : Type 0 where
  pub rows : h.rows ≤ max_total
  pub of_prior : h.prior ≡ true → (h.first < length keys) × (get_or keys h.first 0 < max_variables)

pub record Counted (keys heads slots : List ℕ) : Type 0 where
  pub few : length slots ≤ max_slots
  pub headed : (i : ℕ) → i < length slots → numbers_per_head * get_or slots i 0 + 5 < length heads
  pub counted : (i : ℕ) → i < length slots → CountedHead keys (head_of heads (get_or slots i 0))
