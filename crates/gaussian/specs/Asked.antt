-- Inner: what an elimination of slots asks of its tables and its stores.
use Rattle.std.specs.Prelude.{ℕ, ◌+◌, ◌*◌, ◌≤◌, ◌<◌, ◌≡◌, true, false, ◌||◌, List, length, get_or, Float}
use Rattle.blocks.specs.Blocks.{column_of}
use Rattle.workspace.specs.Frames.{work_numbers, frame_of}
use Rattle.workspace.specs.declared.Frame.{Frame}
use Rattle.factor.specs.Limits.{max_variables, max_size, max_total}
use Rattle.slots.specs.Limits.{max_slots, numbers_per_head, scratch_numbers}
use Rattle.slots.specs.Layouts.{member, dim_of, layout_of, Listed}
use Rattle.slots.specs.Views.{rows_of_all, factor_numbers}
use Rattle.slots.specs.Tables.{head_of, head_keys, slot_store, view_at, rows_by_all}
use Rattle.slots.specs.Fitting.{SlotReady, Counted}
use Rattle.slots.specs.declared.layout.Layout.{Layout}
use Rattle.slots.specs.declared.Head.{Head}
use Rattle.gaussian.specs.Elimination.{branch_of, message_rows}

-- a key of a slot: it has a size from the table, and it is kept or cleared
pub record KeyFits (kept cleared sizes : List ℕ) (key : ℕ) : Type 0 where
  pub listed : key < max_variables
  pub small : get_or sizes key 0 ≤ max_size
  pub placed : (member key cleared || member key kept) ≡ true

-- a slot's head: its keys stand in the table of keys, its numbers in a store of length len, and its rows and width are those of its keys
pub record HeadFits (kept cleared sizes keys : List ℕ) (len : ℕ) (h : Head) : Type 0 where
  pub listed : h.first + h.count ≤ length keys
  pub stored : h.at + factor_numbers h.rows h.width ≤ len
  pub count : h.count ≤ max_variables
  pub rows : h.rows ≤ max_total
  pub width : h.width ≤ max_total
  pub of_prior : h.prior ≡ true → (0 < h.count) × (get_or sizes (get_or keys h.first 0) 0 ≡ h.rows)
  pub of_likelihood : h.prior ≡ false → column_of sizes (head_keys keys h) h.count ≡ h.width
  pub known : (j : ℕ) → j < h.count → KeyFits kept cleared sizes (get_or keys (h.first + j) 0)

-- what an elimination asks for: all of it is about the tables and the lengths, none about the numbers
pub record Asked (kept cleared sizes : List ℕ) (factors messages : List Float) (work : ℕ) (keys heads slots : List ℕ) : Type 0 where
  pub kept_listed : Listed kept sizes
  pub cleared_listed : Listed cleared sizes
  pub total : dim_of sizes cleared + dim_of sizes kept ≤ max_total
  pub few : length slots ≤ max_slots
  pub headed : (i : ℕ) → i < length slots → numbers_per_head * get_or slots i 0 + 5 < length heads
  pub fits : (i : ℕ) → i < length slots
      → HeadFits kept cleared sizes keys (length (slot_store (head_of heads (get_or slots i 0)).slot factors messages)) (head_of heads (get_or slots i 0))
  pub enough : work_numbers ≤ work

-- the message has room from place `to` on in a store of length len
abbrev pub Roomy : (kept cleared sizes keys heads slots : List ℕ) (to len : ℕ) → Type 0
Roomy kept cleared sizes keys heads slots to len =
    to + factor_numbers (message_rows (rows_by_all (layout_of kept cleared sizes) keys heads slots (length slots)) (dim_of sizes kept)) (dim_of sizes kept) ≤ len

-- a message of y rows summed over d kept columns has the rows and the lengths that its heads tell
pub record Sized (y d r : ℕ) (a xi w : List Float) : Type 0 where
  pub of_rows : r ≡ message_rows y d
  pub of_a : length a ≡ r * d
  pub of_xi : length xi ≡ r
  pub of_w : length w ≡ r * r

-- ---- between the functions

-- the frame of the branch that runs
abbrev pub frame_for : ℕ → ℕ → ℕ → Frame
frame_for u d y = frame_of u (message_rows y d) d

-- `Asked` for a layout that is made, slot by slot
pub record SlotsAsked (u d : ℕ) (m : Layout) (factors messages : List Float) (work : ℕ) (keys heads slots : List ℕ) : Type 0 where
  pub total : u + d ≤ max_total
  pub counted : Counted keys heads slots
  pub rows : rows_by_all m keys heads slots (length slots) ≡ rows_of_all m (view_at factors messages keys heads slots) (length slots)
  pub ready : (i : ℕ) → i < length slots
      → SlotReady (frame_for u d (rows_by_all m keys heads slots (length slots))) m (branch_of (rows_by_all m keys heads slots (length slots)) d)
      (rows_of_all m (view_at factors messages keys heads slots) i) factors messages keys scratch_numbers (head_of heads (get_or slots i 0))
  pub enough : work_numbers ≤ work
