-- Inner: the messages of a pass in the tables of an elimination: their heads and keys follow those of the originals, the forward pass first.
use Rattle.std.specs.Prelude.{◌≡◌, true, false, List, ℕ, ◌+◌, ◌*◌, ◌≤◌, ◌<◌, length, get_or, Float}
use Rattle.matrix.specs.Views.{part}
use Rattle.factor.specs.Limits.{max_variables, max_factors, max_keys}
use Rattle.graph.specs.Record.{valid, factor_keys}
use Rattle.graph.specs.declared.Graph.{Graph}
use Rattle.schedule.specs.Count.{from}
use Rattle.schedule.specs.Pass.{ClosedFactor, at}
use Rattle.schedule.specs.Messages.{Older, Tidy}
use Rattle.slots.specs.Limits.{numbers_per_head}
use Rattle.slots.specs.Tables.{head_of}
use Rattle.slots.specs.declared.Head.{Head}
use Rattle.slots.specs.declared.Slot.TheVariants.{Closed}
use Rattle.gaussian.specs.Elimination.{message, numbers_in}
use Rattle.lists.specs.Lists.{backward_shift, message_number}
use Rattle.messages.specs.Values.{value_at, values, finished_numbers}
use Rattle.messages.specs.Figure.{rows_at, width_at, need_to, need}
use Rattle.slots.specs.Views.{factor_numbers}
use Rattle.tables.specs.Heads.{Originals}

-- what is asked of a pass: the plan of a valid graph gives it
pub record Carriable (g : Graph) (ms : List ClosedFactor) : Type 0 where
  pub sound : valid g ≡ true
  pub few : length ms ≤ max_variables
  pub tidy : (j : ℕ) → j < length ms → Tidy g.variables (factor_keys g) (from 0 g.count) ms (at ms j)
  pub older : Older ms

-- the lengths of the tables: a head for each slot; an original has places for the most keys of an observation, a message for all keys
abbrev pub heads_length : ℕ
heads_length = numbers_per_head * (max_factors + 2 * backward_shift)

abbrev pub keys_length : ℕ
keys_length = max_keys * max_factors + max_variables * (2 * backward_shift)

-- where the keys of the message j begin
abbrev pub first_key : (shift j : ℕ) → ℕ
first_key shift j = max_keys * max_factors + max_variables * (shift + j)

-- the head of the message j, where the first message's numbers begin at a place of the message store
abbrev pub message_head : (g : Graph) (ms : List ClosedFactor) (shift start j : ℕ) → Head
message_head g ms shift start j =
    record {
      slot = Closed (shift + j);
      prior = false;
      at = start + need_to g ms j;
      rows = rows_at g ms j;
      width = width_at g ms j;
      first = first_key shift j;
      count = length (at ms j).kept;
    }

-- the tables have the head and the keys of the message j
pub record Placed (g : Graph) (ms : List ClosedFactor) (shift start : ℕ) (keys heads : List ℕ) (j : ℕ) : Type 0 where
  pub head : head_of heads (message_number shift j) ≡ message_head g ms shift start j
  pub key : (i : ℕ) → i < length (at ms j).kept → get_or keys (first_key shift j + i) 0 ≡ get_or (at ms j).kept i 0

abbrev pub PlacedTo : (g : Graph) (ms : List ClosedFactor) (shift start : ℕ) (keys heads : List ℕ) (n : ℕ) → Type 0
PlacedTo g ms shift start keys heads n = (j : ℕ) → j < n → Placed g ms shift start keys heads j

-- the tables are of their lengths and have the originals
pub record Tables (g : Graph) (keys heads : List ℕ) : Type 0 where
  pub long_keys : length keys ≡ keys_length
  pub long_heads : length heads ≡ heads_length
  pub originals : Originals g keys heads

-- what stands before the messages of a pass is unchanged
pub record Before (shift : ℕ) (keys heads keys' heads' : List ℕ) : Type 0 where
  pub of_keys : (p : ℕ) → p < first_key shift 0 → get_or keys' p 0 ≡ get_or keys p 0
  pub of_heads : (i : ℕ) → i < message_number shift 0 → head_of heads' i ≡ head_of heads i

-- ---- the message store

-- the message j has been made, and its numbers stand in the store
pub record Stored (g : Graph) (factors : List Float) (ms : List ClosedFactor) (start : ℕ) (store : List Float) (j : ℕ) : Type 0 where
  pub rows : ℕ
  pub a : List Float
  pub xi : List Float
  pub w : List Float
  pub is : value_at g factors ms j ≡ message rows a xi w
  pub of_rows : rows ≡ rows_at g ms j
  pub of_a : length a ≡ rows * width_at g ms j
  pub of_xi : length xi ≡ rows
  pub of_w : length w ≡ rows * rows
  pub stands : part store (start + need_to g ms j) (start + need_to g ms j + factor_numbers rows (width_at g ms j)) ≡ numbers_in (message rows a xi w)

-- all messages of the pass have been made, and stand in the store one after the other
pub record AllStored (g : Graph) (factors : List Float) (ms : List ClosedFactor) (start : ℕ) (store : List Float) : Type 0 where
  pub each : (j : ℕ) → j < length ms → Stored g factors ms start store j
  pub long : length (finished_numbers (values g factors ms)) ≡ need g ms
