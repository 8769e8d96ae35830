-- Inner: what the functions of this crate ask for, and what they answer.
use Rattle.std.specs.Prelude.{List, ℕ, ◌+◌, ◌-◌, ◌*◌, ◌≤◌, ◌<◌, length, take}
use Rattle.factor.specs.Limits.{max_variables, max_factors, max_keys}
use Rattle.slots.specs.Limits.{numbers_per_head}
use Rattle.slots.specs.Layouts.{dim_of, layout_of, Listed}
use Rattle.slots.specs.Tables.{rows_by_all}
use Rattle.slots.specs.Fitting.{Counted}
use Rattle.gaussian.specs.Elimination.{message_rows}
use Rattle.lists.specs.declared.Lists.{Lists}
use Rattle.graph.specs.declared.refusal.Refusal.{Refusal}
use Rattle.graph.specs.declared.refusal.Refusal.TheVariants.{ClearedPivot, ResultNotFinite}
use Rattle.cholesky.specs.declared.Fault.{Fault}
use Rattle.cholesky.specs.declared.Fault.TheVariants.{Pivot, NotFinite}

-- no store of numbers is longer than this in any run, so that places fit a machine word
abbrev pub most_places : ℕ
most_places = 1000000

-- the largest place at which a pass may begin: its messages take fewer numbers than lie from there to `most_places`, so each place fits a word
abbrev pub most_start : ℕ
most_start = 100000

-- the lists of an elimination, out of the arrays that hold them
abbrev pub kept_of : Lists → List ℕ
kept_of l = take l.keeps l.kept

abbrev pub cleared_of : Lists → List ℕ
cleared_of l = take l.clears l.cleared

abbrev pub listed_slots : Lists → List ℕ
listed_slots l = take l.count l.slots

-- where the keys of the message of a number begin
abbrev pub keys_from : ℕ → ℕ
keys_from number = max_keys * max_factors + max_variables * (number - max_factors)

-- the rows of the message of these lists, by the heads of its slots
abbrev pub message_rows_by : (kept cleared slots sizes keys heads : List ℕ) → ℕ
message_rows_by kept cleared slots sizes keys heads = message_rows (rows_by_all (layout_of kept cleared sizes) keys heads slots (length slots)) (dim_of sizes kept)

-- what the placing of a message asks for
pub record Placeable (kept cleared slots sizes keys heads : List ℕ) (number start : ℕ) : Type 0 where
  pub kept_listed : Listed kept sizes
  pub cleared_listed : Listed cleared sizes
  pub counted : Counted keys heads slots
  pub above : max_factors ≤ number
  pub headed : numbers_per_head * number + 5 < length heads
  pub room : keys_from number + length kept ≤ length keys
  pub low : start ≤ most_places

-- why a message is refused
abbrev pub refusal_of : Fault → Refusal
refusal_of Pivot = ClearedPivot
refusal_of NotFinite = ResultNotFinite
