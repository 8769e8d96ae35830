-- Inner: what the functions of a direct elimination tell each other.
use Rattle.std.specs.Prelude.{ℕ, ◌≤◌, ◌≡◌, true, not, cond, List, leb, Float, length, Result, Ok, Err}
use Rattle.cholesky.specs.declared.Fault.{Fault}
use Rattle.cholesky.specs.declared.Fault.TheVariants.{Pivot, NotFinite}
use Rattle.graph.specs.Record.{offset, valid}
use Rattle.graph.specs.declared.Graph.{Graph}
use Rattle.graph.specs.declared.refusal.Refusal.{Refusal}
use Rattle.graph.specs.declared.refusal.Refusal.TheVariants.{NeitherKeptNorCleared, CountOutside, KeptAndCleared, NoSuchKey, FactorStoreShort, NoSuchGraph}
use Rattle.graph.specs.declared.refusal.Refusal.TheVariants.{ClearedPivot, ResultNotFinite}
use Rattle.direct.specs.Direct.{list_counts_fit, lists_fit, all_known, all_placed}

-- the checks before 14, which look at no table
unfoldable pub early : (g : Graph) (slots kept cleared : List ℕ) (factors : List Float) → Result (Unit {0}) Refusal
early g slots kept cleared factors =
    cond (not (valid g)) (Err NoSuchGraph)
    (cond (not (list_counts_fit slots kept cleared)) (Err CountOutside)
    (cond (not (lists_fit kept cleared)) (Err KeptAndCleared)
    (cond (not (all_known g slots kept cleared)) (Err NoSuchKey)
    (cond (not (all_placed g slots kept cleared)) (Err NeitherKeptNorCleared)
    (cond (not (leb (offset g g.count) (length factors))) (Err FactorStoreShort)
    (Ok tt))))))

-- what they let through
pub record Admitted (g : Graph) (slots kept cleared : List ℕ) (factors : List Float) : Type 0 where
  pub reached : valid g ≡ true
  pub few : list_counts_fit slots kept cleared ≡ true
  pub apart : lists_fit kept cleared ≡ true
  pub there : all_known g slots kept cleared ≡ true
  pub placed : all_placed g slots kept cleared ≡ true
  pub stored : offset g g.count ≤ length factors

-- the refusal of an elimination that ended without a message
abbrev pub refusal_of : Fault → Refusal
refusal_of Pivot = ClearedPivot
refusal_of NotFinite = ResultNotFinite
