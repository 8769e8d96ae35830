-- What a direct elimination answers, and what the message store then holds: document 01, "Elimination" and "Checks in order". Definitions only.
use Rattle.std.specs.Prelude.{ℕ, Bool, not, cond, ◌||◌, List, [], ◌∷◌, ◌++◌, map, leb, Float, length, get_or, drop, Result, Ok, Err}
use Rattle.factor.specs.Limits.{max_variables}
use Rattle.factor.specs.Counting.{every, all}
use Rattle.factor.specs.Factor.{key_at, rising, known}
use Rattle.factor.specs.declared.Factor.{Factor}
use Rattle.graph.specs.Record.{factor_at, offset, valid}
use Rattle.graph.specs.declared.Graph.{Graph}
use Rattle.graph.specs.declared.refusal.Refusal.{Refusal}
use Rattle.graph.specs.declared.refusal.Refusal.TheVariants.{NeitherKeptNorCleared, CountOutside, KeptAndCleared, NoSuchKey, FactorStoreShort}
use Rattle.graph.specs.declared.refusal.Refusal.TheVariants.{StoreShort, ClearedPivot, ResultNotFinite, NoSuchGraph}
use Rattle.workspace.specs.Frames.{work_numbers}
use Rattle.slots.specs.Limits.{max_slots}
use Rattle.slots.specs.Layouts.{member, dim_of, layout_of}
use Rattle.slots.specs.Views.{FactorView, rows_of_all, factor_numbers}
use Rattle.gaussian.specs.Elimination.{message_rows, Outcome, pivot, not_finite, message, nth, eliminate}
use Rattle.tables.specs.Originals.{original_view}

-- ---- the checks

-- 4: at most 128 slots, and at most 32 keys a list
unfoldable pub list_counts_fit : (slots kept cleared : List ℕ) → Bool
list_counts_fit slots kept cleared = every (leb (length slots) max_slots ∷ leb (length kept) max_variables ∷ leb (length cleared) max_variables ∷ [])

-- 9: both lists strictly rising, and no key in both
unfoldable pub disjoint : (kept cleared : List ℕ) → Bool
disjoint kept cleared = all (λ i. not (member (get_or kept i 0) cleared)) (length kept)

unfoldable pub lists_fit : (kept cleared : List ℕ) → Bool
lists_fit kept cleared = every (rising kept ∷ rising cleared ∷ disjoint kept cleared ∷ [])

-- 11: all keys registered, and all slots factors of the graph
unfoldable pub all_known : (g : Graph) (slots kept cleared : List ℕ) → Bool
all_known g slots kept cleared = every (known g.variables kept ∷ known g.variables cleared ∷ known g.count slots ∷ [])

-- 0: each key of a listed factor is cleared or kept
unfoldable pub factor_placed : (kept cleared : List ℕ) (f : Factor) → Bool
factor_placed kept cleared f = all (λ j. member (key_at f j) cleared || member (key_at f j) kept) f.touched

unfoldable pub all_placed : (g : Graph) (slots kept cleared : List ℕ) → Bool
all_placed g slots kept cleared = all (λ i. factor_placed kept cleared (factor_at g (get_or slots i 0))) (length slots)

-- the listed factors in their order, one listed twice standing twice
unfoldable pub views : (g : Graph) (slots : List ℕ) (factors : List Float) → List FactorView
views g slots factors = map (original_view g factors) slots

-- 14: how many numbers the message has, by the rows of the views and the kept dimension
unfoldable pub direct_need : (g : Graph) (kept cleared : List ℕ) (vs : List FactorView) → ℕ
direct_need g kept cleared vs =
    let d = dim_of g.sizes kept in
    factor_numbers (message_rows (rows_of_all (layout_of kept cleared g.sizes) (nth vs) (length vs)) d) d

-- ---- the verdict

-- a message of so many rows, or a refusal
pub data DirectVerdict : Type 0 where
  send : ℕ → List Float → DirectVerdict
  refuse : Refusal → DirectVerdict

-- 15 and 17; a message stands as A, xi, W
unfoldable pub verdict_on : Outcome → DirectVerdict
verdict_on pivot = refuse ClearedPivot
verdict_on not_finite = refuse ResultNotFinite
verdict_on (message r a xi w) = send r (a ++ (xi ++ w))

-- the checks in their order, over the lists, the factor store, and the lengths of the message store and the work store
unfoldable pub direct_verdict : (g : Graph) (slots kept cleared : List ℕ) (factors : List Float) (room work : ℕ) → DirectVerdict
direct_verdict g slots kept cleared factors room work =
    cond (not (valid g)) (refuse NoSuchGraph)
    (cond (not (list_counts_fit slots kept cleared)) (refuse CountOutside)
    (cond (not (lists_fit kept cleared)) (refuse KeptAndCleared)
    (cond (not (all_known g slots kept cleared)) (refuse NoSuchKey)
    (cond (not (all_placed g slots kept cleared)) (refuse NeitherKeptNorCleared)
    (cond (not (leb (offset g g.count) (length factors))) (refuse FactorStoreShort)
    (cond (not (every (leb (direct_need g kept cleared (views g slots factors)) room ∷ leb work_numbers work ∷ []))) (refuse StoreShort)
    (verdict_on (eliminate (views g slots factors) kept cleared g.sizes))))))))

-- ---- the answer and the store

-- no rows are an answer too
unfoldable pub direct_answer : DirectVerdict → Result ℕ Refusal
direct_answer (send rows numbers) = Ok rows
direct_answer (refuse why) = Err why

-- a message stands at the start, and the rest is as it was; a refusal leaves the whole
unfoldable pub direct_store : List Float → DirectVerdict → List Float
direct_store store (send rows numbers) = numbers ++ drop (length numbers) store
direct_store store (refuse why) = store
