-- What the checks of a direct elimination come to, one after the other. Assumes nothing.
use Prim.Native.Nat.{ℕ, ◌≤◌, ◌<◌}
use mathlib.Core.Path.{◌≡◌, refl, sym, ap, ◌∙◌}
use mathlib.Core.Bool.{Bool, true, false, not, cond}
use mathlib.Core.List.{List, [], ◌∷◌}
use native.Mathlib.Omega.{arith}
use borrow.Author.Tests.{leb-true, le-leb, lt-leb}
use lib.Dec.{leb}
use lib.Ieee.{Float}
use lib.ListN.{length}
use Rattle.factor.specs.Counting.{every}
use Rattle.graph.specs.Record.{offset, valid}
use Rattle.graph.specs.declared.Graph.{Graph}
use Rattle.graph.specs.declared.refusal.Refusal.{Refusal}
use Rattle.graph.specs.declared.refusal.Refusal.TheVariants.{StoreShort}
use Rattle.workspace.specs.Frames.{work_numbers}
use Rattle.gaussian.specs.Elimination.{eliminate}
use Rattle.direct.specs.Direct.{list_counts_fit, lists_fit, all_known, all_placed, views, direct_need, DirectVerdict, refuse, verdict_on, direct_verdict}
use Rattle.direct.specs.Between.{early, Admitted}
use Rattle.std.specs.Prelude.{Result, Ok, Err}

-- ---- what they tell

-- a stop of the early checks is the verdict's refusal, check by check
abbrev Alike : Result (Unit {0}) Refusal → DirectVerdict → Type 0
Alike x v = (why : Refusal) → Err why ≡ x → v ≡ refuse why

alike : (b : Bool) (w : Refusal) (x : Result (Unit {0}) Refusal) (v : DirectVerdict) → Alike x v → Alike (cond (not b) (Err w) x) (cond (not b) (refuse w) v)
alike true w x v h = h
alike false w x v h = λ why e. let a : why ≡ w = cc in ap refuse (sym a)

never : (v : DirectVerdict) → Alike (Ok tt) v
never v why e = absurd (let z : ◌≡◌ {A = ℕ} 0 1 = cc in omega arith)

-- and where they pass, each of them holds
case : (A : Type 0) (b : Bool) (w : Refusal) (x : Result (Unit {0}) Refusal) → (b ≡ true → Ok tt ≡ x → A) → Ok tt ≡ cond (not b) (Err w) x → A
case A true w x h e = h refl e
case A false w x h e = absurd (let z : ◌≡◌ {A = ℕ} 0 1 = cc in omega arith)

module _ (g : Graph) (slots kept cleared : List ℕ) (factors : List Float) where
  pub stopped : (room work : ℕ) (why : Refusal) → Err why ≡ early g slots kept cleared factors
      → direct_verdict g slots kept cleared factors room work ≡ refuse why
  unfolding early direct_verdict
  stopped room work =
      alike (valid g) _ _ _ (alike (list_counts_fit slots kept cleared) _ _ _ (alike (lists_fit kept cleared) _ _ _ (alike (all_known g slots kept cleared) _ _ _
      (alike (all_placed g slots kept cleared) _ _ _ (alike (leb (offset g g.count) (length factors)) _ _ _ (never _))))))

  pub admitted : Ok tt ≡ early g slots kept cleared factors → Admitted g slots kept cleared factors
  unfolding early
  admitted =
      case _ (valid g) _ _ (λ h30. case _ (list_counts_fit slots kept cleared) _ _
      (λ h4. case _ (lists_fit kept cleared) _ _ (λ h9. case _ (all_known g slots kept cleared) _ _
      (λ h11. case _ (all_placed g slots kept cleared) _ _ (λ h0. case _ (leb (offset g g.count) (length factors)) _ _
      (λ h13 e. record { reached = h30; few = h4; apart = h9; there = h11; placed = h0; stored = leb-true _ _ h13 }))))))

  -- ---- the rest of the verdict

  module _ (ok : Admitted g slots kept cleared factors) (room work : ℕ) where
    late : direct_verdict g slots kept cleared factors room work
        ≡ cond (not (every (leb (direct_need g kept cleared (views g slots factors)) room ∷ leb work_numbers work ∷ []))) (refuse StoreShort)
        (verdict_on (eliminate (views g slots factors) kept cleared g.sizes))
    unfolding direct_verdict
    late = rw (ok.reached, ok.few, ok.apart, ok.there, ok.placed, le-leb _ _ ok.stored)

    pub no_room : room < direct_need g kept cleared (views g slots factors) → direct_verdict g slots kept cleared factors room work ≡ refuse StoreShort
    unfolding every
    no_room l = late ∙ rw (lt-leb _ _ l)

    module _ (h14 : direct_need g kept cleared (views g slots factors) ≤ room) where
      pub no_work : work < work_numbers → direct_verdict g slots kept cleared factors room work ≡ refuse StoreShort
      unfolding every
      no_work l = late ∙ rw (le-leb _ _ h14, lt-leb _ _ l)

      pub sends : work_numbers ≤ work → direct_verdict g slots kept cleared factors room work
          ≡ verdict_on (eliminate (views g slots factors) kept cleared g.sizes)
      unfolding every
      sends l = late ∙ rw (le-leb _ _ h14, le-leb _ _ l)
