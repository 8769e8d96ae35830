-- The answer and the work store after one branch: a refused pivot, a message that is not finite, or the message. Assumes nothing.
use Prim.Native.Nat.{ℕ}
use mathlib.Core.Path.{◌≡◌, refl}
use mathlib.Core.Bool.{Bool, true, false}
use mathlib.Core.List.{List, ◌++◌}
use native.Mathlib.Omega.{arith}
use lib.ListN.{length}
use lib.Ieee.{Float}
use Rattle.matrix.specs.Views.{part}
use Rattle.matrix.specs.Finite.{all_finite}
use Rattle.std.specs.Prelude.{Ok, Err}
use Rattle.cholesky.specs.declared.Fault.{Fault}
use Rattle.cholesky.specs.declared.Fault.TheVariants.{Pivot, NotFinite}
use Rattle.workspace.specs.Sums.{Sums}
use Rattle.workspace.specs.Frames.{frame_of}
use Rattle.workspace.specs.declared.Frame.{Frame}
use Rattle.workspace.proofs.Parts.{part_join}
use Rattle.slots.specs.Views.{FactorView, with_views}
use Rattle.slots.specs.declared.Branch.{Branch}
use Rattle.slots.specs.declared.layout.Layout.{Layout}
use Rattle.gaussian.specs.Elimination.{Ended, refused, done, begun, factorised, outcome, in_branch, numbers_in}
use Rattle.gaussian.specs.Answers.{ended_as, finished_as, eliminated_as, left_in}
use Rattle.workspace.specs.Parts.{FrameLaid, matrices_in}

-- the sums from those before the first factor
pub views-from : (branch : Branch) (f : Frame) (m : Layout) (view : ℕ → FactorView) (n : ℕ) (σ₀ : Sums) → σ₀ ≡ begun branch f → (σ₁ : Sums) → σ₁
    ≡ with_views branch f m view σ₀ n → σ₁ ≡ with_views branch f m view (begun branch f) n
views-from branch f m view n σ₀ e σ₁ g = rw e at g

module _ (branch : Branch) (f : Frame) (m : Layout) (view : ℕ → FactorView) (n : ℕ) (σ : Sums) (es : σ ≡ with_views branch f m view (begun branch f) n)
  where
    refused-is : (t : List Float) (why : Fault) (e : Ended) → Err why ≡ finished_as e
        → (Err why ≡ eliminated_as (outcome f.rows e)) × (left_in f.cleared f.kept t (outcome f.rows e) ≡ numbers_in (outcome f.rows e))
    unfolding outcome finished_as eliminated_as left_in numbers_in
    refused-is t why (done σ) e = absurd cc
    refused-is t why refused e = let w : why ≡ Pivot = cc in (rw w refl, refl)

    pub pivot-is : (t : List Float) (why : Fault) → Err why ≡ finished_as (factorised branch f σ)
        → (Err why ≡ eliminated_as (in_branch branch f m view n)) × (left_in f.cleared f.kept t (in_branch branch f m view n)
        ≡ numbers_in (in_branch branch f m view n))
    unfolding in_branch
    pivot-is t why e = rw (← es) (refused-is t why (factorised branch f σ) e)

    module _ (t : List Float) (ld : FrameLaid f (length t)) (ef : factorised branch f σ ≡ ended_as (Ok tt) (matrices_in f t)) (b : Bool)
        (eb : b ≡ all_finite (part t f.a f.end)) where
      done-is : factorised branch f (with_views branch f m view (begun branch f) n) ≡ done (matrices_in f t)
      unfolding ended_as
      done-is = rw (← es, ef)

      -- A, xi and W stand one after the other
      in_order : part t f.a f.xi ++ (part t f.xi f.w ++ part t f.w f.end) ≡ part t f.a f.end
      in_order =
          rw (part_join t f.xi f.w f.end (omega arith) (omega arith)) (part_join t f.a f.xi f.end (omega arith) (omega arith))

      -- the frame is the one of its dimensions
      a_at : (frame_of f.cleared f.rows f.kept).a ≡ f.a
      unfolding frame_of
      a_at = omega arith

      end-at : (frame_of f.cleared f.rows f.kept).end ≡ f.end
      unfolding frame_of
      end-at = omega arith

      pub unbounded_is : b ≡ false → (Err NotFinite ≡ eliminated_as (in_branch branch f m view n)) ×
          (left_in f.cleared f.kept t (in_branch branch f m view n) ≡ numbers_in (in_branch branch f m view n))
      unfolding in_branch outcome eliminated_as left_in numbers_in
      unbounded_is h = rw (done-is, in_order, ← eb, h) (refl, refl)

      pub message-is : b ≡ true → (Ok f.rows ≡ eliminated_as (in_branch branch f m view n)) ×
          (left_in f.cleared f.kept t (in_branch branch f m view n) ≡ numbers_in (in_branch branch f m view n))
      unfolding in_branch outcome eliminated_as left_in numbers_in
      message-is h = rw (done-is, in_order, ← eb, h, in_order, a_at, end-at) (refl, refl)
