-- The branch that the rows choose is the definition's, and what is asked for holds in it. Assumes nothing.
use Prim.Native.Nat.{ℕ, ◌+◌, ◌-◌, ◌≤◌, ◌<◌}
use mathlib.Core.Path.{◌≡◌, ap, ◌∙◌, sym, subst}
use mathlib.Core.List.{List}
use native.Mathlib.Omega.{arith}
use lib.ListN.{length, get_or}
use lib.Ieee.{Float}
use Rattle.matrix.specs.Views.{part, splice}
use Rattle.workspace.specs.Frames.{frame_of, work_numbers}
use Rattle.workspace.specs.declared.Frame.{Frame}
use Rattle.workspace.proofs.Cuts.{frame_laid}
use Rattle.factor.specs.Limits.{max_total}
use Rattle.slots.specs.Limits.{scratch_numbers}
use Rattle.slots.specs.Views.{rows_of_all, factor_numbers}
use Rattle.slots.specs.Tables.{head_of, view_at, rows_by_all}
use Rattle.slots.specs.Fitting.{SlotReady}
use Rattle.slots.specs.declared.Branch.{Branch}
use Rattle.slots.specs.declared.Branch.TheVariants.{X}
use Rattle.slots.specs.declared.layout.Layout.{Layout}
use Rattle.gaussian.specs.Elimination.{branch_of, rows_for, message_rows, Outcome, in_branch, branched, numbers_in}
use Rattle.gaussian.specs.Answers.{eliminated_as, left_in, branched_at}
use Rattle.gaussian.specs.Asked.{SlotsAsked, frame_for}
use Rattle.std.specs.Prelude.{Result}
use Rattle.cholesky.specs.declared.Fault.{Fault}

-- the rows of a message, once its branch is known
pub rows_in_lem : {branch : Branch} (y d : ℕ) → branch_of y d ≡ branch → rows_for branch y d ≡ message_rows y d
rows_in_lem y d e = rw (← e)

-- the same dimensions and the same outcome
pub left-same : (u v d e : ℕ) (t : List Float) (o p : Outcome) → u ≡ v → d ≡ e → o ≡ p → left_in u d t o ≡ numbers_in o → left_in v e t p ≡ numbers_in p
left-same u v d e t o p eu ed eo h = rw (eu, ed, eo) at h

module _ {u d : ℕ} {m : Layout} {factors messages : List Float} {work : ℕ} {keys heads slots : List ℕ}
    (q : SlotsAsked u d m factors messages work keys heads slots)
    {y r : ℕ} {branch : Branch} {f : Frame} (ey : y ≡ rows_by_all m keys heads slots (length slots)) (eb : branch ≡ branch_of y d)
    (er : r ≡ message_rows y d) (ef : f ≡ frame_of u r d) where
  same_branch : branch_of (rows_by_all m keys heads slots (length slots)) d ≡ branch
  same_branch = rw (← ey) (sym eb)

  same_f : frame_for u d (rows_by_all m keys heads slots (length slots)) ≡ f
  same_f = rw (← ey, ef, er)

  pub ready-is : (i : ℕ) → i < length slots → SlotReady f m branch (rows_of_all m (view_at factors messages keys heads slots) i) factors messages keys
      scratch_numbers (head_of heads (get_or slots i 0))
  ready-is i h =
      subst (λ (g : Frame). SlotReady g m branch (rows_of_all m (view_at factors messages keys heads slots) i) factors messages keys scratch_numbers
      (head_of heads (get_or slots i 0))) same_f
      (subst (λ (b : Branch). SlotReady (frame_for u d (rows_by_all m keys heads slots (length slots))) m b
      (rows_of_all m (view_at factors messages keys heads slots) i) factors messages keys scratch_numbers (head_of heads (get_or slots i 0))) same_branch
      (q.ready i h))

  run_is : in_branch branch f m (view_at factors messages keys heads slots) (length slots) ≡ branched_at u d m factors messages keys heads slots
  unfolding branched_at branched
  run_is = rw (← q.rows, ← same_branch, ← same_f)

  cleared-is : f.cleared ≡ u
  unfolding frame_of
  cleared-is = rw ef

  kept-is : f.kept ≡ d
  unfolding frame_of
  kept-is = rw ef

  pub branch_is : (a : Result ℕ Fault) (t : List Float) → a ≡ eliminated_as (in_branch branch f m (view_at factors messages keys heads slots) (length slots))
      → left_in f.cleared f.kept t (in_branch branch f m (view_at factors messages keys heads slots) (length slots))
      ≡ numbers_in (in_branch branch f m (view_at factors messages keys heads slots) (length slots))
      → (a ≡ eliminated_as (branched_at u d m factors messages keys heads slots)) ×
      (left_in u d t (branched_at u d m factors messages keys heads slots) ≡ numbers_in (branched_at u d m factors messages keys heads slots))
  branch_is a t ea et = (ea ∙ ap eliminated_as run_is, left-same _ _ _ _ t _ _ cleared-is kept-is run_is et)

-- in x there are as many rows as kept columns
pub frame_square : (u d y r : ℕ) (branch : Branch) (f : Frame) → branch ≡ branch_of y d → r ≡ message_rows y d → f ≡ frame_of u r d → branch ≡ X
    → f.rows ≡ f.kept
unfolding frame_of
frame_square u d y r branch f eb er ef e = rw (ef, er, ← eb, e)

-- ---- where the message stands in the work store

-- the frame's end by the message's rows and columns, and within any work store
pub record Spans (r d : ℕ) (f : Frame) : Type 0 where
  pub ends : f.end ≡ f.a + factor_numbers r d
  pub within : f.end ≤ work_numbers

pub spans : (u r d : ℕ) (f : Frame) → f ≡ frame_of u r d → u + d ≤ max_total → r ≤ d → Spans r d f
unfolding frame_of
spans u r d f e s h = rw e (record { ends = omega arith; within = (frame_laid u r d work_numbers s h (omega arith)).fits })

span_is : (u r d : ℕ) (f : Frame) → f ≡ frame_of u r d → f.end - f.a ≡ factor_numbers r d
unfolding frame_of
span_is u r d f e = rw e (omega arith)

pub sent_is : (u r d to e : ℕ) (f : Frame) (l t x : List Float) → f ≡ frame_of u r d → e ≡ to + (f.end - f.a) → x ≡ part t f.a f.end
    → splice l to e x ≡ splice l to (to + factor_numbers r d) (part t (frame_of u r d).a (frame_of u r d).end)
sent_is u r d to e f l t x ef ee ex = let g : e ≡ to + factor_numbers r d = ee ∙ ap (λ (k : ℕ). to + k) (span_is u r d f ef) in rw (ex, g, ef)
