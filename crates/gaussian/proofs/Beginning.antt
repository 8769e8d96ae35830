-- A work store that is all zero holds the sums before the first factor. Assumes nothing.
use Prim.Native.Nat.{ℕ, ◌+◌, ◌-◌, ◌*◌, ◌≤◌, ◌<◌}
use mathlib.Core.Path.{◌≡◌, ap, ◌∙◌, sym}
use mathlib.Core.List.{List, ◌++◌}
use native.Mathlib.Omega.{arith}
use lib.ListN.{length, get_or, drop, replicate, length-replicate, get_or-replicate, length-append, length-drop, get_or-append}
use lib.Seq.{ext_get_or}
use lib.Ieee.{Float, nan}
use Rattle.matrix.specs.Views.{columns, part}
use Rattle.matrix.specs.Sums.{plus_zero, one}
use Rattle.matrix.specs.Triangles.{filled_diagonal}
use Rattle.workspace.specs.Sums.{Sums, change}
use Rattle.workspace.specs.declared.Frame.{Frame}
use Rattle.workspace.specs.declared.Part.TheVariants.{A}
use Rattle.workspace.proofs.Parts.{length_part, get_d_part}
use Rattle.slots.specs.declared.Branch.{Branch}
use Rattle.slots.specs.declared.Branch.TheVariants.{Z, X}
use Rattle.gaussian.specs.Elimination.{begun}
use Rattle.workspace.specs.Parts.{FrameLaid, matrices_in}

module _ (f : Frame) (w x : List Float) (l : FrameLaid f (length w)) (x_zero : x ≡ replicate f.end plus_zero) where
  abbrev t : List Float
  t = x ++ drop f.end w

  x_long : length x ≡ f.end
  x_long = ap length x_zero ∙ length-replicate f.end plus_zero

  t_long : length t ≡ length w
  t_long = simp (length-append, length-drop) (omega (arith, x_long, l.fits))

  at_zero : (k : ℕ) → k < f.end → get_or t k nan ≡ plus_zero
  at_zero k h =
      get_or-append x (drop f.end w) nan k (omega (arith, x_long)) ∙ ap (λ (y : List Float). get_or y k nan) x_zero ∙ get_or-replicate f.end k plus_zero nan h

  part-zero : (a b n : ℕ) → b ≤ f.end → b - a ≡ n → part t a b ≡ replicate n plus_zero
  part-zero a b n h g =
      let r : length (part t a b) ≡ n = length_part t a b (omega (arith, t_long, l.fits)) ∙ g in
      ext_get_or nan _ _ (r ∙ sym (length-replicate n plus_zero))
      (λ k b'. get_d_part t a b k (omega arith) ∙ at_zero (a + k) (omega arith) ∙ sym (get_or-replicate n k plus_zero nan (omega arith)))

  all-zero : matrices_in f t ≡ begun Z f
  unfolding begun
  all-zero =
      rw (
        part-zero 0 f.h (f.cleared * f.cleared) (omega arith) (omega arith),
        part-zero f.h f.g f.cleared (omega arith) (omega arith),
        part-zero f.g f.a (f.cleared * f.rows) (omega arith) (omega arith),
        part-zero f.a f.xi (f.rows * f.kept) (omega arith) (omega arith),
        part-zero f.xi f.w f.rows (omega arith) (omega arith),
        part-zero f.w f.end (f.rows * f.rows) (omega arith) (omega arith),
      )

  pub begun_z : (branch : Branch) → branch ≡ Z → matrices_in f t ≡ begun branch f
  begun_z branch ez = rw ez all-zero

  pub begun_x : (branch : Branch) (σ : Sums) → branch ≡ X → σ ≡ change A (λ c. filled_diagonal (columns f.rows) one c f.rows) (matrices_in f t) → σ
      ≡ begun branch f
  unfolding begun change
  begun_x branch σ ez es = rw ez (es ∙ ap (change A (λ c. filled_diagonal (columns f.rows) one c f.rows)) all-zero)
