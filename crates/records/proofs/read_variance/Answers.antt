-- `records::read_variance` meets its contract: zeros whose diagonal is filled with x are x on the diagonal and 0 elsewhere. Assumes nothing.
use Prim.Native.Nat.{ℕ, ◌*◌, ◌/◌, ◌%◌, ◌<◌}
use mathlib.Core.Path.{◌≡◌, refl, sym, ap, ◌∙◌}
use mathlib.Core.List.{List}
use native.Mathlib.Decide.{ℕ_discrete}
use native.Mathlib.Omega.{arith}
use lib.Ieee.{Float, nan, of_bits}
use lib.ListN.{length, replicate, length-replicate, get_or-replicate}
use lib.Seq.{ext_get_or}
use Rattle.matrix.specs.Views.{place, entry, Apart, columns}
use Rattle.matrix.specs.Sums.{plus_zero}
use Rattle.matrix.specs.Triangles.{filled_diagonal, diagonal_of}
use Rattle.matrix.proofs.Dense.{dense, whole-at}
use Rattle.matrix.proofs.Diagonal.{on_diagonal, same_place, other_place, diagonal-length, diagonal-at}
use Rattle.matrix.proofs.Entries.{apart, steps-length, steps-at, steps_other}
use Rattle.records.proofs.read_variance.Goals as goal

module _ (x : Float) (n : ℕ) where
  abbrev made : List Float
  made = filled_diagonal (columns n) x (replicate (n * n) plus_zero) n

  separate : Apart (columns n) n n
  separate = apart (columns n) n n refl (omega arith)

  made-length : length made ≡ n * n
  unfolding filled_diagonal
  made-length = steps-length (λ d. place (columns n) d d) (λ d t. x) (replicate (n * n) plus_zero) n ∙ length-replicate (n * n) plus_zero

  made-entry : (i j : ℕ) → i < n → j < n → entry made (columns n) i j ≡ on_diagonal x i j
  unfolding filled_diagonal
  made-entry i j hi hj = go (ℕ_discrete i j)
    where
      inside : place (columns n) i j < n * n
      inside = dense n n (n * n) (omega arith) i j hi hj

      go : Dec (i ≡ j) → entry made (columns n) i j ≡ on_diagonal x i j
      go (yes e) =
          rw (← e)
          (steps-at (λ d. place (columns n) d d) (λ d t. x) (replicate (n * n) plus_zero) i n
          (λ d l m f. let w = separate d d i i m m hi hi f in omega (arith, w.0)) hi (rw length-replicate (dense n n (n * n) (omega arith) i i hi hi)) ∙ sym (same_place x i))
      go (no h) =
          steps_other (λ d. place (columns n) d d) (λ d t. x) (replicate (n * n) plus_zero) (place (columns n) i j) n
          (λ d l f. let w = separate d d i j l l hi hj f in h (sym w.0 ∙ w.1))
          ∙ get_or-replicate (n * n) (place (columns n) i j) plus_zero nan inside ∙ sym (other_place x i j h)

  pub made-is : made ≡ diagonal_of x n
  made-is =
      ext_get_or nan made (diagonal_of x n) (made-length ∙ sym (diagonal-length x n))
      (λ k l. let h : k < n * n = omega (arith, made-length) in
      let w = whole-at n n k h in
      (rw w.3 at (made-entry (k % n) (k / n) w.1 w.2)) ∙ sym (diagonal-at x n k h))

pub returns-in-Diagonal : goal.returns-in-Diagonal
unfolding of_bits
returns-in-Diagonal c =
    let n = c.args.rows in
    let x = c.in-Diagonal.x in
    rw c.in-Diagonal.is
    (c.fill_diagonal.ensures
    ∙ ap (λ (s : List Float). filled_diagonal (columns n) x s n) (c.fill.ensures.after (λ y e. e) ∙ ap (λ (m : ℕ). replicate m plus_zero) c.requires.square.1)
    ∙ made-is x n)
