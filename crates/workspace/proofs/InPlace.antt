-- A solve within one list is that on its parts, where the parts are apart. Assumes nothing.
use Prim.Native.Nat.{ℕ, ◌+◌, ◌-◌, ◌*◌, ◌≤◌, ◌<◌}
use mathlib.Core.Path.{◌≡◌, ap, ap₂, ◌∙◌, sym, subst}
use mathlib.Core.List.{List, ◌++◌}
use native.Mathlib.Omega.{arith}
use lib.ListN.{length, get_or, take, drop}
use lib.Ieee.{Float, binary64, mul, div, nan}
use Rattle.matrix.specs.Views.{place, entry, columns, part, splice}
use Rattle.matrix.specs.Sums.{terms, deduct, deduct_of}
use Rattle.matrix.specs.Stores.{sweep}
use Rattle.matrix.specs.declared.View.{View}
use Rattle.matrix.proofs.Agreement.{deduct-same}
use Rattle.matrix.proofs.Entries.{steps-length}
use Rattle.matrix.proofs.Dense.{dense}
use Rattle.cholesky.specs.Solve.{solved_row, solve_lower, solve_lower_in}
use Rattle.workspace.specs.Blocks.{solved_columns, solved_in}
use Rattle.workspace.specs.Parts.{FrameLaid, part_from, part_to}
use Rattle.workspace.specs.declared.Part.{Part}
use Rattle.workspace.specs.declared.Frame.{Frame}
use Rattle.workspace.proofs.Parts.{length_part, get_d_part, splice-below, splice_in, splice-part, steps-part, sweep-part, part_first, part_drop, splice_drop}
use Rattle.workspace.proofs.Cuts.{bounds}

-- the view of n rows that begins at place p
abbrev pub start : ℕ → ℕ → View
start p n = record { at = p; down = 1; across = n }

row_same : (l l' : List Float) (lv lv' : View) (i : ℕ) (x x' : List Float) (xv xv' : View) (c : ℕ)
    → ((k : ℕ) → k ≤ i → entry l lv i k ≡ entry l' lv' i k) → ((k : ℕ) → k ≤ i → entry x xv k c ≡ entry x' xv' k c)
    → solved_row l lv i x xv c 0 i ≡ solved_row l' lv' i x' xv' c 0 i
unfolding solved_row deduct_of
row_same l l' lv lv' i x x' xv xv' c hl hx =
    ap₂ (div binary64)
    (ap (λ (v : Float). deduct v (λ k. terms l lv i x xv c (0 + k)) i) (hx i (omega arith))
    ∙ deduct-same (entry x' xv' i c) (λ k. terms l lv i x xv c (0 + k)) (λ k. terms l' lv' i x' xv' c (0 + k)) i
    (λ k p. ap₂ (mul binary64) (hl (0 + k) (omega arith)) (hx (0 + k) (omega arith))))
    (hl i (omega arith))

-- an entry of a dense matrix that stands before the part that is changed
before : (x : List Float) (p q : ℕ) (t : List Float) (a b n i j : ℕ) → p ≤ q → q ≤ length x → length t ≡ q - p → b ≤ p → 0 + i * 1 + j * n < b - a
    → entry (splice x p q t) (start a n) i j ≡ entry (part x a b) (columns n) i j
before x p q t a b n i j pq qx lt ab h =
    splice-below x p q t pq qx lt (a + i * 1 + j * n) (omega arith)
    ∙ ap (λ (k : ℕ). get_or x k nan) (omega arith)
    ∙ sym (get_d_part x a b (0 + i * 1 + j * n) h)

-- an entry of the part that is changed
inside : (x : List Float) (p q : ℕ) (t : List Float) (n i j : ℕ) → p ≤ q → q ≤ length x → length t ≡ q - p → 0 + i * 1 + j * n < q - p
    → entry (splice x p q t) (start p n) i j ≡ entry t (columns n) i j
inside x p q t n i j pq qx lt h =
    ap (λ (k : ℕ). get_or (splice x p q t) k nan) (omega arith) ∙ splice_in x p q t pq qx lt (0 + i * 1 + j * n) h

-- place (i, j) of n rows and w columns
spot : (n w i j len : ℕ) → n * w ≤ len → i < n → j < w → 0 + i * 1 + j * n < len
spot n w i j len h hi hj = dense n w len h i j hi hj

pub solved-part : (x : List Float) (a b p q n w : ℕ) → b ≤ p → p ≤ q → q ≤ length x → n * n ≤ b - a → n * w ≤ q - p
    → solved_in (start a n) n (start p n) x w ≡ splice x p q (solved_columns (part x a b) n (part x p q) w)
unfolding solved_in solved_columns solve_lower solve_lower_in
solved-part x a b p q n w bp pq qx hl hx =
    subst (λ (y : List Float). sweep (λ j t. solve_lower_in (start a n) (start p n) j t n) y w
    ≡ splice x p q (solved_columns (part x a b) n (part x p q) w)) (splice-part x p q)
    (sweep-part x p q (λ j t. solve_lower_in (start a n) (start p n) j t n) (λ j t. solve_lower (part x a b) (columns n) (columns n) j t n) w
    (part x p q) (length_part x p q qx)
    (λ j t. steps-length (λ i. place (columns n) i j) (λ i u. solved_row (part x a b) (columns n) i u (columns n) j 0 i) t n)
    (λ j hj t lt.
    steps-part x p q (λ i. place (start p n) i j) (λ i. place (columns n) i j) (λ i u. solved_row u (start a n) i u (start p n) j 0 i)
    (λ i u. solved_row (part x a b) (columns n) i u (columns n) j 0 i) n pq qx
    (λ i hi. omega arith) (λ i hi. spot n w i j (q - p) hx hi hj) t lt
    (λ i hi u lu. row_same (splice x p q u) (part x a b) (start a n) (columns n) i (splice x p q u) u (start p n) (columns n) j
    (λ k hk. before x p q u a b n i k pq qx lu bp (spot n n i k (b - a) hl hi (omega arith)))
    (λ k hk. inside x p q u n k j pq qx lu (spot n w k j (q - p) hx (omega arith) hj)))))

-- the work store, cut behind S, with m columns of one part of the rest solved, is the store solved in one list
pub one-list : (f : Frame) (t lo hi x : List Float) (which : Part) (m p q : ℕ) → FrameLaid f (length t) → f.h ≤ part_from f which
    → f.cleared * m ≤ part_to f which - part_from f which → lo ≡ take f.h t → hi ≡ drop f.h t → p ≡ part_from f which - f.h → q ≡ part_to f which - f.h
    → x ≡ solved_columns lo f.cleared (part hi p q) m
    → lo ++ splice hi p q x ≡ solved_in (columns f.cleared) f.cleared (start (part_from f which) f.cleared) t m
one-list f t lo hi x which m p q l low fit el eh ep eq ex =
    let b = bounds l which in
    rw (
      ex,
      el,
      eh,
      ep,
      eq,
      splice_drop t f.h (part_from f which) (part_to f which) (solved_columns (take f.h t) f.cleared
          (part (drop f.h t) (part_from f which - f.h) (part_to f which - f.h)) m) low,
      part_drop t f.h (part_from f which) (part_to f which) low,
      part_first t f.h,
    )
    (sym (solved-part t 0 f.h (part_from f which) (part_to f which) f.cleared m low b.0 b.1 (omega arith) fit))
