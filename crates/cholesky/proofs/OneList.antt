-- A solve in one list is the solve with a factor of its own, where the factor and the column are apart. Assumes nothing.
use Prim.Native.Nat.{ℕ, zero, suc, ◌+◌, ◌≤◌, ◌<◌}
use mathlib.Core.Path.{◌≡◌, refl, ap, ap₂}
use mathlib.Core.List.{List}
use native.Mathlib.Omega.{arith}
use lib.Ieee.{Float, binary64, mul, div}
use Rattle.matrix.specs.Views.{place, entry}
use Rattle.matrix.specs.Sums.{terms, deduct_of}
use Rattle.matrix.specs.Stores.{steps}
use Rattle.cholesky.specs.Solve.{solved_row, solve_lower, solve_lower_in}
use Rattle.matrix.specs.declared.View.{View}
use Rattle.matrix.proofs.Agreement.{deduct-same}
use Rattle.matrix.proofs.Entries.{steps_other}

-- two ways to make the stores agree where they agree on the lists that are met
pub steps_frame : (at : ℕ → ℕ) (f g : ℕ → List Float → Float) (s : List Float) (n : ℕ)
    → ((i : ℕ) → i < n → f i (steps at g s i) ≡ g i (steps at g s i)) → steps at f s n ≡ steps at g s n
unfolding steps
steps_frame at f g s zero h = refl
steps_frame at f g s (suc n) h = rw (steps_frame at f g s n (λ i l. h i (omega arith)), h n (omega arith))

-- a row of a solve reads its own row of the factor alone
pub row_frame : (l m : List Float) (lv : View) (i : ℕ) (x : List Float) (xv : View) (c : ℕ) → ((k : ℕ) → k ≤ i → entry l lv i k ≡ entry m lv i k)
    → solved_row l lv i x xv c 0 i ≡ solved_row m lv i x xv c 0 i
unfolding solved_row deduct_of
row_frame l m lv i x xv c h =
    ap₂ (div binary64)
    (deduct-same (entry x xv i c) (λ k. terms l lv i x xv c (0 + k)) (λ k. terms m lv i x xv c (0 + k)) i
    (λ k p. ap (λ (y : Float). mul binary64 y (entry x xv (0 + k) c)) (h (0 + k) (omega arith))))
    (h i (omega arith))

pub solve-apart : (lv xv : View) (c : ℕ) (x : List Float) (n : ℕ) → ((i k j : ℕ) → i < n → k ≤ i → j < n → place xv j c ≡ place lv i k → ⊥)
    → solve_lower_in lv xv c x n ≡ solve_lower x lv xv c x n
unfolding solve_lower_in solve_lower
solve-apart lv xv c x n h =
    steps_frame (λ i. place xv i c) (λ i t. solved_row t lv i t xv c 0 i) (λ i t. solved_row x lv i t xv c 0 i) x n
    (λ i p. row_frame (steps (λ i. place xv i c) (λ i t. solved_row x lv i t xv c 0 i) x i) x lv i _ xv c
    (λ k q. steps_other (λ i. place xv i c) (λ i t. solved_row x lv i t xv c 0 i) x (place lv i k) i (λ j r. h i k j p q (omega arith))))
