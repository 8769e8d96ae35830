-- The turns of Cholesky's two loops: what a row, a column and a refused pivot make of the list. Assumes nothing.
use Prim.Native.Nat.{ℕ, zero, suc, ◌+◌, ◌-◌, ◌<◌}
use mathlib.Core.Path.{◌≡◌, refl, ap, ◌∙◌, subst}
use mathlib.Core.List.{List}
use native.Mathlib.Nat.{add-zero, add-suc}
use native.Mathlib.Omega.{arith}
use native.Mathlib.Numerals.{add-one}
use lib.ListN.{set}
use lib.Ieee.{Float, binary64, div}
use Rattle.std.proofs.Common.{Option, Some, None, Result, Err, ok_or}
use Rattle.matrix.specs.Views.{place, entry}
use Rattle.matrix.specs.Stores.{steps}
use Rattle.matrix.specs.declared.View.{View}
use Rattle.cholesky.specs.Factor.{pivot_of, whole, stuck, below, rooted, factor_column, factor, reduced}
use Rattle.cholesky.specs.declared.Fault.TheVariants.{Pivot}
use Rattle.cholesky.specs.declared.Fault.{Fault}
use Rattle.cholesky.specs.Answers.{factored_as, list_of}

-- column j of t after row i
row : List Float → View → ℕ → ℕ → List Float
row t v j i = set t (place v i j) (div binary64 (reduced t v i j) (entry t v j j))

row_is : (s t : List Float) (v : View) (j i : ℕ) (x p : Float) → x ≡ reduced s v i j → p ≡ entry s v j j → t ≡ set s (place v i j) (div binary64 x p)
    → row s v j i ≡ t
unfolding row
row_is s t v j i x p ex ep et = rw (et, ex, ep)

rooted_more : (v : View) (j : ℕ) (s t : List Float) (d : ℕ) (x : Option Float) → rooted v j s d x ≡ whole t → rooted v j s (suc d) x ≡ whole (row t v j (j + suc d))
unfolding rooted below steps row
rooted_more v j s t d (Some r) e = cc
rooted_more v j s t d None e = cc

column-more : (v : View) (j : ℕ) (s t : List Float) (d : ℕ) → factor_column v j d (whole s) ≡ whole t → factor_column v j (suc d) (whole s)
    ≡ whole (row t v j (j + suc d))
unfolding factor_column
column-more v j s t d e = rooted_more v j s t d (pivot_of (reduced s v j j) (entry s v j j)) e

-- once a pivot is refused, no later column changes anything
stays : (v : View) (n : ℕ) (s t : List Float) (j d : ℕ) → factor v n s j ≡ stuck t → factor v n s (j + d) ≡ stuck t
unfolding factor factor_column
stays v n s t j zero e = rw add-zero e
stays v n s t j (suc d) e = rw (add-suc, stays v n s t j d e)

-- the first turn of column j: the pivot's root is stored
pub first_turn : (v : View) (i j : ℕ) (s₀ s t : List Float) (x d r : Float) (q : Option Float) → i ≡ j → s ≡ s₀ → x ≡ reduced s v i j → d ≡ entry s v j j → q
    ≡ pivot_of x d → q ≡ Some r
    → t ≡ set s (place v i j) r → factor_column v j (i + 1 - suc j) (whole s₀) ≡ whole t
unfolding factor_column rooted below steps
first_turn v i j s₀ s t x d r q ij ss ex ed eq en et =
    let z : i + 1 - suc j ≡ 0 = omega arith in
    let e : pivot_of (reduced s₀ v j j) (entry s₀ v j j) ≡ Some r = cc in
    rw (z, e, et, ss, ij)

-- another turn: entry (i, j) is divided by the pivot
pub next_turn : (v : View) (i j : ℕ) (s₀ s t : List Float) (x p : Float) → j < i → factor_column v j (i - suc j) (whole s₀) ≡ whole s → x ≡ reduced s v i j
    → p ≡ entry s v j j
    → t ≡ set s (place v i j) (div binary64 x p) → factor_column v j (i + 1 - suc j) (whole s₀) ≡ whole t
next_turn v i j s₀ s t x p ji f ex ep et =
    let d : i + 1 - suc j ≡ suc (i - suc j) = omega arith in
    let k : j + suc (i - suc j) ≡ i = omega arith in
    let m : factor_column v j (suc (i - suc j)) (whole s₀) ≡ whole (row s v j (j + suc (i - suc j))) = column-more v j s₀ s (i - suc j) f in
    rw d (m ∙ ap whole (rw k (row_is s t v j i x p ex ep et)))

-- a refused pivot: what is held then is the end
pub no_turn : (v : View) (n : ℕ) (e₀ s₀ s : List Float) (i j : ℕ) (x d : Float) (q : Option Float) (a : Fault) → j < n → factor v n e₀ j ≡ whole s₀ → i ≡ j → s ≡ s₀ → x
    ≡ reduced s v i j → d ≡ entry s v j j
    → q ≡ pivot_of x d → q ≡ None → ◌≡◌ {A = Result Float Fault} (Err a) (ok_or q Pivot)
    → (Err a ≡ factored_as (factor v n e₀ n)) × (s ≡ list_of (factor v n e₀ n))
unfolding factor factor_column rooted
no_turn v n e₀ s₀ s i j x d q a jn f ij ss ex ed eq en ea =
    let e : pivot_of (reduced s₀ v j j) (entry s₀ v j j) ≡ None = cc in
    let z : suc j + (n - suc j) ≡ n = omega arith in
    let g : factor v n e₀ n ≡ stuck s = subst (λ (m : ℕ). factor v n e₀ m ≡ stuck s) z (stays v n e₀ s (suc j) (n - suc j) (rw (f, e, ss))) in
    rw g (let o : ◌≡◌ {A = Result Float Fault} (Err a) (Err Pivot) = rw en at ea in cc, refl)

-- a column is done
pub column_done : (v : View) (n : ℕ) (e₀ s₀ s : List Float) (i j : ℕ) → i ≡ n → factor v n e₀ j ≡ whole s₀ → factor_column v j (i - suc j) (whole s₀)
    ≡ whole s → factor v n e₀ (j + 1) ≡ whole s
unfolding factor
column_done v n e₀ s₀ s i j i-n f g = rw (add-one, f, ← i-n) g
