-- What a turn of a loop over stores adds. Assumes nothing.
use Prim.Native.Nat.{ℕ, ◌+◌, ◌<◌}
use mathlib.Core.Path.{◌≡◌, ap}
use mathlib.Core.List.{List}
use native.Mathlib.Omega.{arith}
use native.Mathlib.Numerals.{add-one}
use lib.ListN.{set}
use lib.Ieee.{Float, binary64, add, mul}
use Rattle.matrix.specs.Views.{place, entry}
use Rattle.matrix.specs.Sums.{dot_of, accumulate}
use Rattle.matrix.specs.Stores.{steps, sweep, block_column}
use Rattle.matrix.specs.Products.{updated, product_entry}
use Rattle.matrix.specs.declared.View.{View}
use Rattle.matrix.specs.declared.Update.{Update}

-- an index below a length, at a list of the same length
pub within : {k m n : ℕ} → n ≡ m → k < m → k < n
within e h = omega arith

-- one store more
pub steps-more : (at : ℕ → ℕ) (f : ℕ → List Float → Float) (s₀ s t : List Float) (i : ℕ) (x : Float) → s ≡ steps at f s₀ i → x ≡ f i s → t
    ≡ set s (at i) x → t ≡ steps at f s₀ (i + 1)
unfolding steps
steps-more at f s₀ s t i x es ex et = rw (et, ex, add-one i, es)

-- one change more
pub sweep-more : (g : ℕ → List Float → List Float) (s₀ s t : List Float) (i : ℕ) → s ≡ sweep g s₀ i → t ≡ g i s → t ≡ sweep g s₀ (i + 1)
unfolding sweep
sweep-more g s₀ s t i es et = rw (et, add-one i, es)

-- one term more of a product sum
pub dot-more : (a : List Float) (av : View) (i : ℕ) (b : List Float) (bv : View) (j k : ℕ) (s x y : Float)
    → s ≡ dot_of a av i b bv j k → x ≡ entry a av i k → y ≡ entry b bv k j → add binary64 s (mul binary64 x y) ≡ dot_of a av i b bv j (k + 1)
unfolding dot_of accumulate
dot-more a av i b bv j k s x y es ex ey = rw (es, ex, ey, add-one k)

-- one row more of a product's column: a finished sum met the entry at row i
pub row_met : (v : View) (how : Update) (a : List Float) (av : View) (b : List Float) (bv : View) (n j i k : ℕ) (u s t : List Float) (x : Float)
    → k ≡ i + 1 → s ≡ block_column v (product_entry how a av b bv n) j u i → x ≡ dot_of a av i b bv j n → t ≡ set s (place v i j) (updated how (entry s v i j) x)
    → t ≡ block_column v (product_entry how a av b bv n) j u k
unfolding block_column
row_met v how a av b bv n j i k u s t x ek es ex et =
    rw ek (steps-more (λ r. place v r j) (λ r l. product_entry how a av b bv n r j (entry l v r j)) u s t i _ es (ap (updated how (entry s v i j)) ex) et)
