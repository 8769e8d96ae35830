-- What the block columns of one factor add: each product fits its matrix, and a turn of each loop adds one. Assumes nothing.
use Prim.Native.Nat.{ℕ, zero, suc, ◌+◌, ◌-◌, ◌*◌, ◌≤◌, ◌<◌, compare, Ordering}
use mathlib.Core.Path.{◌≡◌, refl, ap, ◌∙◌, sym, subst}
use mathlib.Core.Bool.{Bool, true, false, cond}
use mathlib.Core.List.{List}
use native.Mathlib.Nat.{mul-le-mul_right, add-zero, add-suc}
use native.Mathlib.Omega.{arith}
use native.Mathlib.Numerals.{add-one}
use lib.ListN.{length, get_or, replicate, length-replicate}
use lib.Ieee.{Float}
use Rattle.matrix.specs.Views.{entry, Inside, flip, columns, part}
use Rattle.matrix.specs.Sums.{plus_zero, dot_of}
use Rattle.matrix.specs.Products.{updated, product_entry, product}
use Rattle.matrix.specs.declared.View.{View}
use Rattle.matrix.specs.declared.Update.TheVariants.{Add, Store}
use Rattle.matrix.proofs.Entries.{apart}
use Rattle.matrix.proofs.Dense.{dense, product_at}
use Rattle.matrix.proofs.Agreement.{block_same, dot-same}
use Rattle.blocks.specs.Blocks.{column_of, block_column_of}
use Rattle.workspace.specs.Blocks.{corner, stamp, transposed_times}
use Rattle.workspace.specs.Sums.{Sums, change, turns}
use Rattle.workspace.specs.declared.Frame.{Frame}
use Rattle.workspace.specs.declared.Part.{Part}
use Rattle.workspace.specs.declared.Part.TheVariants.{S, H, G, A, Xi, W}
use Rattle.workspace.proofs.Parts.{inner, length_part}
use Rattle.slots.specs.declared.Branch.{Branch}
use Rattle.slots.specs.declared.Branch.TheVariants.{Z, X}
use Rattle.slots.specs.declared.layout.Layout.{Layout}
use Rattle.slots.specs.Layouts.{spot_of}
use Rattle.slots.specs.Views.{target, target_of, with_product, with_products, with_own, with_key, with_keys}
use Rattle.slots.specs.Fitting.{Sits, Wide}
use Rattle.slots.specs.declared.layout.Spot.{Spot}
use Rattle.std.specs.Prelude.{Option, Some, None}
use Rattle.workspace.specs.Parts.{FrameLaid, part_from, part_to}

-- ---- places

small_at : (f : Frame) (len : ℕ) (g : Bool) (a s : ℕ) → FrameLaid f len → a + s ≤ cond g f.cleared f.kept → a + s ≤ 32
small_at f len true a s l h = omega arith
small_at f len false a s l h = omega arith

pub small : (f : Frame) (len : ℕ) (k : Spot) → FrameLaid f len → Sits f k → k.at + k.size ≤ 32
small f len k l h = small_at f len k.cleared k.at k.size l h

-- a block inside one of the matrices
pub corner-fits : (f : Frame) (p : Part) (n m : ℕ) (v : View) (i j a b : ℕ) → part_to f p - part_from f p ≡ n * m → v ≡ corner n i j → i + a ≤ n → j + b ≤ m
    → Inside v a b (part_to f p - part_from f p)
corner-fits f p n m v i j a b e ev hi hj = rw (ev, e) (inner n m i j a b hi hj)

pub dense_flip : (m n len : ℕ) → m * n ≤ len → Inside (flip (columns m)) n m len
dense_flip m n len h i j hi hj = omega (arith, dense m n len h j i hj hi)

-- a block of S for two cleared keys, and in x one of W for two kept keys
in_s : (f : Frame) (len : ℕ) (k o : Spot) → FrameLaid f len → k.at + k.size ≤ f.cleared → o.at + o.size ≤ f.cleared
    → Inside (corner f.cleared k.at o.at) k.size o.size (part_to f S - part_from f S)
in_s f len k o l hk ho = corner-fits f S f.cleared f.cleared (corner f.cleared k.at o.at) k.at o.at k.size o.size
    (omega arith) refl hk ho

in_w : (f : Frame) (len : ℕ) (k o : Spot) → FrameLaid f len → f.rows ≡ f.kept → k.at + k.size ≤ f.kept → o.at + o.size ≤ f.kept
    → Inside (corner f.rows k.at o.at) k.size o.size (part_to f W - part_from f W)
in_w f len k o l e hk ho =
    corner-fits f W f.rows f.rows (corner f.rows k.at o.at) k.at o.at k.size o.size (omega arith) refl (omega arith) (omega arith)

abbrev Fits : Frame → ℕ → ℕ → Option (Part × View) → Type 0
Fits f m n None = Unit
Fits f m n (Some (p, v)) = Inside v m n (part_to f p - part_from f p)

fits_of : (branch : Branch) (kg og : Bool) (order : Ordering) (f : Frame) (len : ℕ) (k o : Spot) → FrameLaid f len → (branch ≡ X → f.rows ≡ f.kept)
    → k.at + k.size ≤ cond kg f.cleared f.kept → o.at + o.size ≤ cond og f.cleared f.kept
    → Fits f k.size o.size (target_of branch kg og order f k o)
unfolding target_of
fits_of Z true true Ordering.lt f len k o l x hk ho = tt
fits_of Z true true Ordering.eq f len k o l x hk ho = in_s f len k o l hk ho
fits_of Z true true Ordering.gt f len k o l x hk ho = λ i j hi hj. omega (arith, in_s f len o k l ho hk j i hj hi)
fits_of Z true false order f len k o l x hk ho = tt
fits_of Z false og order f len k o l x hk ho = tt
fits_of X true true Ordering.lt f len k o l x hk ho = in_s f len k o l hk ho
fits_of X true true Ordering.eq f len k o l x hk ho = in_s f len k o l hk ho
fits_of X true true Ordering.gt f len k o l x hk ho = tt
fits_of X true false order f len k o l x hk ho =
    let e : f.rows ≡ f.kept = x refl in
    corner-fits f G f.cleared f.rows (corner f.cleared k.at o.at) k.at o.at k.size o.size (omega arith) refl hk (omega arith)
fits_of X false true order f len k o l x hk ho = tt
fits_of X false false Ordering.lt f len k o l x hk ho = in_w f len k o l (x refl) hk ho
fits_of X false false Ordering.eq f len k o l x hk ho = in_w f len k o l (x refl) hk ho
fits_of X false false Ordering.gt f len k o l x hk ho = tt

pub goes_inside : (branch : Branch) (f : Frame) (len : ℕ) (k o : Spot) (r : Option (Part × View)) (p : Part) (v : View) → FrameLaid f len
    → (branch ≡ X → f.rows ≡ f.kept) → Sits f k → Sits f o
    → r ≡ target branch f k o → r ≡ Some (p, v) → Inside v k.size o.size (part_to f p - part_from f p)
goes_inside branch f len k o r p v l x hk ho er ea =
    subst (λ (t : Option (Part × View)). Fits f k.size o.size t) (sym er ∙ ea)
    (fits_of branch k.cleared o.cleared (compare o.key k.key) f len k o l x hk ho)

pub fits-part : (a : List Float) (p q n : ℕ) → q ≤ length a → q - p ≡ n → n ≤ length (part a p q)
fits-part a p q n h e = omega (arith, length_part a p q h)

-- ---- one pair

pub no_product : (branch : Branch) (f : Frame) (k o : Spot) (r : Option (Part × View)) (s : ℕ) (t : List Float) (y : ℕ) (b : List Float) (n : ℕ) (σ : Sums) → r
    ≡ target branch f k o → r ≡ None
    → σ ≡ with_product (target branch f k o) s t y b n σ
unfolding with_product
no_product branch f k o r s t y b n σ er en = subst (λ (q : Option (Part × View)). σ ≡ with_product q s t y b n σ) (sym en ∙ er) refl

pub product-at-target : (branch : Branch) (f : Frame) (k o : Spot) (r : Option (Part × View)) (p : Part) (v : View) (s : ℕ) (t : List Float) (y : ℕ)
    (b : List Float) (n : ℕ) (σ σ' : Sums) → r ≡ target branch f k o → r ≡ Some (p, v)
    → σ' ≡ change p (λ c. product Add v s t (columns s) b (columns y) y c n) σ → σ' ≡ with_product (target branch f k o) s t y b n σ
unfolding with_product
product-at-target branch f k o r p v s t y b n σ σ' er ea e = subst (λ (q : Option (Part × View)). σ' ≡ with_product q s t y b n σ) (sym ea ∙ er) e

-- ---- the columns of a factor

column_le : (size keys : List ℕ) (i d : ℕ) → column_of size keys i ≤ column_of size keys (i + d)
unfolding column_of
column_le size keys i zero = rw add-zero (omega arith)
column_le size keys i (suc d) = rw add-suc (omega (arith, column_le size keys i d))

pub column_next : (size keys : List ℕ) (i : ℕ) → column_of size keys (i + 1) ≡ column_of size keys i + get_or size (get_or keys i 0) 0
unfolding column_of
column_next size keys i = rw add-one

-- the block column of the i-th key, of s columns from column c on, stands in A
pub column_fits : {sizes keys : List ℕ} {y len c s : ℕ} (i : ℕ) → Wide sizes keys y len → i < length keys → c ≡ column_of sizes keys i → s
    ≡ get_or sizes (get_or keys i 0) 0
    → (c + s ≡ column_of sizes keys (i + 1)) × (c + s ≤ 32) × ((c + s) * y ≤ len)
column_fits {sizes} {keys} {y} {len} {c} {s} i w h ec es =
    let n : c + s ≡ column_of sizes keys (i + 1) = sym (column_next sizes keys i ∙ omega arith) in
    let d : i + 1 + (length keys - (i + 1)) ≡ length keys = omega arith in
    let b : c + s ≤ column_of sizes keys (length keys) = rw n (subst (λ (k : ℕ). column_of sizes keys (i + 1) ≤ column_of sizes keys k) d
    (column_le sizes keys (i + 1) (length keys - (i + 1)))) in
    (n, omega arith, omega (arith, mul-le-mul_right y b))

-- it has y numbers a column
pub fits-block : (a b : List Float) (y c s : ℕ) → b ≡ block_column_of a y c s → (c + s) * y ≤ length a → y * s ≤ length b
fits-block a b y c s e h = rw e (fits-part a (c * y) ((c + s) * y) (y * s) h (omega arith))

pub products_more : (branch : Branch) (f : Frame) (m : Layout) (keys : List ℕ) (y : ℕ) (a : List Float) (k o : Spot) (t b : List Float)
    (σ₀ σ σ' : Sums) (j c : ℕ)
    → σ ≡ with_products branch f m keys y a k t σ₀ j → c ≡ column_of m.size keys j → o ≡ spot_of m (get_or keys j 0) → b ≡ block_column_of a y c o.size
    → σ' ≡ with_product (target branch f k o) k.size t y b o.size σ
    → σ' ≡ with_products branch f m keys y a k t σ₀ (j + 1)
unfolding with_products turns
products_more branch f m keys y a k o t b σ₀ σ σ' j c es ec eo eb en = rw (en, eb, ec, eo, add-one j, es)

-- ---- the block column of k itself

module _ (branch : Branch) (f : Frame) (row : ℕ) (k : Spot) (b xi w : List Float) (y : ℕ) (σ σ₁ : Sums) (v : View) where
  pub own_cleared_x : k.cleared ≡ true → branch ≡ X → v ≡ corner f.cleared k.at 0 → σ₁
      ≡ change H (λ c. product Add v k.size b (flip (columns y)) xi (columns y) y c 1) σ
      → σ₁ ≡ with_own branch k.cleared f row k b xi w y σ
  unfolding with_own
  own_cleared_x g x ev e = rw (g, x, e, ev)

  pub own_cleared_z : (σ₂ : Sums) (u : View) → k.cleared ≡ true → branch ≡ Z → v ≡ corner f.cleared k.at 0 → u ≡ corner f.cleared k.at row
      → σ₁ ≡ change H (λ c. product Add v k.size b (flip (columns y)) xi (columns y) y c 1) σ
      → σ₂ ≡ change G (λ c. product Store u k.size b (flip (columns y)) w (columns y) y c y) σ₁
      → σ₂ ≡ with_own branch k.cleared f row k b xi w y σ
  unfolding with_own
  own_cleared_z σ₂ u g x ev eu e e' = rw (g, x, e', e, ev, eu)

  pub own_kept_z : k.cleared ≡ false → branch ≡ Z → v ≡ corner f.rows row k.at → σ₁ ≡ change A (λ c. stamp Store v y b (columns y) c k.size) σ
      → σ₁ ≡ with_own branch k.cleared f row k b xi w y σ
  unfolding with_own
  own_kept_z g x ev e = rw (g, x, e, ev)

  pub own_kept_x : k.cleared ≡ false → branch ≡ X → v ≡ corner f.rows k.at 0 → σ₁
      ≡ change Xi (λ c. product Add v k.size b (flip (columns y)) xi (columns y) y c 1) σ
      → σ₁ ≡ with_own branch k.cleared f row k b xi w y σ
  unfolding with_own
  own_kept_x g x ev e = rw (g, x, e, ev)

-- ---- B'W in a lent slice

-- a product that is stored from the start of a list does not depend on what stood there
stored_at : (c : List Float) (m w : ℕ) (a : List Float) (av : View) (b : List Float) (bv : View) (n : ℕ) → m * w ≤ length c → (i j : ℕ) → i < m → j < w
    → entry (product Store (columns m) m a av b bv n c w) (columns m) i j ≡ dot_of a av i b bv j n
stored_at c m w a av b bv n h i j hi hj = product_at Store (columns m) m a av b bv n c w (apart (columns m) m w refl (omega arith)) i j hi hj
    (dense m w (length c) h i j hi hj)

change-same : (p : Part) (g h : List Float → List Float) (σ : Sums) → ((c : List Float) → g c ≡ h c) → change p g σ ≡ change p h σ
unfolding change
change-same S g h σ e = rw (e σ.s)
change-same H g h σ e = rw (e σ.h)
change-same G g h σ e = rw (e σ.g)
change-same A g h σ e = rw (e σ.a)
change-same Xi g h σ e = rw (e σ.xi)
change-same W g h σ e = rw (e σ.w)

abbrev Same : List Float → List Float → ℕ → ℕ → Type 0
Same t u s y = (i j : ℕ) → i < s → j < y → entry t (columns s) i j ≡ entry u (columns s) i j

product-same : (q : Option (Part × View)) (s : ℕ) (t u : List Float) (y : ℕ) (b : List Float) (n : ℕ) (σ : Sums) → Same t u s y → with_product q s t y b n σ
    ≡ with_product q s u y b n σ
unfolding with_product product
product-same None s t u y b n σ h = refl
product-same (Some (p, v)) s t u y b n σ h =
    change-same p (λ c. product Add v s t (columns s) b (columns y) y c n) (λ c. product Add v s u (columns s) b (columns y) y c n) σ
    (λ c. block_same v s (product_entry Add t (columns s) b (columns y) y) (product_entry Add u (columns s) b (columns y) y) c n
    (λ i j hi hj x. ap (λ (d : Float). updated Add x d) (dot-same t u (columns s) (columns s) i b b (columns y) (columns y) j y (λ l hl. h i l hi hl)
    (λ l hl. refl))))

products_same : (branch : Branch) (f : Frame) (m : Layout) (keys : List ℕ) (y : ℕ) (a : List Float) (k : Spot) (t u : List Float) (σ : Sums) (n : ℕ)
    → Same t u k.size y
    → with_products branch f m keys y a k t σ n ≡ with_products branch f m keys y a k u σ n
unfolding with_products turns
products_same branch f m keys y a k t u σ zero h = refl
products_same branch f m keys y a k t u σ (suc n) h =
    rw (products_same branch f m keys y a k t u σ n h)
    (product-same (target branch f k (spot_of m (get_or keys n 0))) k.size t u y
    (block_column_of a y (column_of m.size keys n) (spot_of m (get_or keys n 0)).size) (spot_of m (get_or keys n 0)).size
    (with_products branch f m keys y a k u σ n) h)

pub key-is : (branch : Branch) (f : Frame) (m : Layout) (row : ℕ) (keys : List ℕ) (y : ℕ) (a xi w : List Float) (k : Spot) (b t₀ t : List Float)
    (σ σ₁ σ₂ : Sums) → k.size * y ≤ length t₀
    → σ₁ ≡ with_own branch k.cleared f row k b xi w y σ
    → t ≡ product Store (columns k.size) k.size b (flip (columns y)) w (columns y) y t₀ y
    → σ₂ ≡ with_products branch f m keys y a k t σ₁ (length keys)
    → σ₂ ≡ with_key branch f m row keys y a xi w k b σ
unfolding with_key transposed_times
key-is branch f m row keys y a xi w k b t₀ t σ σ₁ σ₂ h e₁ et e₂ =
    rw (e₂, ← e₁)
    (products_same branch f m keys y a k t (transposed_times b k.size w y) σ₁ (length keys)
    (λ i j hi hj. rw et (stored_at t₀ k.size y b (flip (columns y)) w (columns y) y h i j hi hj)
    ∙ sym (stored_at (replicate (k.size * y) plus_zero) k.size y b (flip (columns y)) w (columns y) y
    (rw (length-replicate (k.size * y) plus_zero) (omega arith)) i j hi hj)))

pub keys-more : (branch : Branch) (f : Frame) (m : Layout) (row : ℕ) (keys : List ℕ) (y : ℕ) (a xi w : List Float) (k : Spot) (b : List Float)
    (σ₀ σ σ' : Sums) (i c : ℕ)
    → σ ≡ with_keys branch f m row keys y a xi w σ₀ i → c ≡ column_of m.size keys i → k ≡ spot_of m (get_or keys i 0) → b ≡ block_column_of a y c k.size
    → σ' ≡ with_key branch f m row keys y a xi w k b σ
    → σ' ≡ with_keys branch f m row keys y a xi w σ₀ (i + 1)
unfolding with_keys turns
keys-more branch f m row keys y a xi w k b σ₀ σ σ' i c es ec ek eb en = rw (en, eb, ec, ek, add-one i, es)

-- B'W of any key fits the slice that takes it
pub scratch : (s y m n : ℕ) → s ≤ 6 → 6 * y ≤ n → m ≡ n → s * y ≤ m
scratch s y m n h k e = omega (arith, mul-le-mul_right y h)
