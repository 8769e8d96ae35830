-- Members of lists by their places, and keys by their counts. Assumes nothing.
use mathlib.Core.Path.{◌≡◌, refl, sym, ap, ◌∙◌}
use mathlib.Core.Logic.{◌⊎◌, inl, inr}
use mathlib.Core.Bool.{Bool, true, false, cond, ◌||◌}
use mathlib.Core.List.{List, [], ◌∷◌, map, Memᴰ}
use Prim.Native.Nat.{ℕ, zero, suc, ◌+◌, ◌≤◌, ◌<◌}
use native.Mathlib.Omega.{arith}
use native.Mathlib.Decide.{dec_lt}
use lib.Dec.{eqb}
use lib.ListN.{length, get_or}
use borrow.Author.Tests.{eqb-true, eqb-false}
use Rattle.schedule.specs.Count.{hit, count, In, from}
use Rattle.schedule.proofs.Counts.{count-cons, count-nil, hit_same, hit_other, mem_in, from_in}
use Rattle.schedule.proofs.Sums.{length-sum, sum-le, length_from}
use Rattle.blocks.specs.Blocks.{column_of}
use Rattle.slots.specs.Layouts.{member, dim_of}
use Rattle.tables.proofs.Dimensions.{times, Below, Once}

-- what stands at a place is a member
pub at_mem : {A : Type 0} (l : List A) (i : ℕ) (d : A) → i < length l → Memᴰ (get_or l i d) l
at_mem [] i d h = absurd (omega arith)
at_mem (x ∷ l) zero d h = Memᴰ.head refl
at_mem (x ∷ l) (suc i) d h = Memᴰ.tail (at_mem l i d (omega arith))

pub at_in : (l : List ℕ) (i : ℕ) → i < length l → In (get_or l i 0) l
at_in l i h = mem_in (at_mem l i 0 h)

pub at_map : {A B : Type 0} (f : A → B) (l : List A) (i : ℕ) (d : A) (e : B) → i < length l → get_or (map f l) i e ≡ f (get_or l i d)
at_map f [] i d e h = absurd (omega arith)
at_map f (x ∷ l) zero d e h = refl
at_map f (x ∷ l) (suc i) d e h = at_map f l i d e (omega arith)

-- ---- counts

times_count : (x : ℕ) (l : List ℕ) → times x l ≡ count x l
times_count x [] = sym (count-nil x)
times_count x (y ∷ l) = go (eqb y x) refl (times_count x l)
  where
    go : (b : Bool) → eqb y x ≡ b → times x l ≡ count x l → cond b 1 0 + times x l ≡ count x (y ∷ l)
    go true e ih = let q : y ≡ x = eqb-true y x e in omega (arith, count-cons x y l, ap (hit x) q, hit_same x)
    go false e ih = omega (arith, count-cons x y l, hit_other x y (λ q. eqb-false y x e (sym q)))

-- a key is in a list exactly if it is counted
pub member-count : (x : ℕ) (l : List ℕ) → ((member x l ≡ true) × In x l) ⊎ ((member x l ≡ false) × (count x l ≡ 0))
member-count x [] = inr (refl, count-nil x)
member-count x (y ∷ l) = go (eqb y x) refl (member-count x l)
  where
    go : (b : Bool) → eqb y x ≡ b → ((member x l ≡ true) × In x l) ⊎ ((member x l ≡ false) × (count x l ≡ 0))
        → (((b || member x l) ≡ true) × In x (y ∷ l)) ⊎ (((b || member x l) ≡ false) × (count x (y ∷ l) ≡ 0))
    go true e ih = let q : y ≡ x = eqb-true y x e in inl (refl, omega (arith, count-cons x y l, ap (hit x) q, hit_same x))
    go false e (inl (a, b)) = inl (a, omega (arith, count-cons x y l))
    go false e (inr (a, b)) = inr (a, omega (arith, count-cons x y l, hit_other x y (λ q. eqb-false y x e (sym q))))

pub placed_in : (x : ℕ) (cleared kept : List ℕ) → 1 ≤ count x cleared + count x kept → (member x cleared || member x kept) ≡ true
placed_in x cleared kept h = go (member-count x cleared) (member-count x kept)
  where
    go : ((member x cleared ≡ true) × In x cleared) ⊎ ((member x cleared ≡ false) × (count x cleared ≡ 0))
        → ((member x kept ≡ true) × In x kept) ⊎ ((member x kept ≡ false) × (count x kept ≡ 0))
        → (member x cleared || member x kept) ≡ true
    go (inl (a, b)) k = rw a refl
    go (inr (a, b)) (inl (c, d)) = rw (a, c) refl
    go (inr (a, b)) (inr (c, d)) = absurd (omega arith)

-- two lists that have no key twice, all below n
module _ (n : ℕ) (cleared kept : List ℕ) (apart : (x : ℕ) → count x cleared + count x kept ≤ 1)
    (low : (x : ℕ) → 1 ≤ count x cleared + count x kept → x < n) where
  pub below-cleared : Below n cleared
  below-cleared i h = low (get_or cleared i 0) (omega (arith, at_in cleared i h))

  pub below-kept : Below n kept
  below-kept i h = low (get_or kept i 0) (omega (arith, at_in kept i h))

  pub once : Once n cleared kept
  once key h = omega (arith, times_count key cleared, times_count key kept, apart key)

  pub kept-length : length kept ≤ n
  kept-length = omega (arith, length-sum kept, length-sum (from 0 n), length_from 0 n, sum-le (λ x. 1) kept (from 0 n) each)
    where
      each : (x : ℕ) → count x kept ≤ count x (from 0 n)
      each x = go (dec_lt 0 (count x kept))
        where
          go : Dec (0 < count x kept) → count x kept ≤ count x (from 0 n)
          go (yes h) = omega (arith, apart x, from_in x 0 n (omega arith) (omega (arith, low x (omega arith))))
          go (no h) = omega arith

-- the width of a list of keys is its dimension
column_cons : (sizes keys : List ℕ) (k n : ℕ) → column_of sizes (k ∷ keys) (suc n) ≡ get_or sizes k 0 + column_of sizes keys n
unfolding column_of
column_cons sizes keys k zero = omega arith
column_cons sizes keys k (suc n) = omega (arith, column_cons sizes keys k n)

pub column_all : (sizes keys : List ℕ) → column_of sizes keys (length keys) ≡ dim_of sizes keys
unfolding column_of
column_all sizes [] = refl
column_all sizes (k ∷ keys) = column_cons sizes keys k (length keys) ∙ ap (λ (x : ℕ). get_or sizes k 0 + x) (column_all sizes keys)
