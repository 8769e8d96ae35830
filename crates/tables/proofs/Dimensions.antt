-- Keys that are kept or cleared, each at most once, take no more columns than there are. Assumes nothing.
use Prim.Native.Nat.{ℕ, zero, suc, ◌+◌, ◌*◌, ◌≤◌, ◌<◌}
use mathlib.Core.Path.{◌≡◌, refl, ap, sym, ◌∙◌}
use mathlib.Core.Bool.{Bool, true, false, cond, ◌||◌, false≢true}
use mathlib.Core.List.{List, [], ◌∷◌}
use native.Mathlib.Omega.{arith}
use native.Mathlib.Decide.{dec_lt}
use native.Mathlib.Nat.{mul-le-mul}
use borrow.Author.Tests.{ltb-true, eqb-true, eq-eqb, ne_eqb}
use lib.Dec.{ltb, eqb}
use lib.ListN.{length, get_or}
use Rattle.factor.specs.Limits.{max_variables, max_total}
use Rattle.factor.specs.Counting.{sum}
use Rattle.factor.specs.Factor.{rising, known, size_of}
use Rattle.factor.proofs.Counting.{all-at, sum_ext, sum-le}
use Rattle.factor.proofs.KeyOrder.{rising-below}
use Rattle.graph.specs.Record.{total, valid}
use Rattle.graph.specs.declared.Graph.{Graph}
use Rattle.graph.proofs.Validity.{valid-variables, valid-total}
use Rattle.slots.specs.Layouts.{member, dim_of, Listed}

-- how often a key stands in a list
abbrev pub times : ℕ → List ℕ → ℕ
times key [] = 0
times key (j ∷ l) = cond (eqb j key) 1 0 + times key l

abbrev pub Below : ℕ → List ℕ → Type 0
Below n l = (i : ℕ) → i < length l → get_or l i 0 < n

-- each key below n stands at most once in the two lists together
abbrev pub Once : ℕ → List ℕ → List ℕ → Type 0
Once n cleared kept = (key : ℕ) → key < n → times key cleared + times key kept ≤ 1

-- ---- the dimension as a sum over all keys

-- one key's part of a sum is larger by d
sum-raised : (f h : ℕ → ℕ) (d k n : ℕ) → k < n → ((i : ℕ) → i < n → (i ≡ k → ⊥) → h i ≡ f i) → h k ≡ d + f k → sum h n ≡ d + sum f n
unfolding sum
sum-raised f h d k zero l e r = absurd (omega arith)
sum-raised f h d k (suc n) l e r = go (dec_lt k n) (λ q. sum-raised f h d k n q (λ i a b. e i (omega arith) b) r)
  where
    go : Dec (k < n) → (k < n → sum h n ≡ d + sum f n) → sum h n + h n ≡ d + (sum f n + f n)
    go (yes q) ih =
        let a : sum h n ≡ d + sum f n = ih q in
        let b : h n ≡ f n = e n (omega arith) (λ x. omega arith) in
        omega arith
    go (no q) ih =
        let c : k ≡ n = omega arith in
        let a : sum h n ≡ sum f n = sum_ext h f n (λ i m. e i (omega arith) (λ x. omega arith)) in
        let b : h n ≡ d + f n = rw c at r in
        omega arith

sum-nothing : (n : ℕ) (f : ℕ → ℕ) → ((i : ℕ) → i < n → f i ≡ 0) → sum f n ≡ 0
unfolding sum
sum-nothing zero f h = refl
sum-nothing (suc n) f h = omega (arith, sum-nothing n f (λ i l. h i (omega arith)), h n (omega arith))

sum-two : (f h : ℕ → ℕ) (n : ℕ) → sum (λ i. f i + h i) n ≡ sum f n + sum h n
unfolding sum
sum-two f h zero = refl
sum-two f h (suc n) = omega (arith, sum-two f h n)

sum-under : (f h : ℕ → ℕ) (n : ℕ) → ((i : ℕ) → i < n → f i ≤ h i) → sum f n ≤ sum h n
unfolding sum
sum-under f h zero e = omega arith
sum-under f h (suc n) e = omega (arith, sum-under f h n (λ i l. e i (omega arith)), e n (omega arith))

pub dim_is : (sizes l : List ℕ) (n : ℕ) → Below n l → dim_of sizes l ≡ sum (λ key. times key l * size_of sizes key) n
dim_is sizes [] n b = sym (sum-nothing n (λ key. 0 * size_of sizes key) (λ i l. omega arith))
dim_is sizes (j ∷ l) n b =
    ap (λ (x : ℕ). size_of sizes j + x) (dim_is sizes l n (λ i h. b (suc i) (omega arith)))
    ∙ sym (sum-raised (λ key. times key l * size_of sizes key) (λ key. times key (j ∷ l) * size_of sizes key) (size_of sizes j) j n (b 0 (omega arith))
    (λ i h d. rw (ne_eqb j i (λ x. d (sym x))) (ap (λ (x : ℕ). x * size_of sizes i) (omega arith)))
    (rw (eq-eqb j j refl) (omega arith)))

-- ---- both lists

module _ (sizes : List ℕ) (n : ℕ) (cleared kept : List ℕ) (bc : Below n cleared) (bk : Below n kept) (once : Once n cleared kept) where
  pub dims_within : dim_of sizes cleared + dim_of sizes kept ≤ sum (size_of sizes) n
  dims_within =
      let f : ℕ → ℕ = λ key. times key cleared * size_of sizes key in
      let h : ℕ → ℕ = λ key. times key kept * size_of sizes key in
      let e : sum (λ key. f key + h key) n ≡ sum f n + sum h n = sum-two f h n in
      let u : sum (λ key. f key + h key) n ≤ sum (size_of sizes) n = sum-under (λ key. f key + h key) (size_of sizes) n
      (λ key l. at_most (times key cleared) (times key kept) (size_of sizes key) (once key l)) in
      omega (arith, dim_is sizes cleared n bc, dim_is sizes kept n bk, e, u)
    where
      at_most : (a b s : ℕ) → a + b ≤ 1 → a * s + b * s ≤ s
      at_most a b s h = let m : (a + b) * s ≤ 1 * s = mul-le-mul h (omega arith) in omega arith

module _ (g : Graph) (v : valid g ≡ true) (cleared kept : List ℕ) (bc : Below g.variables cleared) (bk : Below g.variables kept)
    (once : Once g.variables cleared kept) where
  pub total-within : dim_of g.sizes cleared + dim_of g.sizes kept ≤ max_total
  unfolding total
  total-within =
      let s : sum (size_of g.sizes) g.variables ≤ total g = sum-le (size_of g.sizes) g.variables max_variables (valid-variables g v) in
      omega (arith, dims_within g.sizes g.variables cleared kept bc bk once, s, valid-total g v)

  pub cleared_listed : Listed cleared g.sizes
  cleared_listed = record { known = λ i l. omega (arith, bc i l, valid-variables g v); total = omega (arith, total-within) }

  pub kept_listed : Listed kept g.sizes
  kept_listed = record { known = λ i l. omega (arith, bk i l, valid-variables g v); total = omega (arith, total-within) }

-- ---- lists that rise

pub known-below : (n : ℕ) (l : List ℕ) → known n l ≡ true → Below n l
known-below n l h i b = ltb-true _ _ (all-at (λ j. ltb (get_or l j 0) n) (length l) i h b)

abbrev Rises : List ℕ → Type 0
Rises l = (a b : ℕ) → a < b → b < length l → get_or l a 0 < get_or l b 0

none : (l : List ℕ) (key : ℕ) → ((i : ℕ) → i < length l → get_or l i 0 ≡ key → ⊥) → times key l ≡ 0
none [] key h = refl
none (j ∷ l) key h = rw (ne_eqb j key (h 0 (omega arith))) (ap (λ (x : ℕ). 0 + x) (none l key (λ i b. h (suc i) (omega arith))))

single : (l : List ℕ) → Rises l → (key : ℕ) → times key l ≤ 1
single [] r key = omega arith
single (j ∷ l) r key = go (eqb j key) refl (single l (λ a b x y. r (suc a) (suc b) (omega arith) (omega arith)) key)
  where
    go : (t : Bool) → eqb j key ≡ t → times key l ≤ 1 → cond t 1 0 + times key l ≤ 1
    go true e ih = omega (
      arith,
      none l key (λ i b x. let y : j ≡ key = eqb-true j key e in let z : j < get_or l i 0 = r 0 (suc i) (omega arith)
          (omega arith) in omega arith),
    )
    go false e ih = omega arith

-- a key that is no member stands nowhere
times_member : (l : List ℕ) (key : ℕ) → member key l ≡ false → times key l ≡ 0
times_member [] key h = refl
times_member (j ∷ l) key h = go (eqb j key) h (times_member l key)
  where
    go : (t : Bool) → (t || member key l) ≡ false → (member key l ≡ false → times key l ≡ 0) → cond t 1 0 + times key l ≡ 0
    go true e ih = absurd (let z : ◌≡◌ {A = ℕ} 0 1 = cc in omega arith)
    go false e ih = ap (λ (x : ℕ). 0 + x) (ih e)

-- lists that rise and share no key
module _ (n : ℕ) (cleared kept : List ℕ) (rc : rising cleared ≡ true) (rk : rising kept ≡ true)
    (apart : (i : ℕ) → i < length kept → member (get_or kept i 0) cleared ≡ false) where
  pub rising_once : Once n cleared kept
  rising_once key l = go (member key cleared) refl
    where
      absent : member key cleared ≡ true → (i : ℕ) → i < length kept → get_or kept i 0 ≡ key → ⊥
      absent m i b e = false≢true (sym (rw e at (apart i b)) ∙ m)

      go : (b : Bool) → member key cleared ≡ b → times key cleared + times key kept ≤ 1
      go true m = omega (arith, single cleared (rising-below cleared rc) key, none kept key (absent m))
      go false m = omega (arith, times_member cleared key m, single kept (rising-below kept rk) key)
