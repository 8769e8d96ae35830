-- Sums over lists of numbers go by counts alone.
-- Assumes nothing.
use mathlib.Core.Path.{◌≡◌, refl, sym, ap, ap₂, ◌∙◌}
use mathlib.Core.Logic.{◌≢◌, ◌⊎◌, inl, inr}
use mathlib.Core.List.{List, [], ◌∷◌, ◌++◌, reverse, reverse_aux, append_assoc, Memᴰ}
use Prim.Native.Nat.{ℕ, zero, suc, ◌+◌, ◌≤◌, ◌<◌}
use native.Mathlib.Nat.{le_antisymm, zero-add, add-zero, suc-add}
use native.Mathlib.Omega.{arith}
use native.Mathlib.Decide.{dec_le, dec_lt}
use lib.ListN.{length, get_or}
use Rattle.schedule.specs.Count.{hit, count, In, sum_over, joined, from}
use Rattle.schedule.proofs.Counts.{hit_same, hit-cases, mem_in, from-below, from-above}

-- one x found in b: the rest counts and sums what is left
found : (x : ℕ) (b : List ℕ) → In x b → (r : List ℕ) × ((y : ℕ) → count y b ≡ hit y x + count y r) × ((w : ℕ → ℕ) → sum_over w b ≡ w x + sum_over w r)
unfolding count sum_over
found x [] h = absurd (omega arith)
found x (y ∷ b) h = go (hit-cases x y) (found x b)
  where
    Found : List ℕ → Type 0
    Found b = (r : List ℕ) × ((y : ℕ) → count y b ≡ hit y x + count y r) × ((w : ℕ → ℕ) → sum_over w b ≡ w x + sum_over w r)

    more : Found b → Found (y ∷ b)
    more (r, c, s) = (y ∷ r, λ z. omega (arith, c z), λ w. omega (arith, s w))

    go : ((x ≡ y) × (hit x y ≡ 1)) ⊎ ((x ≢ y) × (hit x y ≡ 0)) → (In x b → Found b) → Found (y ∷ b)
    go (inl e) f = (b, λ z. ap (λ (v : ℕ). hit z v + count z b) (sym e.0), λ w. ap (λ (v : ℕ). w v + sum_over w b) (sym e.0))
    go (inr e) f = more (f (omega arith))

pub sum-le : (w : ℕ → ℕ) (a b : List ℕ) → ((x : ℕ) → count x a ≤ count x b) → sum_over w a ≤ sum_over w b
unfolding count sum_over
sum-le w [] b h = omega arith
sum-le w (x ∷ a) b h = go (found x b (omega (arith, h x, hit_same x))) (λ r f. sum-le w a r f)
  where
    go : (r : List ℕ) × ((y : ℕ) → count y b ≡ hit y x + count y r) × ((w : ℕ → ℕ) → sum_over w b ≡ w x + sum_over w r)
        → ((r : List ℕ) → ((x : ℕ) → count x a ≤ count x r) → sum_over w a ≤ sum_over w r) → w x + sum_over w a ≤ sum_over w b
    go (r, c, s) f = omega (arith, f r (λ y. omega (arith, c y, h y)), s w)

pub sum_perm : (w : ℕ → ℕ) (a b : List ℕ) → ((x : ℕ) → count x a ≡ count x b) → sum_over w a ≡ sum_over w b
sum_perm w a b h = le_antisymm (sum-le w a b (λ x. omega (arith, h x))) (sum-le w b a (λ x. omega (arith, h x)))

module _ {A : Type 0} where
  pub sum_reverse_aux : (w : A → ℕ) (a b : List A) → sum_over w (reverse_aux a b) ≡ sum_over w a + sum_over w b
  unfolding sum_over
  sum_reverse_aux w [] b = omega arith
  sum_reverse_aux w (y ∷ a) b = omega (arith, sum_reverse_aux w a (y ∷ b))

  pub sum-reverse : (w : A → ℕ) (a : List A) → sum_over w (reverse a) ≡ sum_over w a
  unfolding sum_over
  sum-reverse w a = omega (arith, sum_reverse_aux w a [])

  pub joined_same : (g h : A → List ℕ) (l : List A) → ((e : A) → Memᴰ e l → g e ≡ h e) → joined g l ≡ joined h l
  unfolding joined
  joined_same g h [] f = refl
  joined_same g h (e ∷ l) f = ap₂ ◌++◌ (f e (Memᴰ.head refl)) (joined_same g h l (λ d m. f d (Memᴰ.tail m)))

  pub joined-append : (g : A → List ℕ) (a b : List A) → joined g (a ++ b) ≡ joined g a ++ joined g b
  unfolding joined
  joined-append g [] b = refl
  joined-append g (e ∷ a) b = rw (joined-append g a b, append_assoc (g e) (joined g a) (joined g b))

  -- a table's sum, by place
  pub sum-table : (w : A → ℕ) (l : List A) (d : A) → sum_over (λ j. w (get_or l j d)) (from 0 (length l)) ≡ sum_over w l
  unfolding sum_over from
  sum-table w [] d = refl
  sum-table w (x ∷ l) d = omega (arith, shift 0 (length l), sum-table w l d)
    where
      shift : (a m : ℕ) → sum_over (λ j. w (get_or (x ∷ l) j d)) (from (suc a) m) ≡ sum_over (λ j. w (get_or l j d)) (from a m)
      shift a zero = refl
      shift a (suc m) = ap (λ (v : ℕ). w (get_or l a d) + v) (shift (suc a) m)

pub length-joined : {A : Type 0} (g : A → List ℕ) (l : List A) → length (joined g l) ≡ sum_over (λ e. length (g e)) l
unfolding joined sum_over
length-joined g [] = refl
length-joined g (e ∷ l) = omega (arith, lib.ListN.length-append (g e) (joined g l), length-joined g l)

pub length-sum : (l : List ℕ) → length l ≡ sum_over (λ x. 1) l
unfolding sum_over
length-sum [] = refl
length-sum (x ∷ l) = omega (arith, length-sum l)

pub length_from : (a m : ℕ) → length (from a m) ≡ m
unfolding from
length_from a zero = refl
length_from a (suc m) = ap suc (length_from (suc a) m)

pub from-append : (a m n : ℕ) → from a (m + n) ≡ from a m ++ from (a + m) n
unfolding from
from-append a zero n = ap₂ from (sym (add-zero a)) (zero-add n)
from-append a (suc m) n = ap (from a) (suc-add m n) ∙ ap (λ (l : List ℕ). a ∷ l)
    (from-append (suc a) m n ∙ ap (λ (x : ℕ). from (suc a) m ++ from x n) (omega arith))

pub from_snoc : (a n : ℕ) → from a (suc n) ≡ from a n ++ ((a + n) ∷ [])
unfolding from
from_snoc a zero = ap (λ (x : ℕ). x ∷ []) (sym (add-zero a))
from_snoc a (suc n) = ap (λ (l : List ℕ). a ∷ l) (from_snoc (suc a) n ∙ ap (λ (x : ℕ). from (suc a) n ++ (x ∷ [])) (omega arith))

pub sum-from_snoc : (g : ℕ → ℕ) (a m : ℕ) → sum_over g (from a (suc m)) ≡ sum_over g (from a m) + g (a + m)
unfolding from sum_over
sum-from_snoc g a zero = omega (arith, ap g (native.Mathlib.Nat.add-zero a))
sum-from_snoc g a (suc m) = omega (arith, sum-from_snoc g (suc a) m, ap g (side a m))
  where
    side : (a m : ℕ) → suc a + m ≡ a + suc m
    side a m = omega arith

pub from-mem : (x a m : ℕ) → Memᴰ x (from a m) → (a ≤ x) × (x < a + m)
from-mem x a m h = go (dec_le a x) (dec_lt x (a + m))
  where
    go : Dec (a ≤ x) → Dec (x < a + m) → (a ≤ x) × (x < a + m)
    go (yes l) (yes r) = (l, r)
    go (no l) r = absurd (omega (arith, mem_in h, from-below x a m (omega arith)))
    go (yes l) (no r) = absurd (omega (arith, mem_in h, from-above x a m (omega arith)))
