-- A number that is no NaN equals itself; and whether a whole list is finite, by its elements. Assumes nothing.
use Prim.Native.Nat.{ℕ, zero, suc, ◌<◌}
use mathlib.Core.Path.{◌≡◌, refl, sym, ap, subst}
use mathlib.Core.Bool.{Bool, true, false, not, ◌&&◌}
use mathlib.Core.List.{List, [], ◌∷◌}
use native.Mathlib.Omega.{arith}
use lib.Dec.{T}
use lib.ListN.{length, get_or}
use lib.Ieee.{Float, nan, inf, fin, eq, ne, is_nan}
use lib.Ieee.Compare.{differs_from_itself}
use Rattle.std.specs.Float.{float_is_finite}
use Rattle.std.specs.Bool.{MatchBool}
use Rattle.std.specs.List.{AllWithin, HoldsAt}
use Rattle.matrix.specs.Finite.{is_finite, all_finite}

-- only a NaN differs from itself
pub equals_itself : (x : Float) → is_nan x ≡ false → eq x x ≡ true
unfolding ne is_nan
equals_itself x h = go (eq x x) refl
  where
    go : (b : Bool) → eq x x ≡ b → eq x x ≡ true
    go true e = e
    go false e = let n : x ≡ nan = differs_from_itself x (subst (λ (b : Bool). T (not b)) (sym e) tt) in cc (ap is_nan n)

-- the library's word for a finite number
pub finite_is : (x : Float) → float_is_finite x ≡ is_finite x
unfolding float_is_finite
finite_is nan = refl
finite_is (inf s) = refl
finite_is (fin s m e) = refl

-- a list is finite if each of its numbers is
pub all-finite : (s : List Float) → ((k : ℕ) → k < length s → is_finite (get_or s k nan) ≡ true) → all_finite s ≡ true
unfolding all_finite
all-finite [] h = refl
all-finite (x ∷ s) h = rw (h 0 (omega arith), all-finite s (λ k l. h (suc k) (omega arith)))

-- one that is not settles it
not-finite : (s : List Float) (k : ℕ) → k < length s → is_finite (get_or s k nan) ≡ false → all_finite s ≡ false
unfolding all_finite
not-finite [] k l h = absurd (omega arith)
not-finite (x ∷ s) zero l h = rw h refl
not-finite (x ∷ s) (suc k) l h = and_false (is_finite x) (not-finite s k (omega arith) h)
  where
    and_false : (b : Bool) {c : Bool} → c ≡ false → (b && c) ≡ false
    and_false true e = e
    and_false false e = refl

-- what a look at the elements, up to the first that is not finite, tells of the list
pub settles : (s : List Float) (r : Bool)
    → MatchBool r (AllWithin (λ x. is_finite x ≡ true) s 0 (length s)) ((k : ℕ) × (k < length s) × HoldsAt (λ x. is_finite x ≡ false) s k)
    → r ≡ all_finite s
settles s true h = sym (all-finite s (λ k l. h k nan (omega arith) l))
settles s false (k, l, h) = sym (not-finite s k l (h nan))
