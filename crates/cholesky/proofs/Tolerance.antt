-- What a pivot must exceed: its share of the diagonal entry, which is the entry times the tolerance, rounded. Assumes nothing.
use Prim.Native.Nat.{ℕ, zero, suc, ◌+◌, ◌-◌, ◌*◌, ◌/◌, ◌%◌, ◌^◌, ◌≤◌, ◌<◌, compare}
use mathlib.Core.Path.{◌≡◌, refl, sym, ap, ◌∙◌, subst}
use mathlib.Core.Bool.{Bool, true, false, cond, true≢false}
use mathlib.Core.List.{List}
use mathlib.Core.Logic.{◌⊎◌, inl, inr, ⊎_elim}
use native.Mathlib.Nat.{le_trans, le_of_eq, lt_trans, lt_of_lt_of_le, lt_of_le_of_lt, lt_of_not-le, not-le_of_lt, eq-or-lt_of_le}
use native.Mathlib.Nat.{mul-pos, mul_comm, mul_assoc, one-mul, mul-le-mul_right, le_of_mul-le-mul_right, div-mul-le_self}
use native.Mathlib.Omega.{arith}
use lib.IntN.{ℤ, pos}
use lib.Dec.{T, lt→ltb}
use lib.Pow.{pow_mono, pow_pos, shl_lt}
use lib.Ieee.{Float, nan, inf, fin, binary64, up, down, odd, of_bits, to_bits, size, fits, mul, lt}
use lib.Ieee.Bits.{is_true, of_bits-to_bits}
use lib.Ieee.Digits.{size_reaches}
use lib.Ieee.Fits.{up_pos, down_pos, nearest-le, round_is}
use lib.Ieee.Exact.{HasValue, units_val}
use lib.Ieee.Nearest.{closest, closest_same, div_same}
use lib.Ieee.Order.{transfer}
use lib.Ieee.Positive.{positive, value_pos, mul_at}
use Rattle.root.specs.Root.{root_of}
use Rattle.std.proofs.Common.{Option, Some, None}
use Rattle.root.proofs.Values.{has_value, finite, subnormal, normal, answer}
use Rattle.matrix.specs.Views.{entry}
use Rattle.matrix.specs.Sums.{deduct, deduct_of}
use Rattle.matrix.specs.declared.View.{View}
use Rattle.cholesky.specs.Factor.{tolerance, pivot_of, whole, rooted, reduced, factor_column}

pub above_share : (left given : Float) → lt (mul binary64 tolerance given) left ≡ true → pivot_of left given ≡ root_of left
unfolding pivot_of
above_share left given e = rw e

pub not-above : (left given : Float) → lt (mul binary64 tolerance given) left ≡ false → pivot_of left given ≡ None
unfolding pivot_of
not-above left given e = rw e

same : (b : Bool) → cond {A = Option Float} b None None ≡ None
same true = refl
same false = refl

-- what has no root is refused, whatever was given
pub refused_still : (left given : Float) → root_of left ≡ None → pivot_of left given ≡ None
unfolding pivot_of
refused_still left given e = rw e (same (lt (mul binary64 tolerance given) left))

above_zero : (s : Bool) (m : ℕ) (e : ℤ) → lt (fin s 0 (pos 0)) (fin false (suc m) e) ≡ true
unfolding lt
above_zero s m e = go s (mul-pos {m = suc m} {n = up e} (omega arith) (up_pos e))
  where
    go : (s : Bool) → 0 < suc m * up e → lt (fin s 0 (pos 0)) (fin false (suc m) e) ≡ true
    go false h = is_true _ (lt→ltb (0 * up (pos 0) * down e) (suc m * up e * down (pos 0)) (omega arith))
    go true h = is_true _ (lt→ltb 0 (0 * up (pos 0) * down e + suc m * up e * down (pos 0)) (omega arith))

-- where the share is zero, of either sign, it asks no more than a root does
pub zero_share : (left given : Float) (s : Bool) → mul binary64 tolerance given ≡ fin s 0 (pos 0) → pivot_of left given ≡ root_of left
unfolding pivot_of root_of lt
zero_share left given s e = rw e (go left s)
  where
    go : (x : Float) (s : Bool) → cond (lt (fin s 0 (pos 0)) x) (root_of x) None ≡ root_of x
    go nan s = refl
    go (inf true) s = refl
    go (inf false) s = refl
    go (fin true m e) s = same (lt (fin s 0 (pos 0)) (fin true m e))
    go (fin false zero e) s = same (lt (fin s 0 (pos 0)) (fin false zero e))
    go (fin false (suc m) e) s = rw (above_zero s m e)

-- ---- an entry is above its own share, so no first column is refused by it

-- n units times the tolerance, with k digits dropped in rounding, are fewer than n
fewer : (n k : ℕ) → 0 < n → k ≡ size (n / 2 ^ 40) - 53 → closest n (2 ^ 40 * 2 ^ k) * 2 ^ k < n
unfolding size
fewer n k h e = ⊎_elim one more (eq-or-lt_of_le h)
  where
    one : 1 ≡ n → closest n (2 ^ 40 * 2 ^ k) * 2 ^ k < n
    one p =
        let z : k ≡ 0 = e ∙ ap (λ (i : ℕ). size (i / 2 ^ 40) - 53) (sym p) in
        subst (λ (i : ℕ). closest i (2 ^ 40 * 2 ^ k) * 2 ^ k < i) p (subst (λ (i : ℕ). closest 1 (2 ^ 40 * 2 ^ i) * 2 ^ i < 1) (sym z) (omega arith))

    u : ℕ
    u = 2 ^ 40 * 2 ^ k

    taken : n / u * 2 ^ k * 2 ^ 40 ≤ n
    taken = le_trans (le_of_eq (mul_assoc (n / u) (2 ^ k) (2 ^ 40) ∙ ap (λ (i : ℕ). n / u * i) (mul_comm (2 ^ k) (2 ^ 40)))) (div-mul-le_self n u)

    dropped : 0 < k → 2 ^ k ≤ n / 2 ^ 40
    dropped p = le_trans (pow_mono {i = k} {j = k + 52} (omega arith)) (size_reaches (n / 2 ^ 40) (k + 52) (omega arith))

    kept : 1 < n → (0 ≡ k) ⊎ (0 < k) → n / u * 2 ^ k + 2 ^ k < n
    kept p (inl z) = omega (arith, taken, ap (λ (i : ℕ). 2 ^ i) z)
    kept p (inr l) = omega (arith, taken, dropped l)

    more : 1 < n → closest n u * 2 ^ k < n
    more p = lt_of_le_of_lt (mul-le-mul_right (2 ^ k) (nearest-le (n / u) (compare (n % u * 2) u))) (omega (arith, kept p (eq-or-lt_of_le (omega arith))))

lt_of_values : (x y : Float) (a b c : ℕ) → 0 < c → HasValue x false a c → HasValue y false b c → a < b → lt x y ≡ true
unfolding lt
lt_of_values nan y a b c C p q l = absurd p
lt_of_values (inf s) y a b c C p q l = absurd p
lt_of_values (fin true m e) y a b c C p q l = absurd (true≢false p.0)
lt_of_values (fin false m e) nan a b c C p q l = absurd q
lt_of_values (fin false m e) (inf t) a b c C p q l = absurd q
lt_of_values (fin false m e) (fin true n d) a b c C p q l = absurd (true≢false q.0)
lt_of_values (fin false m e) (fin false n d) a b c C p q l =
    is_true _ (lt→ltb (m * up e * down d) (n * up d * down e) (lt_of_not-le (λ h. not-le_of_lt l
    (le_of_mul-le-mul_right (transfer b a c c (n * up d) (m * up e) (down d) (down e) (down_pos d) (down_pos e) (sym q.1) (sym p.1) h) C))))

-- the same of n units as the product has them, whatever the unit 1 / u is
product_fewer : (n u k : ℕ) → 0 < n → 0 < u → k ≡ size (1 * n * u / (2 ^ 40 * u)) - 53 → closest (1 * n * u) (2 ^ 40 * u * 2 ^ k) * 2 ^ k < n
product_fewer n u k h U e =
    subst (λ (i : ℕ). i * 2 ^ k < n)
    (sym (closest_same (1 * n * u) (2 ^ 40 * u * 2 ^ k) n (2 ^ 40 * 2 ^ k) (mul-pos (mul-pos (pow_pos 40) U) (pow_pos k)) (mul-pos (pow_pos 40) (pow_pos k))
    (simp (mul_assoc, mul_comm, one-mul))))
    (fewer n k h (e ∙ ap (λ (i : ℕ). size i - 53) (div_same (1 * n * u) (2 ^ 40 * u) n (2 ^ 40) (mul-pos (pow_pos 40) U) (pow_pos 40)
    (simp (mul_assoc, mul_comm, one-mul)))))

below-itself : (x : Float) (m e : ℕ) → T (positive x) → m < 2 ^ 53 → e ≤ 2045 → x ≡ odd 53 false m e 1074 → lt (mul binary64 tolerance x) x ≡ true
below-itself x m e h l t p =
    let n = m * 2 ^ e in
    let d = 2 ^ 40 * 2 ^ 1074 in
    let k = size (1 * n * 2 ^ 1074 / d) - 53 in
    let q = closest (1 * n * 2 ^ 1074) (d * 2 ^ k) in
    let v = has_value x m e p in
    let f = product_fewer n (2 ^ 1074) k (value_pos x n (2 ^ 1074) h (pow_pos 1074) v) (pow_pos 1074) refl in
    lt_of_values (mul binary64 tolerance x) x (q * 2 ^ k) n (2 ^ 1074) (pow_pos 1074)
    (subst (λ (y : Float). HasValue y false (q * 2 ^ k) (2 ^ 1074))
    (sym (mul_at binary64 tolerance x 1 (2 ^ 40) n (2 ^ 1074) tt h (pow_pos 40) (pow_pos 1074) (refl, refl) v
    ∙ round_is binary64 false (1 * n) d))
    (units_val binary64 false q k (lt_trans f (lt_of_lt_of_le (shl_lt 53 e l) (pow_mono {i = 53 + e} {j = 2098} (omega arith)))))) v f

pub own_entry : (x : Float) → T (fits binary64 x) → pivot_of x x ≡ root_of x
own_entry x f = go (positive x) refl
  where
    b : ℕ
    b = to_bits binary64 x

    is : T (positive x) → (0 ≡ b / 2 ^ 52) ⊎ (0 < b / 2 ^ 52) → lt (mul binary64 tolerance x) x ≡ true
    is p (inl z) = below-itself x (b % 2 ^ 52) 0 p (omega arith) (omega arith) (sym (of_bits-to_bits binary64 x f) ∙ subnormal b (finite x f p) (sym z))
    is p (inr l) =
        below-itself x (b % 2 ^ 52 + 2 ^ 52) (b / 2 ^ 52 - 1) p (omega arith) (omega (arith, finite x f p))
        (sym (of_bits-to_bits binary64 x f) ∙ normal b (finite x f p) l)

    go : (a : Bool) → positive x ≡ a → pivot_of x x ≡ root_of x
    go true e = above_share x x (is (subst T (sym e) tt) (eq-or-lt_of_le (omega arith)))
    go false e = refused_still x x (sym (answer x e)) ∙ answer x e

-- the first column is taken or refused by its entry's root alone
pub first_column_lem : (v : View) (s : List Float) (d : ℕ) → T (fits binary64 (entry s v 0 0))
    → factor_column v 0 d (whole s) ≡ rooted v 0 s d (root_of (entry s v 0 0))
unfolding factor_column reduced deduct_of deduct
first_column_lem v s d f = ap (rooted v 0 s d) (own_entry (entry s v 0 0) f)

-- ---- by computation, what is left and what was given as bit patterns

at : (left given : ℕ) → Option Float
unfolding pivot_of root_of of_bits mul lt
at left given = pivot_of (of_bits binary64 left) (of_bits binary64 given)

root : ℕ → Option Float
unfolding of_bits
root bits = Some (of_bits binary64 bits)

-- beside 1: 2 ^ -40, and the numbers next to it
beside_one : (at 0x3d70000000000000 0x3ff0000000000000 ≡ None)
    × (at 0x3d70000000000001 0x3ff0000000000000 ≡ root 0x3eb0000000000000)
    × (at 0x3d6fffffffffffff 0x3ff0000000000000 ≡ None)
unfolding at root
beside_one = (refl, refl, refl)

-- beside 2 ^ -1034 the share is the least number above 0; beside 2 ^ -1035 it is half of that and rounds to 0, beside the next number up
beside_least : (at 1 0x10000000000 ≡ None)
    × (at 2 0x10000000000 ≡ root 0x1e66a09e667f3bcd)
    × (at 1 0x8000000000 ≡ root 0x1e60000000000000)
    × (at 1 0x8000000001 ≡ None)
unfolding at root
beside_least = (refl, refl, refl, refl)

-- beside a NaN and an infinity
beside_none : (at 0x3ff0000000000000 0x7ff8000000000000 ≡ None) × (at 0x3ff0000000000000 0x7ff0000000000000 ≡ None)
unfolding at
beside_none = (refl, refl)
