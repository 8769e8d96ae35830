-- `root_of` answers the float that is nearest to the root. Assumes nothing.
use Rattle.std.proofs.Common.{◌≡◌, ℕ, ◌+◌, ◌-◌, ◌*◌, ◌/◌, ◌%◌, ◌^◌, ◌<◌, ◌≤◌, Bool, true, false, cond, not, T, Option, Some, None, ◌⊎◌, sym, refl, ap, ◌∙◌, subst, inl, inr, eq-zero-or-pos, arith, pow_pos, shl_lt}
use lib.Ieee.{Float, binary64, of_bits, to_bits, size, odd, fits}
use lib.Ieee.Digits.{size-le}
use lib.Ieee.Bits.{to_bits-of_bits, of_bits-to_bits, nan_bits_is}
use lib.Ieee.Positive.{positive, value_pos}
use Rattle.root.specs.Root.{isqrt, in_units, root_bits, root_of}
use Rattle.root.specs.Nearest.{next_down, next_up, both, Nearest, Right}
use Rattle.root.specs.Told.{pivot_told, right_told}
use Rattle.root.proofs.Leading.{Found, found, bits_of}
use Rattle.root.proofs.Midpoints.{pattern, low, high}
use Rattle.root.proofs.Units.{units}
use Rattle.root.proofs.Values.{normal, subnormal, finite, has_value, units_are, is_positive, answer, no_nan_bits}

-- a float above zero is m * 2 ^ e units
record Parts (v : Float) : Type 0 where
  m : ℕ
  e : ℕ
  few : m < 2 ^ 53
  far : e ≤ 2045
  is : v ≡ odd 53 false m e 1074

parts : (v : Float) → T (fits binary64 v) → T (positive v) → Parts v
parts v f p = field (finite v f p) (eq-zero-or-pos (to_bits binary64 v / 2 ^ 52))
  where
    b : ℕ
    b = to_bits binary64 v

    same : v ≡ of_bits binary64 b
    same = sym (of_bits-to_bits binary64 v f)

    field : b < 2047 * 2 ^ 52 → (b / 2 ^ 52 ≡ 0) ⊎ (0 < b / 2 ^ 52) → Parts v
    field h (inl z) = record { m = b % 2 ^ 52; e = 0; few = omega arith; far = omega arith; is = same ∙ subnormal b h z }
    field h (inr z) = record { m = b % 2 ^ 52 + 2 ^ 52; e = b / 2 ^ 52 - 1; few = omega arith; far = omega arith; is = same ∙ normal b h z }

-- the float of a pattern is nearest to the root of v, and has just that pattern
abbrev At : Float → ℕ → Type 0
At v b = Nearest v (of_bits binary64 b) × (to_bits binary64 (of_bits binary64 b) ≡ b)

-- q is the root's 54 leading digits
with_digits : (v : Float) (m e i q : ℕ) → T (positive v) → in_units v ≡ m * 2 ^ e → m < 2 ^ 53 → i ≤ 1600 → Found (in_units v * 2 ^ 1074) i q
    → At v (pattern i ((q + 1) / 2))
with_digits v m e i q p en sm range f = (record { given = p; above_zero = positive_at; low = lower; high = higher }, there)
  where
    b : ℕ
    b = pattern i ((q + 1) / 2)

    small : b < 2047 * 2 ^ 52
    small = omega (arith, f.most)

    there : to_bits binary64 (of_bits binary64 b) ≡ b
    there = to_bits-of_bits binary64 b (omega (arith, small)) (subst (λ (x : Bool). T (not x)) (nan_bits_is binary64 b) (no_nan_bits b small))

    ew : in_units v * 2 ^ 1074 ≡ m * 2 ^ e * 2 ^ 1074
    ew = ap (λ (x : ℕ). x * 2 ^ 1074) en

    positive_at : T (positive (of_bits binary64 b))
    positive_at = subst T (sym (is_positive (of_bits binary64 b) (b % 2 ^ 52 + 2 ^ 52) (b / 2 ^ 52 - 1) (omega arith) (normal b small (omega arith)))) tt

    lower : both (next_down (of_bits binary64 b)) (of_bits binary64 b) * both (next_down (of_bits binary64 b)) (of_bits binary64 b) < 4 * (in_units v * 2 ^ 1074)
    lower = subst (λ (x : ℕ). (units (x - 1) + units b) * (units (x - 1) + units b) < 4 * (in_units v * 2 ^ 1074)) (sym there)
        (low (in_units v * 2 ^ 1074) m e i q ((q + 1) / 2) ew sm f (omega arith) (omega arith) range)

    higher : 4 * (in_units v * 2 ^ 1074) < both (of_bits binary64 b) (next_up (of_bits binary64 b)) * both (of_bits binary64 b) (next_up (of_bits binary64 b))
    higher = subst (λ (x : ℕ). 4 * (in_units v * 2 ^ 1074) < (units b + units (x + 1)) * (units b + units (x + 1))) (sym there)
        (high (in_units v * 2 ^ 1074) m e i q ((q + 1) / 2) ew sm f (omega arith) (omega arith) range)

-- n has at most 2098 digits, so that its root drops few enough
i_le : (n m e : ℕ) → n ≡ m * 2 ^ e → m < 2 ^ 53 → e ≤ 2045 → (size n + 1075) / 2 - 54 ≤ 1600
i_le n m e en sm se = omega (arith, size-le n (53 + e) (subst (λ (x : ℕ). x < 2 ^ (53 + e)) (sym en) (shl_lt 53 e sm)))

units_pos : (v : Float) → T (positive v) → (m e : ℕ) → v ≡ odd 53 false m e 1074 → 0 < in_units v
units_pos v p m e is = subst (λ (x : ℕ). 0 < x) (sym (units_are v m e is)) (value_pos v (m * 2 ^ e) (2 ^ 1074) p (pow_pos 1074) (has_value v m e is))

-- the float whose pattern is `root_bits` is nearest to the root
nearest : (v : Float) → T (fits binary64 v) → T (positive v) → At v (root_bits (in_units v))
nearest v fit p =
    let k = parts v fit p in
    let n : ℕ = in_units v in
    let i : ℕ = (size n + 1075) / 2 - 54 in
    let en = units_are v k.m k.e k.is in
    let pn = units_pos v p k.m k.e k.is in
    let f = found n i pn refl in
    subst (λ (x : ℕ). At v x) (sym (bits_of n i (isqrt 54 (n * 2 ^ 1074 / 2 ^ (2 * i))) pn f))
    (with_digits v k.m k.e i (isqrt 54 (n * 2 ^ 1074 / 2 ^ (2 * i))) p en k.few (i_le n k.m k.e en k.few k.far) f)

-- what is right to tell, by whether v has a root
tells : (v : Float) {b : Bool} → positive v ≡ b → cond b (Some (root_bits (in_units v))) None ≡ right_told v
unfolding right_told
tells v g = sym (ap (λ (b : Bool). cond b (Some (root_bits (in_units v))) None) g)

-- an answer that is `root_of v` is right, and tells what is right
pub right : (v : Float) (a : Option Float) → T (fits binary64 v) → a ≡ root_of v → (a ≡ root_of v) × (Right v a × (pivot_told a ≡ right_told v))
right v a fit e = (e, go (positive v) refl)
  where
    Answered : Option Float → Type 0
    Answered x = Right v x × (pivot_told x ≡ right_told v)

    go : (b : Bool) → positive v ≡ b → Answered a
    go true g = let n = nearest v fit (subst T (sym g) tt) in subst Answered (answer v g ∙ sym e) (n.0, ap Some n.1 ∙ tells v g)
    go false g = subst Answered (answer v g ∙ sym e) (subst (λ (b : Bool). T (not b)) (sym g) tt, tells v g)
