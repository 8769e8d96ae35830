-- A midpoint between two floats is never the root of a float: twice it is odd and has 54 digits, so that its square has too many. Assumes nothing.
use Rattle.std.proofs.Common.{◌≡◌, ℕ, ◌+◌, ◌-◌, ◌*◌, ◌/◌, ◌%◌, ◌^◌, ◌<◌, ◌≤◌, sym, refl, ap, ◌∙◌, ⊎_elim, eq-or-lt_of_le, mul-le-mul_left, arith, pow_pos}
use native.Mathlib.Nat.{eq_of_mul-eq-mul_right}
use Rattle.root.proofs.Bit.{split}
use Rattle.root.proofs.Leading.{Found}
use Rattle.root.proofs.Powers.{apart}

no_tie : (m a q t : ℕ) → m < 2 ^ 53 → 2 ^ 53 ≤ q → q % 2 ≡ 1 → m * 2 ^ a ≡ q * q * 2 ^ t → ⊥
no_tie m a q t s l o e = ⊎_elim high low (split a t)
  where
    one : 1 ≤ q
    one = omega arith

    once : (x d : ℕ) → x ≤ x * 2 ^ d
    once x d = omega (arith, mul-le-mul_left x (pow_pos d))

    high : a ≤ t → ⊥
    high h = omega (
      arith,
      mul-le-mul_left q one,
      once (q * q) (t - a),
      eq_of_mul-eq-mul_right (2 ^ a) (pow_pos a) m (q * q * 2 ^ (t - a)) (e ∙ apart (q * q) (t - a) a t (omega arith)),
    )

    parity : (u x : ℕ) → q ≡ 2 * u + 1 → x * 2 ≡ q * q → ⊥
    parity u x eq ex = omega (arith, ap (λ (z : ℕ). z * z) eq)

    low : t < a → ⊥
    low h =
        parity (q / 2) (m * 2 ^ (a - t - 1)) (omega arith)
        (eq_of_mul-eq-mul_right (2 ^ t) (pow_pos t) (m * 2 ^ (a - t - 1) * 2) (q * q)
        (ap (λ (x : ℕ). x * 2 ^ t) (sym (apart m (a - t - 1) 1 (a - t) (omega arith))) ∙ sym (apart m (a - t) t a (omega arith)) ∙ e))

-- so an odd q leaves something
pub strict : (w m e i q : ℕ) → w ≡ m * 2 ^ e * 2 ^ 1074 → m < 2 ^ 53 → Found w i q → q % 2 ≡ 1 → q * q * 2 ^ (2 * i) < w
strict w m e i q ew s f o = ⊎_elim (λ (g : q * q * 2 ^ (2 * i) ≡ w). absurd (tied g)) (λ (g : q * q * 2 ^ (2 * i) < w). g) (eq-or-lt_of_le f.below)
  where
    tied : q * q * 2 ^ (2 * i) ≡ w → ⊥
    tied g = no_tie m (e + 1074) q (2 * i) s f.least o (apart m e 1074 (e + 1074) refl ∙ sym (g ∙ ew))
