-- How many units of 2 ^ -1074 a bit pattern stands for, and that larger patterns stand for more. Assumes nothing.
use Rattle.std.proofs.Common.{◌≡◌, ℕ, zero, suc, ◌+◌, ◌-◌, ◌*◌, ◌/◌, ◌%◌, ◌^◌, ◌<◌, ◌≤◌, sym, ap, ◌∙◌, ⊎_elim, le_trans, le_of_eq, mul-le-mul_right, eq-or-lt_of_le, mul-one, arith, pow-add}
use lib.Ieee.{binary64, of_bits}
use Rattle.root.specs.Root.{in_units}
use Rattle.root.proofs.Bit.{split}
use Rattle.root.proofs.Values.{normal, subnormal, units_are}

abbrev pub units : ℕ → ℕ
units b = in_units (of_bits binary64 b)

-- a significand of 53 digits, or one more than the largest, and k places up
pub units_at : (k m : ℕ) → k * 2 ^ 52 + m < 2047 * 2 ^ 52 → 2 ^ 52 ≤ m → m ≤ 2 ^ 53 → units (k * 2 ^ 52 + m) ≡ m * 2 ^ k
units_at k m h l u = ⊎_elim whole part (eq-or-lt_of_le u)
  where
    is : (d y : ℕ) → (k * 2 ^ 52 + m) % 2 ^ 52 + 2 ^ 52 ≡ d → (k * 2 ^ 52 + m) / 2 ^ 52 ≡ suc y → units (k * 2 ^ 52 + m) ≡ d * 2 ^ y
    is d y ed ey =
        units_are (of_bits binary64 (k * 2 ^ 52 + m)) ((k * 2 ^ 52 + m) % 2 ^ 52 + 2 ^ 52) ((k * 2 ^ 52 + m) / 2 ^ 52 - 1)
        (normal (k * 2 ^ 52 + m) h (omega arith))
        ∙ ap (λ (x : ℕ). x * 2 ^ ((k * 2 ^ 52 + m) / 2 ^ 52 - 1)) ed
        ∙ ap (λ (x : ℕ). d * 2 ^ x) (omega arith)

    part : m < 2 ^ 53 → units (k * 2 ^ 52 + m) ≡ m * 2 ^ k
    part g = is m k (omega arith) (omega arith)

    whole : m ≡ 2 ^ 53 → units (k * 2 ^ 52 + m) ≡ m * 2 ^ k
    whole g = is (2 ^ 52) (k + 1) (omega arith) (omega arith) ∙ omega (arith, pow-add 2 k 1, ap (λ (x : ℕ). x * 2 ^ k) g)

-- below 2 ^ 52 a pattern is its number of units
tiny : (b : ℕ) → b < 2 ^ 52 → units b ≡ b
tiny b h = units_are (of_bits binary64 b) (b % 2 ^ 52) 0 (subnormal b (omega arith) (omega arith)) ∙ mul-one (b % 2 ^ 52) ∙ omega arith

step : (b : ℕ) → b + 1 < 2047 * 2 ^ 52 → units b ≤ units (b + 1)
step b h = ⊎_elim sub norm (split (b + 1) (2 ^ 52))
  where
    sub : b + 1 ≤ 2 ^ 52 → units b ≤ units (b + 1)
    sub g = le_trans (le_of_eq (tiny b (omega arith))) (⊎_elim edge inside (split (2 ^ 52) (b + 1)))
      where
        inside : b + 1 < 2 ^ 52 → b ≤ units (b + 1)
        inside l = omega (arith, tiny (b + 1) l)

        edge : 2 ^ 52 ≤ b + 1 → b ≤ units (b + 1)
        edge l = le_trans (omega arith) (le_of_eq (sym (ap units (omega arith) ∙ units_at 0 (2 ^ 52) (omega arith) (omega arith) (omega arith))))

    norm : 2 ^ 52 < b + 1 → units b ≤ units (b + 1)
    norm g =
        let k : ℕ = b / 2 ^ 52 - 1 in
        let m : ℕ = b % 2 ^ 52 + 2 ^ 52 in
        le_trans (le_of_eq (ap units (omega arith) ∙ units_at k m (omega arith) (omega arith) (omega arith)))
        (le_trans (mul-le-mul_right (2 ^ k) (omega arith))
        (le_of_eq (sym (ap units (omega arith) ∙ units_at k (m + 1) (omega arith) (omega arith) (omega arith)))))

rise : (d b : ℕ) → b + d < 2047 * 2 ^ 52 → units b ≤ units (b + d)
rise zero b h = le_of_eq (ap units (omega arith))
rise (suc d) b h = le_trans (rise d b (omega arith)) (le_trans (step (b + d) (omega arith)) (le_of_eq (ap units (omega arith))))

-- a larger pattern stands for a larger number
pub mono : (b c : ℕ) → b ≤ c → c < 2047 * 2 ^ 52 → units b ≤ units c
mono b c l h = le_trans (rise (c - b) b (omega arith)) (le_of_eq (ap units (omega arith)))
