-- The digits of a mask under the operations, and two masks with the same digits.
-- Assumes nothing.
use mathlib.Core.Path.{◌≡◌, refl, sym, ap, subst, ◌∙◌}
use mathlib.Core.Logic.{◌≢◌}
use mathlib.Core.Bool.{Bool, true, false, not, ◌&&◌, ◌||◌}
use Prim.Native.Nat.{ℕ, zero, suc, ◌+◌, ◌*◌, ◌/◌, ◌%◌, ◌^◌, ◌<◌, min, max}
use native.Mathlib.Nat.{mod-lt, mul-div_cancel, mul-mod_left, pow-suc, div-add-mod'}
use native.Mathlib.Omega.{arith}
use native.Mathlib.Decide.{ℕ_discrete}
use lib.Arith.{digits_div, digits_mod, bin_ind}
use lib.Bits.{bit_and, bit_or, bit_xor, differ, and_step, or_step, xor_step}
use lib.Dec.{T, eqb, eqb-suc-zero, eqb-zero-suc, eqb-suc-suc}
use Rattle.plan.specs.Mask.{has}

-- exclusive or
abbrev pub differs : Bool → Bool → Bool
differs true b = not b
differs false b = b

module _ (op f : ℕ → ℕ → ℕ) (g : Bool → Bool → Bool)
    (step : (a b : ℕ) → op a b ≡ op (a / 2) (b / 2) * 2 + f (a % 2) (b % 2))
    (digit : (x y : ℕ) → x < 2 → y < 2 → (f x y < 2) × (eqb (f x y) 1 ≡ g (eqb x 1) (eqb y 1))) where
  has_op : (j a b : ℕ) → has j (op a b) ≡ g (has j a) (has j b)
  unfolding has
  has_op zero a b =
      let d = digit (a % 2) (b % 2) (mod-lt a (omega arith)) (mod-lt b (omega arith)) in
      ap (λ (z : ℕ). eqb (z % 2) 1) (step a b) ∙ ap (λ (z : ℕ). eqb z 1) (digits_mod (op (a / 2) (b / 2)) d.0) ∙ d.1
  has_op (suc j) a b =
      let d = digit (a % 2) (b % 2) (mod-lt a (omega arith)) (mod-lt b (omega arith)) in
      ap (λ (z : ℕ). has j (z / 2)) (step a b) ∙ ap (has j) (digits_div (op (a / 2) (b / 2)) d.0) ∙ has_op j (a / 2) (b / 2)

and-digit : (x y : ℕ) → x < 2 → y < 2 → (min x y < 2) × (eqb (min x y) 1 ≡ eqb x 1 && eqb y 1)
and-digit zero zero h k = (omega arith, refl)
and-digit zero (suc zero) h k = (omega arith, refl)
and-digit (suc zero) zero h k = (omega arith, refl)
and-digit (suc zero) (suc zero) h k = (omega arith, refl)
and-digit zero (suc (suc y)) h k = absurd (omega arith)
and-digit (suc zero) (suc (suc y)) h k = absurd (omega arith)
and-digit (suc (suc x)) y h k = absurd (omega arith)

or-digit : (x y : ℕ) → x < 2 → y < 2 → (max x y < 2) × (eqb (max x y) 1 ≡ eqb x 1 || eqb y 1)
or-digit zero zero h k = (omega arith, refl)
or-digit zero (suc zero) h k = (omega arith, refl)
or-digit (suc zero) zero h k = (omega arith, refl)
or-digit (suc zero) (suc zero) h k = (omega arith, refl)
or-digit zero (suc (suc y)) h k = absurd (omega arith)
or-digit (suc zero) (suc (suc y)) h k = absurd (omega arith)
or-digit (suc (suc x)) y h k = absurd (omega arith)

xor-digit : (x y : ℕ) → x < 2 → y < 2 → (differ x y < 2) × (eqb (differ x y) 1 ≡ differs (eqb x 1) (eqb y 1))
xor-digit zero zero h k = (omega arith, refl)
xor-digit zero (suc zero) h k = (omega arith, refl)
xor-digit (suc zero) zero h k = (omega arith, refl)
xor-digit (suc zero) (suc zero) h k = (omega arith, refl)
xor-digit zero (suc (suc y)) h k = absurd (omega arith)
xor-digit (suc zero) (suc (suc y)) h k = absurd (omega arith)
xor-digit (suc (suc x)) y h k = absurd (omega arith)

pub has-and : (j a b : ℕ) → has j (bit_and a b) ≡ has j a && has j b
has-and = has_op bit_and min (λ a b. a && b) and_step and-digit

pub has-or : (j a b : ℕ) → has j (bit_or a b) ≡ has j a || has j b
has-or = has_op bit_or max (λ a b. a || b) or_step or-digit

pub has-xor : (j a b : ℕ) → has j (bit_xor a b) ≡ differs (has j a) (has j b)
has-xor = has_op bit_xor differ differs xor_step xor-digit

pub has-zero : (j : ℕ) → has j 0 ≡ false
unfolding has
has-zero zero = refl
has-zero (suc j) = has-zero j

pub has-single : (j k : ℕ) → has j (2 ^ k) ≡ eqb j k
unfolding has
has-single zero zero = refl
has-single zero (suc k) = ap (λ (z : ℕ). eqb (z % 2) 1) (pow-suc 2 k) ∙ ap (λ (z : ℕ). eqb z 1) (mul-mod_left (2 ^ k) 2) ∙ sym (eqb-zero-suc k)
has-single (suc j) zero = has-zero j ∙ sym (eqb-suc-zero j)
has-single (suc j) (suc k) =
    ap (λ (z : ℕ). has j (z / 2)) (pow-suc 2 k) ∙ ap (has j) (mul-div_cancel (2 ^ k) (omega arith)) ∙ has-single j k ∙ sym (eqb-suc-suc j k)

has-odd : (n : ℕ) → n % 2 ≡ 1 → T (has 0 n)
unfolding has
has-odd n e = rw e tt

has_half : (n j : ℕ) → T (has j (n / 2)) → T (has (suc j) n)
unfolding has
has_half n j t = t

-- a mask that is not 0 has a digit
pub some-has : (m : ℕ) → m ≢ 0 → (j : ℕ) × T (has j m)
some-has = bin_ind (λ (n : ℕ). n ≢ 0 → (j : ℕ) × T (has j n)) (λ h. absurd (h refl)) more
  where
    pick : (n : ℕ) → (n / 2 ≢ 0 → (j : ℕ) × T (has j (n / 2))) → n ≢ 0 → Dec (n % 2 ≡ 1) → (j : ℕ) × T (has j n)
    pick n ih h (yes e) = (0, has-odd n e)
    pick n ih h (no e) =
        let r = ih (λ z. h (sym (div-add-mod' n 2) ∙ omega (arith, mod-lt n {m = 2} (omega arith)))) in
        (suc r.0, has_half n r.0 r.1)

    more : (n : ℕ) → (n / 2 ≢ 0 → (j : ℕ) × T (has j (n / 2))) → n ≢ 0 → (j : ℕ) × T (has j n)
    more n ih h = pick n ih h (ℕ_discrete (n % 2) 1)

none_has : (b : ℕ) → ((j : ℕ) → has j 0 ≡ has j b) → 0 ≡ b
none_has b h = go (ℕ_discrete 0 b)
  where
    go : Dec (0 ≡ b) → 0 ≡ b
    go (yes e) = e
    go (no e) = let r = some-has b (λ z. e (sym z)) in absurd (subst T (sym (h r.0) ∙ has-zero r.0) r.1)

same-odd : (x y : ℕ) → x < 2 → y < 2 → eqb x 1 ≡ eqb y 1 → x ≡ y
same-odd zero zero h k e = refl
same-odd zero (suc zero) h k e = absurd (subst T (sym e) tt)
same-odd (suc zero) zero h k e = absurd (subst T e tt)
same-odd (suc zero) (suc zero) h k e = refl
same-odd zero (suc (suc y)) h k e = absurd (omega arith)
same-odd (suc zero) (suc (suc y)) h k e = absurd (omega arith)
same-odd (suc (suc x)) y h k e = absurd (omega arith)

halved : (n : ℕ) → ((b : ℕ) → ((j : ℕ) → has j (n / 2) ≡ has j b) → n / 2 ≡ b) → (b : ℕ) → ((j : ℕ) → has j n ≡ has j b) → n ≡ b
unfolding has
halved n ih b h =
    let o = same-odd (n % 2) (b % 2) (mod-lt n (omega arith)) (mod-lt b (omega arith)) (h 0) in
    let q = ih (b / 2) (λ j. h (suc j)) in
    omega (arith, div-add-mod' n 2, div-add-mod' b 2)

-- two masks with the same digits are one
pub has_ext : (a b : ℕ) → ((j : ℕ) → has j a ≡ has j b) → a ≡ b
has_ext = bin_ind (λ (n : ℕ). (b : ℕ) → ((j : ℕ) → has j n ≡ has j b) → n ≡ b) none_has halved
