-- What the tests of a guess show: it, or one more, is the root. Assumes nothing.
use Rattle.std.proofs.Common.{◌≡◌, ℕ, ◌+◌, ◌*◌, ◌/◌, ◌%◌, ◌^◌, ◌<◌, ◌≤◌, le_of_lt, mod-lt, mul-le-mul, arith}
use Rattle.root.specs.Digits.{Rooted}
use Rattle.root.proofs.Bit.{bit, either}
use Rattle.root.proofs.Isqrt.{IsRoot, ranged}

-- a guess in two parts of 27 digits, and those put together
abbrev upper : ℕ → ℕ
upper g = g / 2 ^ 27 % 2 ^ 27

abbrev lower : ℕ → ℕ
lower g = g % 2 ^ 27

abbrev pub joined : ℕ → ℕ
joined g = upper g * 2 ^ 27 + lower g

-- the product of two such parts
pub product_le : (a b : ℕ) → a % 2 ^ 27 * (b % 2 ^ 27) ≤ 2 ^ 54
product_le a b = mul-le-mul (le_of_lt (mod-lt a (omega arith))) (le_of_lt (mod-lt b (omega arith)))

-- q ^ 2 leaves l of p
one_of_two : (p q l : ℕ) → p ≡ q * q + l → l ≤ q * 4 + 3 → IsRoot p (q + bit (q * 2 + 1) l)
one_of_two p q l e h =
    either (λ (d : ℕ). IsRoot p (q + d)) (q * 2 + 1) l
    (λ (g : q * 2 + 1 ≤ l). record { below = omega arith; above = omega arith })
    (λ (g : l < q * 2 + 1). record { below = omega arith; above = omega arith })

rooted : (m z : ℕ) → 2 ^ 52 ≤ m → m < 2 ^ 54 → IsRoot (m * 2 ^ 54) z → Rooted m z 54
rooted m z l h r =
    let b = ranged (m * 2 ^ 54) z r (omega arith) (omega arith) in
    record { steps = omega arith; least = b.0; most = b.1; below = omega (arith, r.below); above = omega (arith, r.above) }

-- what two steps leave of m * 2 ^ 54: r of m, and u of r * 2 ^ 27
whole : (m c x r u l : ℕ) → r + c * c ≡ m → u + c * 2 * x ≡ r * 2 ^ 27 → l + x * x ≡ u * 2 ^ 27 → m * 2 ^ 54 ≡ (c * 2 ^ 27 + x) * (c * 2 ^ 27 + x) + l
whole m c x r u l e f g = omega arith

-- the differences r, u and l are taken modulo 2 ^ 64, and the tests say that none of them wrapped
pub settles : (m g r u l : ℕ) → 2 ^ 52 ≤ m → m < 2 ^ 54
    → (r + upper g * upper g) % 2 ^ 64 ≡ m → r < 2 ^ 37
    → (u + upper g * 2 * lower g) % 2 ^ 64 ≡ r * 2 ^ 27 → u < 2 ^ 37
    → (l + lower g * lower g) % 2 ^ 64 ≡ u * 2 ^ 27 → l ≤ joined g * 4 + 3
    → Rooted m (joined g + bit (joined g * 2 + 1) l) 54
settles m g r u l hm km er hr eu hu el hl =
    rooted m (joined g + bit (joined g * 2 + 1) l) hm km
    (one_of_two (m * 2 ^ 54) (joined g) l
    (whole m (upper g) (lower g) r u l (omega (arith, product_le (g / 2 ^ 27) (g / 2 ^ 27))) (omega (arith, product_le (g / 2 ^ 27) g))
    (omega (arith, product_le g g)))
    hl)
