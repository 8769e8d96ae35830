-- A solve with an identity keeps finite numbers finite, whatever the right side. Assumes nothing.
use Prim.Native.Nat.{ℕ, zero, suc, ◌+◌, ◌-◌, ◌*◌, ◌%◌, ◌^◌, ◌≤◌, ◌<◌}
use mathlib.Core.Path.{◌≡◌, refl, sym, ap, ◌∙◌, subst}
use mathlib.Core.Bool.{Bool, true, false, not, cond, ◌&&◌, beq}
use mathlib.Core.List.{List}
use native.Mathlib.Nat.{mul-pos, lt_of_lt_of_le, lt_of_not-le, le_of_suc-le-suc, not-le_of_lt, mul-lt-mul_of_pos_right}
use native.Mathlib.Decide.{ℕ_discrete}
use native.Mathlib.Omega.{arith}
use lib.Dec.{T, eqb, ltb, leb, leb→le, ltb→lt}
use lib.Pow.{pow_pos, pow_mono, pow-lt, pow-add, shl_lt}
use lib.IntN.{ℤ, pos, negsuc}
use lib.ListN.{set, get_or, length, length-set}
use lib.Seq.{get_or-set_same, get_or-set_other}
use lib.Ieee.{Float, nan, inf, fin, binary64, up, down, unlike, round, sum, add, neg, sub, mul, div, fits}
use lib.Ieee.Exact.{HasValue, round_exact}
use lib.Ieee.Fits.{up_pos, down_pos, sub-fits, div-fits}
use Rattle.matrix.specs.Views.{place, entry, flip}
use Rattle.matrix.specs.Sums.{plus_zero, one, terms, deduct, deduct_of}
use Rattle.matrix.specs.Stores.{steps}
use Rattle.matrix.specs.Finite.{is_finite}
use Rattle.matrix.specs.declared.View.{View}
use Rattle.matrix.proofs.Entries.{steps-length}
use Rattle.matrix.proofs.Diagonal.{same_place, other_place}
use Rattle.cholesky.specs.Solve.{solved_row, solve_lower, solve_upper, solved}
use Rattle.cholesky.proofs.Identity.{Identity, turned}

-- ---- a number that the format holds is not lost by rounding

unfoldable pub Plain : Float → Type 0
Plain x = T (fits binary64 x) × (is_finite x ≡ true)

valued : (x : Float) (s : Bool) (a c : ℕ) → HasValue x s a c → is_finite x ≡ true
valued nan s a c h = absurd h
valued (inf t) s a c h = absurd h
valued (fin t m e) s a c h = refl

-- the units of 2 ^ -1074 in m * 2 ^ e are m * 2 ^ j
record Grid (m : ℕ) (e : ℤ) : Type 0 where
  j : ℕ
  few : m < 2 ^ 53
  fine : m * 2 ^ j < 2 ^ (1074 + 1024)
  same : m * up e * 2 ^ 1074 ≡ m * 2 ^ j * down e

parts : (a b c d : Bool) → T (a && b && c && d) → T b × T c × T d
parts true true true true h = (tt, tt, tt)
parts true true true false h = absurd h
parts true true false d h = absurd h
parts true false c d h = absurd h
parts false b c d h = absurd h

exponents : (a b : ℕ) → 2 ^ a ≤ 2 ^ b → a ≤ b
exponents a b h = le_of_suc-le-suc (lt_of_not-le (λ (g : suc b ≤ a). not-le_of_lt (pow-lt g) h))

-- above 1 the exponent moves the number up, below 1 it takes places away
up_fine : (m k a b : ℕ) → m * 2 ^ k < 2 ^ b * 1 → m * 2 ^ (k + a) < 2 ^ (a + b)
up_fine m k a b h = rw (pow-add 2 k a, pow-add 2 a b) (go (2 ^ k) (2 ^ a) (2 ^ b) h (pow_pos a))
  where
    go : (p w c : ℕ) → m * p < c * 1 → 0 < w → m * (p * w) < w * c
    go p w c l q = omega (arith, mul-lt-mul_of_pos_right l q)

up_same : (m k a : ℕ) → m * 2 ^ k * 2 ^ a ≡ m * 2 ^ (k + a) * 1
up_same m k a = rw (pow-add 2 k a) (go (2 ^ k) (2 ^ a))
  where
    go : (p w : ℕ) → m * p * w ≡ m * (p * w) * 1
    go p w = omega arith

down_fine : (m d a b : ℕ) → m < 2 ^ 53 → 53 ≤ b → m * 2 ^ (a - d) < 2 ^ (a + b)
down_fine m d a b h l = lt_of_lt_of_le (shl_lt 53 (a - d) h) (pow_mono {i = 53 + (a - d)} {j = a + b} (omega arith))

down_same : (m d a : ℕ) → d ≤ a → m * 1 * 2 ^ a ≡ m * 2 ^ (a - d) * 2 ^ d
down_same m d a h =
    let e : a ≡ a - d + d = omega arith in
    ap (λ (z : ℕ). m * 1 * 2 ^ z) e ∙ ap (λ (z : ℕ). m * 1 * z) (pow-add 2 (a - d) d) ∙ go (2 ^ (a - d)) (2 ^ d)
  where
    go : (p w : ℕ) → m * 1 * (p * w) ≡ m * p * w
    go p w = omega arith

nothing : (u w d : ℕ) → 0 * u * w ≡ 0 * d
nothing u w d = omega arith

grid : (t : Bool) (m : ℕ) (e : ℤ) → T (fits binary64 (fin t m e)) → Grid m e
unfolding fits
grid t zero e h = record { j = 0; few = pow_pos 53; fine = pow_pos (1074 + 1024); same = nothing (up e) (2 ^ 1074) (down e) }
grid t (suc m) (pos k) h =
    let p = parts (eqb (suc m % 2) 1) (ltb (suc m) (2 ^ 53)) (leb 1 (2 ^ 1074)) (ltb (suc m * 2 ^ k) (2 ^ 1024 * 1)) h in
    record {
      j = k + 1074;
      few = ltb→lt (suc m) (2 ^ 53) p.0;
      fine = up_fine (suc m) k 1074 1024 (ltb→lt (suc m * 2 ^ k) (2 ^ 1024 * 1) p.2);
      same = up_same (suc m) k 1074;
    }
grid t (suc m) (negsuc k) h =
    let p = parts (eqb (suc m % 2) 1) (ltb (suc m) (2 ^ 53)) (leb (2 ^ suc k) (2 ^ 1074)) (ltb (suc m * 1) (2 ^ 1024 * 2 ^ suc k)) h in
    let few : suc m < 2 ^ 53 = ltb→lt (suc m) (2 ^ 53) p.0 in
    record {
      j = 1074 - suc k;
      few = few;
      fine = down_fine (suc m) (suc k) 1074 1024 few (omega arith);
      same = down_same (suc m) (suc k) 1074
          (exponents (suc k) 1074 (leb→le (2 ^ suc k) (2 ^ 1074) p.1));
    }

-- so a fraction that is such a number, over any denominator, is not rounded to an infinity
rounds : (s t : Bool) (m : ℕ) (e : ℤ) → T (fits binary64 (fin t m e)) → (num den d : ℕ) → 0 < d → num ≡ m * up e * d → den ≡ down e * d
    → is_finite (round binary64 s num den) ≡ true
rounds s t m e h num den d p en ed =
    let g = grid t m e h in
    valued (round binary64 s num den) s num den
    (round_exact binary64 s num den m g.j (subst (λ (z : ℕ). 0 < z) (sym ed) (mul-pos (down_pos e) p)) g.few g.fine
    (go (m * up e) (m * 2 ^ g.j) (down e) (2 ^ 1074) g.same en ed))
  where
    go : (a b c w : ℕ) → a * w ≡ b * c → num ≡ a * d → den ≡ c * d → num * w ≡ b * den
    go a b c w e₁ e₂ e₃ = rw (e₂, e₃) (omega (arith, ap (λ (z : ℕ). z * d) e₁))

-- ---- what an identity does to such numbers: a zero is taken off, and the rest is divided by 1.0

-- a zero of either sign
Null : Float → Type 0
Null nan = ⊥
Null (inf t) = ⊥
Null (fin t m e) = m ≡ 0

null_of_value : (x : Float) (s : Bool) (a c : ℕ) → a ≡ 0 → 0 < c → HasValue x s a c → Null x
unfolding Null
null_of_value nan s a c z p h = absurd h
null_of_value (inf t) s a c z p h = absurd h
null_of_value (fin t zero e) s a c z p h = refl
null_of_value (fin t (suc m) e) s a c z p h = absurd (go (up e) (down e) (up_pos e) h.1)
  where
    go : (u d : ℕ) → 0 < u → suc m * u * c ≡ a * d → ⊥
    go u d q g = omega (arith, mul-pos q p, ap (λ (y : ℕ). y * d) z)

rounds_null : (s : Bool) (num den : ℕ) → num ≡ 0 → 0 < den → Null (round binary64 s num den)
rounds_null s num den z p =
    null_of_value (round binary64 s num den) s num den z p (round_exact binary64 s num den 0 0 p (pow_pos 53) (pow_pos (1074 + 1024)) (go (2 ^ 1074)))
  where
    go : (w : ℕ) → num * w ≡ 0 * 1 * den
    go w = omega (arith, ap (λ (y : ℕ). y * w) z)

never : false ≡ true → ⊥
never e = subst (λ (b : Bool). T (not b)) e tt

zero_times : (y : Float) → Plain y → Null (mul binary64 plus_zero y)
unfolding Plain mul
zero_times nan h = absurd (never h.1)
zero_times (inf t) h = absurd (never h.1)
zero_times (fin t n d) h = rounds_null (unlike false t) (0 * 1 * (n * up d)) (1 * down d) (omega arith) (mul-pos (pow_pos 0) (down_pos d))

cond-finite : (b : Bool) (x y : Float) → is_finite x ≡ true → is_finite y ≡ true → is_finite (cond b x y) ≡ true
cond-finite true x y p q = p
cond-finite false x y p q = q

sums : (s t : Bool) (m : ℕ) (e : ℤ) → T (fits binary64 (fin s m e)) → (a b c d : ℕ) → 0 < d → a ≡ m * up e * d → b ≡ 0 → c ≡ down e * d
    → is_finite (sum binary64 s a t b c) ≡ true
unfolding sum fits
sums s t m e h a b c d p ea eb ec =
    cond-finite (beq s t) (round binary64 s (a + b) c) (cond (ltb a b) (round binary64 t (b - a) c) (round binary64 (s && ltb b a) (a - b) c))
    (rounds s s m e h (a + b) c d p (omega arith) ec)
    (cond-finite (ltb a b) (round binary64 t (b - a) c) (round binary64 (s && ltb b a) (a - b) c)
    (rounds t false 0 (pos 0) tt (b - a) c c (subst (λ (z : ℕ). 0 < z) (sym ec) (mul-pos (down_pos e) p)) (omega arith) (omega arith))
    (rounds (s && ltb b a) s m e h (a - b) c d p (omega arith) ec))

less_null : (x z : Float) → Plain x → Null z → is_finite (sub binary64 x z) ≡ true
unfolding Plain Null sub add neg
less_null nan z h n = h.1
less_null (inf s) z h n = absurd (never h.1)
less_null (fin s m e) nan h n = absurd n
less_null (fin s m e) (inf t) h n = absurd n
less_null (fin s m e) (fin t z d) h n = sums s (not t) m e h.0 (m * up e * down d) (z * up d * down e) (down e * down d) (down d) (down_pos d) refl
    (go (up d) (down e)) refl
  where
    go : (u w : ℕ) → z * u * w ≡ 0
    go u w = rw n (omega arith)

by_one : (x : Float) → Plain x → is_finite (div binary64 x one) ≡ true
unfolding Plain div
by_one nan h = h.1
by_one (inf s) h = absurd (never h.1)
by_one (fin s m e) h = rounds (unlike s false) s m e h.0 (m * up e * 1) (1 * 1 * down e) 1 (pow_pos 0) refl (omega arith)

takes_off : (x : Float) (f : ℕ → Float) (n : ℕ) → Plain x → ((k : ℕ) → k < n → Null (f k)) → Plain (deduct x f n)
unfolding deduct Plain
takes_off x f zero h z = h
takes_off x f (suc n) h z =
    let r = takes_off x f n h (λ k l. z k (omega arith)) in
    (sub-fits binary64 (deduct x f n) (f n), less_null (deduct x f n) (f n) r (z n (omega arith)))

-- ---- the solve

-- all numbers of a list are finite numbers of the format
unfoldable pub AllPlain : List Float → Type 0
AllPlain s = (k : ℕ) → k < length s → Plain (get_or s k nan)

plain_set : (s : List Float) (p : ℕ) (x : Float) → AllPlain s → Plain x → AllPlain (set s p x)
unfolding AllPlain
plain_set s p x A h k l = go (ℕ_discrete k p)
  where
    go : Dec (k ≡ p) → Plain (get_or (set s p x) k nan)
    go (yes e) = rw (e, get_or-set_same s p x nan (rw (length-set, e) at l)) h
    go (no e) = rw (get_or-set_other s p k x nan e) (A k (rw length-set at l))

plain_steps : (at : ℕ → ℕ) (f : ℕ → List Float → Float) (s : List Float) (n : ℕ)
    → ((i : ℕ) → i < n → (t : List Float) → length t ≡ length s → AllPlain t → Plain (f i t)) → AllPlain s → AllPlain (steps at f s n)
unfolding steps
plain_steps at f s zero h A = A
plain_steps at f s (suc n) h A =
    let B = plain_steps at f s n (λ i l. h i (omega arith)) A in
    plain_set (steps at f s n) (at n) (f n (steps at f s n)) B (h n (omega arith) (steps at f s n) (steps-length at f s n) B)

module _ (l : List Float) (lv : View) (n : ℕ) (I : Identity lv n l) (xv : View) (c : ℕ) where
  row_plain : (x : List Float) → ((i : ℕ) → i < n → place xv i c < length x) → AllPlain x → (i lo m : ℕ) → i < n → lo + m ≤ n
      → ((k : ℕ) → k < m → i ≡ lo + k → ⊥) → Plain (solved_row l lv i x xv c lo m)
  unfolding solved_row deduct_of Identity AllPlain Plain
  row_plain x inside A i lo m hi hm off =
      let y = takes_off (entry x xv i c) (λ k. terms l lv i x xv c (lo + k)) m (A (place xv i c) (inside i hi))
      (λ k h. rw (I i (lo + k) hi (omega arith) ∙ other_place one i (lo + k) (off k h))
      (zero_times (entry x xv (lo + k) c) (A (place xv (lo + k) c) (inside (lo + k) (omega arith))))) in
      (div-fits binary64 _ _, rw (I i i hi hi ∙ same_place one i) (by_one _ y))

  lower_plain : (x : List Float) → ((i : ℕ) → i < n → place xv i c < length x) → AllPlain x → AllPlain (solve_lower l lv xv c x n)
  unfolding solve_lower
  lower_plain x inside A =
      plain_steps (λ i. place xv i c) (λ i t. solved_row l lv i t xv c 0 i) x n
      (λ i h t e B. row_plain t (λ k p. rw e (inside k p)) B i 0 i h (omega arith) (λ k p q. omega arith)) A

  upper_plain : (x : List Float) → ((i : ℕ) → i < n → place xv i c < length x) → AllPlain x → AllPlain (solve_upper l lv n xv c x n)
  unfolding solve_upper
  upper_plain x inside A =
      plain_steps (λ d. place xv (n - (d + 1)) c) (λ d t. solved_row l lv (n - (d + 1)) t xv c (n - (d + 1) + 1) d) x n
      (λ d h t e B. row_plain t (λ k p. rw e (inside k p)) B (n - (d + 1)) (n - (d + 1) + 1) d (omega arith) (omega arith) (λ k p q. omega arith)) A

-- the law: with an identity for its factor, a solve of finite numbers has finite numbers
pub solve_plain : (l : List Float) (lv : View) (n : ℕ) → Identity lv n l → (xv : View) (c : ℕ) (x : List Float)
    → ((i : ℕ) → i < n → place xv i c < length x) → AllPlain x → AllPlain (solved l lv n xv c x)
unfolding solved solve_lower
solve_plain l lv n I xv c x inside A =
    upper_plain l (flip lv) n (turned lv n l I) xv c (solve_lower l lv xv c x n)
    (λ i h. rw (steps-length (λ i. place xv i c) (λ i t. solved_row l lv i t xv c 0 i) x n) (inside i h))
    (lower_plain l lv n I xv c x inside A)
