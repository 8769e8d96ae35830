-- A test made a number, as `(t <= r) as u64` has it. Assumes nothing.
use Rattle.std.proofs.Common.{ℕ, ◌*◌, ◌<◌, ◌≤◌, Bool, true, false, not, T, leb, ◌⊎◌, inl, inr, arith, leb→le}
use lib.Dec.{nleb→lt}
use mir.Val.{bool_byte}

abbrev pub bit : ℕ → ℕ → ℕ
bit t r = bool_byte (leb t r)

-- what holds of 1 where the test holds, and of 0 where it fails, holds of the bit
pub either : (P : ℕ → Type 0) (t r : ℕ) → (t ≤ r → P 1) → (r < t → P 0) → P (bit t r)
either P t r y z = go (leb t r) (leb→le t r) (nleb→lt t r)
  where
    go : (b : Bool) → (T b → t ≤ r) → (T (not b) → r < t) → P (bool_byte b)
    go true u v = y (u tt)
    go false u v = z (v tt)

pub bit_le : (t r : ℕ) → bit t r ≤ 1
bit_le t r = either (λ (d : ℕ). d ≤ 1) t r (λ (h : t ≤ r). omega arith) (λ (h : r < t). omega arith)

pub taken-le : (t r : ℕ) → t * bit t r ≤ r
taken-le t r = either (λ (d : ℕ). t * d ≤ r) t r (λ (h : t ≤ r). omega arith) (λ (h : r < t). omega arith)

-- one of the two holds
pub split : (t r : ℕ) → (t ≤ r) ⊎ (r < t)
split t r = either (λ (d : ℕ). (t ≤ r) ⊎ (r < t)) t r inl inr
