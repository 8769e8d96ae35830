-- A power of two taken apart. Assumes nothing.
use Rattle.std.proofs.Common.{◌≡◌, ℕ, ◌+◌, ◌*◌, ◌^◌, sym, ap, ◌∙◌, mul_assoc, pow-add}

pub apart : (x d k n : ℕ) → n ≡ d + k → x * 2 ^ n ≡ x * 2 ^ d * 2 ^ k
apart x d k n e = ap (λ (z : ℕ). x * 2 ^ z) e ∙ ap (λ (z : ℕ). x * z) (pow-add 2 d k) ∙ sym (mul_assoc x (2 ^ d) (2 ^ k))
