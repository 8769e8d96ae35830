-- `lines::numbers_of`: a size is at most 6.
use Rattle.std.proofs.Common.{◌≡◌, ℕ, ◌+◌, ◌*◌, ◌≤◌, ap, arith}
use native.Mathlib.Nat.{mul-le-mul}
use Rattle.factor.specs.Limits.{max_size}
use Rattle.graph.proofs.Validity.{valid-size, size-most}
use Rattle.lines.proofs.numbers_of.Goals as goal

small : (s t : ℕ) → s ≡ t → t ≤ max_size → s + s * s ≤ 42
small s t e l = let k : s ≤ 6 = omega arith in omega (arith, mul-le-mul k k)

pub returns : goal.returns
returns c =
    let pre = c.requires in (
      ap (λ (n : ℕ). n + n * n) c.size_of-s.ensures.0,
      small c.size_of-s.result _ c.size_of-s.ensures.0 (size-most _ (valid-size c.args.g pre.0 c.args.key pre.1)),
    )
