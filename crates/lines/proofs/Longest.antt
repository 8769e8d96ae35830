-- How long the texts can be, so that a caller can lend a buffer that is never too short. Assumes nothing.
use Prim.Native.Nat.{ℕ, ◌+◌, ◌*◌, ◌^◌, ◌≤◌, ◌<◌}
use mathlib.Core.Path.{◌≡◌}
use mathlib.Core.Bool.{true}
use mathlib.Core.List.{List}
use native.Mathlib.Nat.{mul-le-mul}
use native.Mathlib.Omega.{arith}
use lib.Ieee.{Float}
use lib.ListN.{length}
use Rattle.factor.specs.Limits.{max_variables, max_size}
use Rattle.factor.proofs.Counting.{sum-most}
use Rattle.graph.specs.Record.{size_at, valid}
use Rattle.graph.specs.declared.Graph.{Graph}
use Rattle.graph.proofs.Validity.{valid-variables, valid-size, size-most}
use Rattle.text.specs.Decimals.{decimal}
use Rattle.lines.specs.Lines.{line_numbers, lines_text, lines_length, refusal_text}
use Rattle.text.proofs.Decimals.{few_digits}
use Rattle.lines.proofs.Texts.{lines_long, refusal-length}

-- a line has a key of two digits, at most 42 numbers, and its end
line-most : (g : Graph) (k : ℕ) → valid g ≡ true → k < g.variables → length (decimal k) + 17 * line_numbers g k + 1 ≤ 717
line-most g k v l =
    let n : g.variables ≤ max_variables = valid-variables g v in
    let s : size_at g k ≤ max_size = size-most _ (valid-size g v k l) in
    omega (arith, few_digits 1 k (omega arith), mul-le-mul s s)

pub lines_most : (g : Graph) (values : List Float) → valid g ≡ true → length (lines_text g values g.variables) ≤ 717 * max_variables
unfolding lines_length
lines_most g values v =
    omega (
      arith,
      lines_long g values g.variables,
      valid-variables g v,
      sum-most (λ k. length (decimal k) + 17 * line_numbers g k + 1) 717 g.variables (λ k l. line-most g k v l),
    )

-- a refusal has three numbers of a machine word
pub refusal-most : (number stage place : ℕ) → number < 2 ^ 64 → stage < 2 ^ 64 → place < 2 ^ 64 → length (refusal_text number stage place) ≤ 71
refusal-most number stage place a b c =
    omega (arith, refusal-length number stage place, few_digits 19 number (omega arith), few_digits 19 stage (omega arith), few_digits 19 place (omega arith))
