-- `lines::lines_length`: a line's length more is added in each turn.
use Rattle.std.proofs.Common.{◌≡◌, ℕ, ◌+◌, ◌*◌, length, refl, sym, arith}
use Rattle.factor.specs.Counting.{sum}
use Rattle.graph.proofs.Validity.{valid-variables}
use Rattle.graph.specs.declared.Graph.{Graph}
use Rattle.text.specs.Decimals.{decimal}
use Rattle.lines.specs.Lines.{line_numbers, lines_length}
use Rattle.lines.proofs.Texts.{length_more}
use Rattle.lines.proofs.lines_length.Goals as goal

grown : (g : Graph) (key s d n : ℕ) → s ≡ lines_length g key → d ≡ length (decimal key) → n ≡ line_numbers g key → s + (d + 17 * n + 1) ≡ lines_length g (key + 1)
grown g key s d n es ed en = rw (es, ed, en) (sym (length_more g key))

pub loop-key-init : goal.loop-key-init
unfolding lines_length sum
loop-key-init c = (refl, omega arith)

pub overflow_add-sum-in-loop-key-2 : goal.overflow_add-sum-in-loop-key-2
overflow_add-sum-in-loop-key-2 c = omega (arith, c.numbers_of.ensures.1, c.decimal_length.ensures.1, valid-variables c.args.g c.requires)

pub loop-key-preserved : goal.loop-key-preserved
loop-key-preserved c =
    let loop = c.loop-key in (
      grown c.args.g loop.key loop.sum c.decimal_length.result c.numbers_of.result loop.invariant.0 c.decimal_length.ensures.0 c.numbers_of.ensures.0,
      omega (arith, c.numbers_of.ensures.1, c.decimal_length.ensures.1),
    )
