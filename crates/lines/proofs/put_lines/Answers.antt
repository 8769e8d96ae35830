-- `lines::put_lines`: a line more is put in each turn, and a key's numbers end within those of all keys.
use Rattle.std.proofs.Common.{◌≡◌, ℕ, ◌+◌, ◌<◌, ◌≤◌, List, ◌++◌, refl, sym, arith}
use Rattle.std.specs.Prelude.{Float}
use Rattle.factor.specs.Counting.{sum}
use Rattle.factor.proofs.Counting.{sum-le}
use Rattle.graph.specs.declared.Graph.{Graph}
use Rattle.graph.specs.Moments.{start_of}
use Rattle.graph.proofs.Moments.{start_more}
use Rattle.text.proofs.Putting.{none, both, same}
use Rattle.lines.specs.Lines.{line_numbers, lines_text, line_text}
use Rattle.lines.proofs.Texts.{lines_more}
use Rattle.lines.proofs.put_lines.Goals as goal

ends : (g : Graph) (key from n : ℕ) → from ≡ start_of g.sizes key → n ≡ line_numbers g key → from + n ≡ start_of g.sizes (key + 1)
ends g key from n ef en = rw (ef, en) (sym (start_more g.sizes key))

within : (g : Graph) (key from n room : ℕ) → key < g.variables → from ≡ start_of g.sizes key → n ≡ line_numbers g key → start_of g.sizes g.variables ≤ room
    → from + n ≤ room
unfolding start_of
within g key from n room l ef en h = omega (arith, ends g key from n ef en, sum-le (λ i. line_numbers g i) (key + 1) g.variables (omega arith))

grown : (g : Graph) (values : List Float) (key from n : ℕ) → from ≡ start_of g.sizes key → n ≡ line_numbers g key
    → lines_text g values key ++ line_text key values from n ≡ lines_text g values (key + 1)
grown g values key from n ef en = rw (ef, en) (sym (lines_more g values key))

pub loop-key-init : goal.loop-key-init
unfolding lines_text start_of sum
loop-key-init c = (refl, none)

pub put_line-to-requires : goal.put_line-to-requires
put_line-to-requires c =
    let loop = c.loop-key in
    within c.args.g loop.key loop.from c.numbers_of-n.result _ (omega arith) loop.invariant.0 c.numbers_of-n.ensures.0 c.requires.1

pub overflow_add-from : goal.overflow_add-from
overflow_add-from c =
    let loop = c.loop-key in
    omega (arith, within c.args.g loop.key loop.from c.numbers_of-n.result _ (omega arith) loop.invariant.0 c.numbers_of-n.ensures.0 c.requires.1)

pub loop-key-preserved : goal.loop-key-preserved
loop-key-preserved c =
    let loop = c.loop-key in
    let n = c.numbers_of-n in (
      ends c.args.g loop.key loop.from n.result loop.invariant.0 n.ensures.0,
      same (grown c.args.g c.args.values.now loop.key loop.from n.result loop.invariant.0 n.ensures.0) (both loop.invariant.1 c.put_line-to.ensures),
    )
