-- `lines::put_numbers`: a number more is put in each turn.
use Rattle.std.proofs.Common.{◌≡◌, ℕ, ◌+◌, ◌-◌, ◌<◌, List, get_or, take, drop, arith, ap, ◌∙◌, ◌++◌, sym}
use Rattle.std.proofs.lemmas.Grind.{common_steps}
use Rattle.std.specs.Prelude.{Float}
use Rattle.std.specs.Float.{nan}
use Rattle.text.proofs.Putting.{none, both, same}
use Rattle.lines.specs.Lines.{number_text, numbers_text}
use Rattle.lines.proofs.Texts.{numbers_more}
use Rattle.lines.proofs.put_numbers.Goals as goal

of_slice : (values : List Float) (from n i : ℕ) → i < n → get_or (take (from + n - from) (drop from values)) i nan ≡ get_or values (from + i) nan
of_slice values from n i l = grind (arith, common_steps)

pub loop-x-init : goal.loop-x-init
unfolding numbers_text
loop-x-init c = none

pub loop-x-preserved : goal.loop-x-preserved
loop-x-preserved c =
    let values = c.args.values.now in
    same (ap (λ (v : Float). numbers_text values c.args.from c.loop-x.x-index ++ number_text v) (of_slice values c.args.from c.args.n c.loop-x.x-index (omega arith))
    ∙ sym (numbers_more values c.args.from c.loop-x.x-index)) (both c.loop-x.invariant c.put_number-to.ensures)
