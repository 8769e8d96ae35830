-- `plan_text::put_slot` meets its contract: by whether the slot is an original. Assumes nothing.
use mathlib.Core.Path.{sym, ap}
use Rattle.plan.proofs.Unions.{slot_low, slot_high}
use Rattle.plan_text.specs.Text.{slot_text}
use Rattle.text.proofs.Putting.{both, same}
use Rattle.plan_text.proofs.put_slot.Goals as goal

pub returns-then-s-lt-FACTORS : goal.returns-then-s-lt-FACTORS
unfolding slot_text
returns-then-s-lt-FACTORS c = same (sym (ap slot_text (slot_low c.args.s
    c.if-s-lt-FACTORS.true))) c.put_field.ensures

pub returns : goal.returns
unfolding slot_text
returns c =
    let args = c.args in
    same (sym (ap slot_text (slot_high args.s c.if-s-lt-FACTORS.false)))
    (both c.put_word-digits.ensures c.put_decimal.ensures)
