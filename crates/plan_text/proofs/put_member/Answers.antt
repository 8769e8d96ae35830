-- `plan_text::put_member` meets its contract: by whether the digit of the set is 1. Assumes nothing.
use mathlib.Core.List.{[]}
use mathlib.Core.Path.{sym, ap, ◌∙◌}
use mathlib.Core.Bool.{Bool}
use Rattle.schedule.specs.Count.{joined, put_if}
use Rattle.plan.proofs.Unions.{in_set, off_set}
use Rattle.text.specs.Decimals.{field_text}
use Rattle.text.proofs.Putting.{none, same}
use Rattle.plan_text.proofs.Growing.{joined-nil, joined-one}
use Rattle.plan_text.proofs.put_member.Goals as goal

pub returns-then-set-single-eq0 : goal.returns-then-set-single-eq0
returns-then-set-single-eq0 c =
    let args = c.args in
    same (sym (ap (λ (b : Bool). joined field_text (put_if b args.k []))
    (off_set args.set args.k c.single.result c.single.ensures c.if-set-single-eq0.true) ∙ joined-nil field_text)) none

pub returns : goal.returns
returns c =
    let args = c.args in
    same (sym (ap (λ (b : Bool). joined field_text (put_if b args.k []))
    (in_set args.set args.k c.single.result c.single.ensures c.if-set-single-eq0.false)
    ∙ joined-one field_text args.k)) c.put_field.ensures
