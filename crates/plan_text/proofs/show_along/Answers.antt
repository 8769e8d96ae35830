-- `plan_text::show_along`: the plan along the lent order.
use Rattle.std.proofs.Common.{◌≡◌, ◌≤◌, length, rules}
use Rattle.lines.specs.Lines.{written, laid_in}
use Rattle.plan_text.specs.Shown.{along_text, text_room, show_along_text}
use Rattle.plan_text.proofs.show_along.Goals as goal

pub returns : goal.returns
unfolding show_along_text
returns c =
    let order = c.args.order.now in
    let all = c.show_by.ensures (λ g. along_text g order) (λ g v out r out' p.
    let value : r ≡ written out.now (along_text g order) = search rules in
    let after : out'.now ≡ laid_in out.now (along_text g order) = search rules in
    let within : length (along_text g order) ≤ text_room = search rules in
    record { value = value; out_after = after; within = within }) in
    record { value = all.value; out_after = all.out_after; order_len_bound = all.within }
