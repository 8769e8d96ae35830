-- `plan_text::show`: the plan with keys rising.
use Rattle.std.proofs.Common.{rules}
use Rattle.solver.specs.Plan.{planned}
use Rattle.plan_text.specs.Lent.{Shows}
use Rattle.plan_text.specs.Shown.{made_text}
use Rattle.plan_text.proofs.Answers.{rising-text}
use Rattle.plan_text.proofs.Longest.{shows_same}
use Rattle.plan_text.proofs.show.Goals as goal

pub returns : goal.returns
returns c =
    let all = shows_same _ _ c.args.out.now _ _ (rising-text c.args.bytes.now) (c.show_by.ensures (λ g. made_text (planned g)) (λ g v out r out' p.
    let met : Shows (made_text (planned g)) out.now out'.now r = search rules in met)) in
    record { value = all.value; out_after = all.out_after; bytes_len_bound = all.within }
