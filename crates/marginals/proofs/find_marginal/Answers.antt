-- `marginals::find_marginal` meets its contract: the lists hold what the key gathers, and the answer is what was found. Assumes nothing.
use mathlib.Core.Path.{◌≡◌, ap, ◌∙◌}
use lib.ListN.{get_or}
use Rattle.plan.specs.Gather.{gathered_of}
use Rattle.gaussian.specs.Answers.{marginal_from}
use Rattle.messages.specs.Values.{refused_at}
use Rattle.marginals.specs.Asked.{last_by}
use Rattle.marginals.proofs.Findings.{lists_last, fault-told, made-size, made-told}
use Rattle.marginals.proofs.find_marginal.Goals as goal
use Rattle.marginals.proofs.find_marginal.Goals.{After-marginalize-found}

is-last : (c : After-marginalize-found) → c.marginalize-found.result ≡ marginal_from c.args.key (get_or c.args.sizes c.args.key 0)
    (last_by c.args.sizes c.args.s.factors.now c.args.s.messages.now c.args.s.tables.keys.now c.args.s.tables.heads.now c.args.key (gathered_of c.args.q))
is-last c =
    let args = c.args in
    lists_last args.sizes args.s.factors.now args.s.messages.now args.s.tables.keys.now args.s.tables.heads.now args.key (gathered_of args.q) c.gathered_lists-l.result
    c.gathered_lists-l.ensures (get_or args.sizes args.key 0) _ c.marginalize-found.ensures.value

pub put_marginal-requires : goal.put_marginal-requires
put_marginal-requires c =
    let args = c.args in
    rw (made-size args.sizes args.s.factors.now args.s.messages.now args.s.tables.keys.now args.s.tables.heads.now args.key args.to args.q args.results.now _
    (is-last (goal.at.put_marginal-requires c).After-marginalize-found) c.in-Ok.m c.in-Ok.is) (c.requires.held.2, c.requires.key_in_bounds)

pub returns-in-Ok : goal.returns-in-Ok
returns-in-Ok c =
    let args = c.args in
    let all = made-told args.sizes args.s.factors.now args.s.messages.now args.s.tables.keys.now args.s.tables.heads.now args.key args.to args.q args.results.now _
    (is-last (goal.at.returns-in-Ok c).After-marginalize-found) c.in-Ok.m c.in-Ok.is _ c.put_marginal.ensures in
    record { result_value = all.0; results_after = all.1 }

pub returns-in-Err : goal.returns-in-Err
returns-in-Err c =
    let args = c.args in
    let all = fault-told args.sizes args.s.factors.now args.s.messages.now args.s.tables.keys.now args.s.tables.heads.now args.key args.to args.q args.results.now _
    (is-last (goal.at.returns-in-Err c).After-marginalize-found) c.in-Err.fault c.in-Err.is in
    record { result_value = ap (refused_at args.key) c.refusal_of.ensures ∙ all.0; results_after = all.1 }
