-- `graph::Graph::variables_fit` meets its contract: each place is tested. Assumes nothing.
use mathlib.Core.Path.{refl}
use borrow.Author.Rules.{rules}
use borrow.Author.Tests.{tests}
use Rattle.factor.proofs.Chains.{all_ranged}
use Rattle.factor.specs.Limits.{max_variables}
use Rattle.graph.specs.Record.{variables_fit, variable_place}
use Rattle.graph.proofs.Graph.variables_fit.Goals as goal

pub returns : goal.returns
unfolding variables_fit
returns c =
    let g = c.args.self.now in
    all_ranged (λ i. variable_place g i) max_variables c.all.ensures.ran refl (λ x b q k. search (rules, tests))
