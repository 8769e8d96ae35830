-- `factor::weighing::column_mirrored` meets its contract: each pair is compared. Assumes nothing.
use mathlib.Core.Path.{refl}
use borrow.Author.Rules.{rules}
use borrow.Author.Tests.{tests}
use Rattle.factor.specs.Factor.{mirrored}
use Rattle.factor.proofs.Chains.{all_ranged}
use Rattle.factor.proofs.weighing.column_mirrored.Goals as goal

pub returns : goal.returns
returns c =
    let args = c.args in
    all_ranged (λ i. mirrored args.n args.s.now i args.j) args.j c.all.ensures.ran refl (λ x b q k. search (rules, tests))
