-- `factor::weighing::symmetric` meets its contract: each pair above the diagonal is compared, and these decide. Assumes nothing.
use mathlib.Core.Path.{◌∙◌, refl, sym}
use borrow.Author.Rules.{rules}
use borrow.Author.Tests.{tests}
use Rattle.factor.proofs.Chains.{all_ranged}
use Rattle.factor.proofs.Symmetry.{above_decides}
use Rattle.factor.specs.Counting.{all}
use Rattle.factor.specs.Factor.{mirrored}
use Rattle.factor.proofs.weighing.symmetric.Goals as goal

pub returns : goal.returns
returns c =
    let s = c.args.s.now in
    let n = c.args.n in
    all_ranged (λ j. all (λ i. mirrored n s i j) j) n c.all.ensures.ran refl (λ x b q k. search (rules, tests))
    ∙ sym (above_decides n s c.requires.0 c.requires.1)
