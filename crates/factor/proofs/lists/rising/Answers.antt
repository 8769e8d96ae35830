-- `factor::lists::rising` meets its contract: each place is tested. Assumes nothing.
use mathlib.Core.Path.{refl}
use borrow.Author.Rules.{rules}
use borrow.Author.Tests.{tests}
use lib.ListN.{length}
use Rattle.factor.specs.Factor.{above}
use Rattle.factor.proofs.Chains.{all_ranged}
use Rattle.factor.proofs.lists.rising.Goals as goal

pub returns : goal.returns
returns c = let keys = c.args.keys.now in all_ranged (λ j. above keys j) (length keys) c.all.ensures.ran refl (λ x b q k. search (rules, tests))
