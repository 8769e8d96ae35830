-- `factor::lists::known` meets its contract: each key is tested. Assumes nothing.
use borrow.Author.Rules.{rules}
use borrow.Author.Tests.{tests}
use lib.Dec.{ltb}
use Rattle.factor.proofs.Chains.{all_listed}
use Rattle.factor.proofs.lists.known.Goals as goal

pub returns : goal.returns
returns c = all_listed (λ k. ltb k c.args.variables) 0 c.args.keys.now c.all.ensures.ran (cc) (λ x b q k. search (rules, tests))
