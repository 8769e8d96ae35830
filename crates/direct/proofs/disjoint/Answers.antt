-- `direct::disjoint` meets its contract: each kept key is looked for among the cleared ones. Assumes nothing.
use Rattle.std.proofs.Common.{rules}
use mathlib.Core.Bool.{not}
use Rattle.factor.proofs.Chains.{all_listed}
use Rattle.slots.specs.Layouts.{member}
use Rattle.direct.specs.Direct.{disjoint}
use Rattle.direct.proofs.disjoint.Goals as goal

pub returns : goal.returns
unfolding disjoint
returns c = all_listed (λ k. not (member k c.args.cleared.now)) 0 c.args.kept.now c.all.ensures.ran (cc) (λ x b q k. search rules)
