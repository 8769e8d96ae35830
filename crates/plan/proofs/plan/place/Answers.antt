-- `position` gives the first place at which the key stands (`KeyByKey`). Assumes nothing.
use mathlib.Core.Path.{◌∙◌}
use borrow.Author.Rules.{rules}
use lib.Dec.{eqb}
use lib.ListN.{take}
use Rattle.std.proofs.lemmas.Iterator.{YieldsList-from_slice}
use Rattle.std.proofs.lemmas.Iterator.Search.{position_from_yields_List}
use Rattle.plan.proofs.KeyByKey.{place-found}
use Rattle.plan.proofs.plan.place.Goals as goal

pub returns : goal.returns
returns c =
    let args = c.args in
    c.unwrap_or.ensures ∙ place-found args.k args.n (take args.n args.order) c.position.result (search rules)
    (position_from_yields_List (λ x. eqb x args.k) _ _ c.position.result c.position.ensures.ran (YieldsList-from_slice _ c.iter.ensures.rest) (λ x b q k. search rules))
