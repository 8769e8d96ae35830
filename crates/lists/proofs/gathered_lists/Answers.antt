-- `lists::gathered_lists` meets its contract: forward, backward, originals, in that order. Assumes nothing.
use Rattle.lists.proofs.Holding.{gathered_holds}
use Rattle.lists.proofs.gathered_lists.Goals as goal

pub returns : goal.returns
returns c =
    let args = c.args in
    gathered_holds args.q args.key _ _ _ _ _ _ _ _ _ c.requires c.put_set-c.ensures.list_after c.put_set-c.ensures.upper_bound c.put_set-f.ensures.list_after
    c.put_set-f.ensures.upper_bound c.put_set-b.ensures.list_after c.put_set-b.ensures.upper_bound c.put_slots-n.ensures.list_after c.put_slots-n.ensures.value
