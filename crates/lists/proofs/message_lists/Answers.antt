-- `lists::message_lists` meets its contract: each list is one call, and `message_holds` puts them together. Assumes nothing.
use Rattle.lists.proofs.Holding.{message_holds}
use Rattle.lists.proofs.message_lists.Goals as goal

pub returns : goal.returns
returns c =
    let args = c.args in
    let pre = c.requires in
    message_holds args.p args.j args.shift _ _ _ _ _ _ pre.1 pre.2 pre.0 c.put_set-k.ensures.list_after c.put_set-k.ensures.upper_bound
    c.put_set-c.ensures.list_after c.put_set-c.ensures.upper_bound (rw (c.from-from.ensures, c.from-to.ensures) at c.put_slots-n.ensures.list_after)
    (rw (c.from-from.ensures, c.from-to.ensures) at c.put_slots-n.ensures.value)
