-- `plan_answer::message_of` meets its contract: the content is copied by one call, and `message-is` puts the parts together. Assumes nothing.
use borrow.Author.Rules.{rules}
use Rattle.plan_answer.proofs.Copies.{message-is}
use Rattle.plan_answer.proofs.message_of.Goals as goal

pub returns : goal.returns
returns c =
    let args = c.args in
    rw (c.copy_from_slice.ensures.after, c.from.ensures, c.from-from.ensures, c.from-to.ensures)
    (message-is args.p args.j c.requires.0 c.requires.1 (search rules) (search rules))
