-- `plan_answer::key_plan_of` meets its contract: the leaves are copied by one call, and `key-plan-is` puts the parts together. Assumes nothing.
use borrow.Author.Rules.{rules}
use Rattle.plan_answer.proofs.Copies.{key-plan-is}
use Rattle.plan_answer.proofs.key_plan_of.Goals as goal

pub returns : goal.returns
returns c = rw c.copy_from_slice.ensures.after (key-plan-is c.args.q c.requires (search rules) (search rules) (search rules))
