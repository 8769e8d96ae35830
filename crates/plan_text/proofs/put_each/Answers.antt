-- `plan_text::put_each`: a number more is put in each turn.
use Rattle.std.proofs.Common.{sym, arith}
use Rattle.text.proofs.Putting.{none, both, same}
use Rattle.plan_text.proofs.Growing.{joined-nil, joined-more}
use Rattle.plan_text.proofs.put_each.Goals as goal

pub loop-x-init : goal.loop-x-init
loop-x-init g c = λ text puts. same (sym (joined-nil text)) none

pub loop-x-preserved : goal.loop-x-preserved
loop-x-preserved g c = λ text puts.
    same (joined-more text c.args.numbers.now c.loop-x.x-index c.from.result (omega arith) c.from.ensures)
    (both (c.loop-x.invariant text puts) (puts _ _ _ _ _ c.put_one-to.ensures))
