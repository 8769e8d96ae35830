-- `matrix::gemm_rows` meets its contract. The loop's invariant: the slice is the definition's after the rows passed. Assumes nothing.
use mathlib.Core.Path.{refl}
use Rattle.matrix.proofs.Turns.{row_met}
use Rattle.matrix.proofs.gemm_rows.Goals as goal

pub loop-i-preserved : goal.loop-i-preserved
loop-i-preserved c = λ u e. row_met _ c.args.how _ _ _ _ _ _ _ _ u _ _ _ refl (c.loop-i.invariant u e) c.dot-x.ensures c.meet.ensures
