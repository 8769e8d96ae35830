-- `matrix::gemm_four` meets its contract. Assumes nothing.
use Prim.Native.Nat.{◌+◌}
use native.Mathlib.Omega.{arith}
use Rattle.matrix.proofs.Turns.{row_met}
use Rattle.matrix.proofs.gemm_four.Goals as goal

pub returns : goal.returns
returns c =
    let v = c.args in
    λ u e. row_met _ v.how _ _ _ _ _ _ (v.i + 3) (v.i + 4) u _ _ _ (omega arith)
    (row_met _ v.how _ _ _ _ _ _ (v.i + 2) (v.i + 3) u _ _ _ (omega arith)
    (row_met _ v.how _ _ _ _ _ _ (v.i + 1) (v.i + 2) u _ _ _ (omega arith)
    (row_met _ v.how _ _ _ _ _ _ v.i (v.i + 1) u _ _ _ (omega arith) e c.dots-s.ensures.0
    c.meet.ensures)
    c.dots-s.ensures.1 c.meet-2.ensures) c.dots-s.ensures.2
    c.meet-3.ensures) c.dots-s.ensures.3 c.meet-4.ensures
