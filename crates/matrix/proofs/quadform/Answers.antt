-- `matrix::quadform` meets its contract: W times A into the work slice, then A transposed times that (`proofs/Dense.antt`). Assumes nothing.
use Rattle.matrix.proofs.Dense.{quadform-is}
use Rattle.matrix.proofs.quadform.Goals as goal

pub returns : goal.returns
returns c = quadform-is _ _ _ _ _ _ _ _ _ _ _ c.requires.in_bounds
    (rw (c.columns.ensures, c.requires.shape.0, c.requires.shape.1) at c.gemm.ensures)
    (rw (c.new.ensures.0, c.new.ensures.1, c.new.ensures.3) at c.gemm_tr.ensures)
