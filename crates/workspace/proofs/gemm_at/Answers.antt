-- `workspace::gemm_at` meets its contract: the product changes one part of the store, and so one of its matrices. Assumes nothing.
use Rattle.workspace.proofs.Cuts.{at_part}
use Rattle.workspace.proofs.gemm_at.Goals as goal

pub returns : goal.returns
returns c =
    let args = c.args in
    at_part args.f args.work.now _ args.which _ _ _ c.requires.frame_laid c.begin-p.ensures
    c.end-q.ensures c.gemm.auto.c c.gemm.ensures
