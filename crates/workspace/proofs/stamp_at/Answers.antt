-- `workspace::stamp_at` meets its contract: the block changes one part of the store, and so one of its matrices. Assumes nothing.
use Rattle.workspace.proofs.Cuts.{at_part}
use Rattle.workspace.proofs.stamp_at.Goals as goal

pub returns : goal.returns
returns c =
    let args = c.args in
    at_part args.f args.work.now _ args.which _ _ _ c.requires.frame_laid c.begin-p.ensures
    c.end-q.ensures c.stamp.auto.c c.stamp.ensures
