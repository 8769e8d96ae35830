-- `gaussian::sum_up` meets its contract: the slots are added to the sums before the first of them. Assumes nothing.
use lib.ListN.{length}
use Rattle.workspace.proofs.Cuts.{relaid}
use Rattle.slots.specs.Tables.{view_at}
use Rattle.gaussian.proofs.Sending.{views-from}
use Rattle.gaussian.proofs.sum_up.Goals as goal

pub add_slots-requires : goal.add_slots-requires
add_slots-requires c = record { frame_laid = relaid c.args.f c.begin_sums.auto.work c.requires.frame_laid.0; counted = c.requires.counted; by_index = c.requires.by_index }

pub returns : goal.returns
returns c =
    let args = c.args in
    views-from args.branch args.f args.layout (view_at args.s.factors.now args.s.messages.now args.s.tables.keys.now args.s.tables.heads.now
    args.slots.now) (length args.slots.now) _ c.begin_sums.ensures _
    c.add_slots.ensures
