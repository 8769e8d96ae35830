-- `measured::strips_eliminate` meets its contract: read, then eliminated, each as its own contract says. Assumes nothing.
use lib.Ieee.{of_bits}
use Rattle.measured.proofs.Runs.{eliminated-is}
use Rattle.measured.proofs.strips_eliminate.Goals as goal

pub returns : goal.returns
unfolding of_bits
returns c =
    let args = c.args in
    let all = eliminated-is args.bytes.now args.slots.now args.kept.now args.cleared.now args.messages.now _ _ _ _ _ c.read-read.ensures.value.0
    c.read-read.ensures.store_after c.eliminate-answer.ensures.value c.eliminate-answer.ensures.messages_after c.number_in.ensures in record { value = all.0; messages_after = all.1 }
