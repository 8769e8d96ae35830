-- `measured::strips_repeat` meets its contract: the job is read once, and the runs follow. Assumes nothing.
use lib.Ieee.{of_bits}
use Rattle.measured.specs.Measured.{stores}
use Rattle.measured.proofs.Runs.{repeated-is}
use Rattle.measured.proofs.strips_repeat.Goals as goal

pub returns : goal.returns
unfolding of_bits
returns c =
    let args = c.args in
    repeated-is args.bytes.now (stores args.messages.now args.marginals.now) _ args.times _ _ c.read-read.ensures.value.0
    c.read-read.ensures.store_after c.repeat.ensures
