-- `measured::strips_plan` meets its contract: the job is read once, and the plans follow. Assumes nothing.
use lib.Ieee.{of_bits}
use mathlib.Core.Path.{ap, ◌∙◌}
use Rattle.records.specs.declared.answer.Read.{Read}
use Rattle.measured.specs.Measured.{replanned}
use Rattle.measured.proofs.strips_plan.Goals as goal

pub returns : goal.returns
unfolding of_bits
returns c = c.replan.ensures ∙ ap (λ (r : Read). replanned r.graph c.args.times)
    c.read-read.ensures.value.0
