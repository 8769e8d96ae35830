-- `measured::strips_ordered_plan` meets its contract: the text is laid, and its length told as a number. Assumes nothing.
use mathlib.Core.Path.{ap, ◌∙◌}
use Rattle.lines.specs.Lines.{length_of}
use Rattle.measured.proofs.strips_ordered_plan.Goals as goal

pub returns : goal.returns
returns c = record { value = c.length_of.ensures ∙ ap length_of c.show_along.ensures.value; out_after = c.show_along.ensures.out_after }
