-- `firmware::strips_solve` meets its contract: the text is laid, and its length told as a number. Assumes nothing.
use mathlib.Core.Path.{ap, ◌∙◌}
use Rattle.lines.specs.Lines.{length_of}
use Rattle.firmware.proofs.strips_solve.Goals as goal

pub returns : goal.returns
returns c = record { value = c.length_of.ensures ∙ ap length_of c.solve.ensures.value; out_after = c.solve.ensures.out_after }
