-- `solver::run::step_of` meets its contract: a step is a byte of the plan's array. Assumes nothing.
use mathlib.Core.Path.{◌∙◌}
use Rattle.solver.proofs.Stages.{step-told}
use Rattle.solver.proofs.run.step_of.Goals as goal

pub returns : goal.returns
returns c = c.from.ensures ∙ step-told c.args.p c.args.j c.requires.1
