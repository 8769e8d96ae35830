-- `solver::copied` meets its contract: what is copied out is the plan in the arrays. Assumes nothing.
use mathlib.Core.Path.{refl}
use Rattle.std.proofs.lemmas.Result.{err_from_is_err_and}
use Rattle.solver.specs.Stages.{read}
use Rattle.solver.proofs.copied.Goals as goal

pub returns : goal.returns
unfolding read
returns c = rw (c.in_ok-a.was, c.copy_out.ensures) refl

pub returns-in_err-a : goal.returns-in_err-a
unfolding read
returns-in_err-a c = let p = err_from_is_err_and c.from_residual.result c.from_residual.ensures.1 in rw (p.1, p.2, c.in_err-a.was) refl
