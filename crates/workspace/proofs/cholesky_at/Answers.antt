-- `workspace::cholesky_at` meets its contract: the factor changes the part of S. Assumes nothing.
use mathlib.Core.Path.{refl}
use Rattle.workspace.specs.declared.Part.TheVariants.{S}
use Rattle.workspace.proofs.Cuts.{at_part}
use Rattle.workspace.proofs.cholesky_at.Goals as goal

pub returns : goal.returns
returns c =
    let args = c.args in
    record { value = c.cholesky.ensures.value; work_after = at_part args.f args.work.now _ S _ _ _ c.requires refl refl c.cholesky.auto.s c.cholesky.ensures.s_after }
