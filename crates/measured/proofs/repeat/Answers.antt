-- `measured::repeat` meets its contract. The loop's invariant: the stores are those after so many runs. Assumes nothing.
use mathlib.Core.Path.{refl, ◌∙◌}
use Prim.Native.Nat.{◌-◌}
use lib.ListN.{length}
use Rattle.measured.specs.Measured.{stores}
use Rattle.measured.proofs.Runs.{no_run, one-run, all_runs}
use native.Mathlib.Omega.{arith}
use Rattle.measured.proofs.repeat.Goals as goal

pub loop-init : goal.loop-init
loop-init c =
    let args = c.args in (
      omega arith,
      c.requires,
      no_run args.g args.factors.now (stores args.messages.now args.marginals.now),
      refl,
      refl,
    )

pub loop-preserved : goal.loop-preserved
loop-preserved c =
    let args = c.args in
    let loop = c.loop in (
      omega arith,
      c.run.auto.work ∙ loop.invariant.1,
      one-run args.g args.factors.now (stores args.messages.now args.marginals.now) loop.counter loop.messages loop.marginals
          (length loop.work) _ _ _ loop.invariant.1 loop.invariant.2 c.run.ensures.marginals_after,
      c.run.auto.messages ∙ loop.invariant.3,
      c.run.auto.marginals ∙ loop.invariant.4,
    )

pub returns : goal.returns
returns c =
    let args = c.args in
    all_runs args.g args.factors.now (stores args.messages.now args.marginals.now) args.times c.loop.counter _
    (omega arith) c.loop.invariant.2
