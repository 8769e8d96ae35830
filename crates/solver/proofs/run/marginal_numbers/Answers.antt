-- `solver::run::marginal_numbers` meets its contract. The loop's invariant: the numbers of the keys passed are added up. Assumes nothing.
use mathlib.Core.Path.{◌≡◌}
use Prim.Native.Nat.{◌<◌}
use lib.ListN.{length}
use Rattle.factor.specs.Limits.{max_variables}
use Rattle.solver.proofs.Stages.{square, no_place, place-next, numbers-told}
use native.Mathlib.Omega.{arith}
use borrow.Author.Rules.{rules}
use Rattle.solver.proofs.run.marginal_numbers.Goals as goal

pub loop-size-init : goal.loop-size-init
loop-size-init c = (no_place _, omega arith)

pub loop-size-preserved : goal.loop-size-preserved
loop-size-preserved c =
    let loop = c.loop-size in
    let small : c.from-s.result < 256 = search rules in
    let m = square c.from-s.result small in
    (place-next _ loop.size-index loop.sum _ loop.invariant.0 c.from-s.ensures, omega (arith, small, loop.invariant.1))

pub returns : goal.returns
returns c =
    let loop = c.loop-size in
    let long : length c.args.g.sizes ≡ max_variables = search rules in
    numbers-told c.args.g c.requires loop.sum loop.size-index loop.invariant.0 (omega (arith, long))
