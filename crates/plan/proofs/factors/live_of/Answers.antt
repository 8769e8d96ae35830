-- Before each turn the first places hold the numbers of the live factors among the first i (`Rising`). Assumes nothing.
use Prim.Native.Nat.{◌<◌}
use mathlib.Core.Path.{refl}
use native.Mathlib.Omega.{arith}
use Rattle.factor.specs.Limits.{max_factors}
use Rattle.plan.proofs.Rising.{listed-none, listed-live, listed_other}
use Rattle.plan.proofs.factors.live_of.Goals as goal
use Rattle.plan.proofs.factors.live_of.Goals.{then-f, else-f}

pub loop-i-init : goal.loop-i-init
loop-i-init c = listed-none c.args.factors _ refl

pub loop-i-preserved : goal.loop-i-preserved
loop-i-preserved c =
    let args = c.args in
    let loop = c.loop-i in
    let h : loop.i < max_factors = omega arith in
    elim c.if-f.branch [
      | then-f w ↦ rw (w.numbers-is, w.lives-is) (listed-live args.factors loop.numbers loop.lives loop.i h loop.invariant w.if-f.true)
      | else-f w ↦ rw (w.numbers-is, w.lives-is) (listed_other args.factors loop.numbers loop.lives loop.i h loop.invariant w.if-f.false)
    ]
