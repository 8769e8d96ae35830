-- `plan_text::put_keys` meets its contract. The loop's invariant: the lines of the keys passed are put. Assumes nothing.
use Prim.Native.Nat.{ℕ}
use mathlib.Core.Path.{◌≡◌, ap}
use mathlib.Core.List.{map}
use native.Mathlib.Omega.{arith}
use lib.ListN.{take}
use Rattle.plan.specs.Gather.{gathered_of}
use Rattle.plan.specs.Plan.{no_gathered}
use Rattle.plan_text.specs.Text.{key_text, numbered}
use Rattle.text.proofs.Putting.{none, both, same, long}
use Rattle.plan_text.proofs.Growing.{taken_none, taken_more}
use Rattle.plan_text.proofs.put_keys.Goals as goal

pub loop-k-init : goal.loop-k-init
loop-k-init c = (omega arith, same (taken_none key_text gathered_of c.args.plan.at) none)

pub bounds-plan-k : goal.bounds-plan-k
bounds-plan-k c = omega (arith, c.requires.0)

pub put_key-to-requires : goal.put_key-to-requires
put_key-to-requires c = c.requires.1.held c.loop-k.k c.loop-k-test.true

pub overflow_step-k : goal.overflow_step-k
overflow_step-k c = record { fits = omega (arith, c.requires.0) }

pub loop-k-smaller : goal.loop-k-smaller
loop-k-smaller c = omega arith

pub loop-k-preserved : goal.loop-k-preserved
loop-k-preserved c =
    let args = c.args in
    let pre = c.requires in
    let loop = c.loop-k in (
      omega arith,
      same (taken_more key_text gathered_of args.plan.at loop.k no_gathered (omega (arith, pre.0, pre.1.long)))
          (both loop.invariant.1 c.put_key-to.ensures),
    )

pub shape_of-out : goal.shape_of-out
shape_of-out c = long c.loop-k.invariant.1

pub returns : goal.returns
returns c =
    let args = c.args in
    let loop = c.loop-k in
    let e : loop.k ≡ args.n = omega arith in
    same (ap (λ (k : ℕ). numbered key_text 0 (map gathered_of (take k args.plan.at))) e) loop.invariant.1
