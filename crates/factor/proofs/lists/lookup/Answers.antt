-- `factor::lists::lookup` meets its contract. The loop's invariant: the keys passed are below the one sought. Assumes nothing.
use mathlib.Core.Path.{refl}
use native.Mathlib.Omega.{arith}
use Rattle.factor.proofs.Lookups.{passed, larger_here, found_here, past_the_last}
use Rattle.factor.proofs.lists.lookup.Goals as goal

pub returns-then-key-here-2 : goal.returns-then-key-here-2
returns-then-key-here-2 c =
    let loop = c.loop-place in
    larger_here c.args.keys.now c.args.key loop.place _ loop.invariant c.from-here.ensures (omega arith) (omega arith)

pub returns-else-key-here-2 : goal.returns-else-key-here-2
returns-else-key-here-2 c =
    let loop = c.loop-place in
    found_here c.args.keys.now c.args.key loop.place _ loop.invariant c.from-here.ensures (omega arith) (omega arith) (omega arith)

pub loop-place-preserved : goal.loop-place-preserved
loop-place-preserved c =
    let loop = c.loop-place in
    passed c.args.keys.now c.args.key loop.place _ loop.invariant c.from-here.ensures (omega arith) (omega arith)

pub returns : goal.returns
returns c =
    let loop = c.loop-place in
    past_the_last c.args.keys.now c.args.key loop.place _ loop.invariant (omega arith) refl
