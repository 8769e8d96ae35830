-- `factor::observation_of` meets its contract. The loop's invariant: the keys passed stand in the first places, and the others hold 0. Assumes nothing.
use Prim.Native.Nat.{◌<◌}
use native.Mathlib.Omega.{arith}
use borrow.Author.Rules.{rules}
use borrow.Author.Tests.{ltb-true}
use lib.Dec.{ltb}
use lib.ListN.{get_or, length}
use Rattle.factor.proofs.Counting.{all-at}
use Rattle.factor.specs.Limits.{max_variables}
use Rattle.factor.proofs.observation_of.Goals as goal

pub overflow_cast-packed : goal.overflow_cast-packed
overflow_cast-packed c =
    let keys = c.args.keys.now in
    let place = c.loop-place.place in
    let b : get_or keys place 0 < max_variables =
    ltb-true _ _ (all-at (λ j. ltb (get_or keys j 0) max_variables) (length keys) place c.requires.2 (omega arith)) in
    search rules
