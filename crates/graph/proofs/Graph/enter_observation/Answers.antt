-- `graph::Graph::enter_observation` meets its contract: its ways out are those of the verdict. Assumes nothing.
use Prim.Native.Nat.{◌<◌, ℕ}
use mathlib.Core.Bool.{true}
use mathlib.Core.List.{List}
use mathlib.Core.Path.{◌≡◌}
use native.Mathlib.Omega.{arith}
use borrow.Author.Tests.{lt-ltb, ltb-true}
use lib.Dec.{ltb}
use lib.ListN.{get_or, length}
use Rattle.factor.proofs.Counting.{all-at, all_of, tells}
use Rattle.factor.specs.Factor.{known}
use Rattle.factor.specs.Limits.{max_variables}
use Rattle.graph.proofs.Validity.{valid-variables}
use Rattle.graph.proofs.Checking.{counted-fits, few-keys, most-rows}
use Rattle.graph.specs.Record.{valid}
use Rattle.graph.specs.declared.Graph.{Graph}
use Rattle.graph.proofs.Graph.enter_observation.Goals as goal

-- keys that are registered are within the limit
all_known : (g : Graph) (keys : List ℕ) → valid g ≡ true → known g.variables keys ≡ true → known max_variables keys ≡ true
all_known g keys h30 h11 =
    all_of (λ j. ltb (get_or keys j 0) max_variables) (length keys)
    (λ j l.
    let k : get_or keys j 0 < g.variables = ltb-true _ _ (all-at (λ i. ltb (get_or keys i 0) g.variables) (length keys) j h11 l) in
    let m : get_or keys j 0 < max_variables = omega (arith, valid-variables g h30) in
    lt-ltb _ _ m)

pub observation_of-f-requires : goal.observation_of-f-requires
observation_of-f-requires c =
    let counted = tells c.counts_fit.ensures c.if-not-counts_fit.false in (
      few-keys _ _ counted,
      omega (arith, most-rows _ _ counted),
      all_known c.args.self.now c.args.keys.now c.requires (tells c.known.ensures c.if-not-known.false),
    )

pub add_factor-requires : goal.add_factor-requires
add_factor-requires c = (
  c.requires,
  rw c.observation_of-f.ensures (counted-fits c.args.self.now c.args.keys.now c.args.rows (tells c.counts_fit.ensures c.if-not-counts_fit.false)
      (tells c.rising.ensures c.if-not-rising.false) (tells c.known.ensures c.if-not-known.false)),
)
