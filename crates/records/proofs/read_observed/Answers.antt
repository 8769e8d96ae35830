-- `records::read_observed` meets its contract. Assumes nothing.
use Prim.Native.Nat.{ℕ, ◌≤◌}
use mathlib.Core.Path.{◌≡◌}
use mathlib.Core.Bool.{true}
use mathlib.Core.List.{List}
use native.Mathlib.Omega.{arith}
use borrow.Author.Tests.{ltb-true, lt-ltb}
use lib.Dec.{ltb}
use lib.ListN.{length, get_or}
use Rattle.factor.specs.Limits.{max_variables}
use Rattle.factor.specs.Factor.{known}
use Rattle.factor.proofs.Counting.{tells, all-at, all_of}
use Rattle.graph.proofs.Validity.{valid-variables}
use Rattle.graph.proofs.Checking.{few-keys, some-rows, most-rows}
use Rattle.records.proofs.Counts.{numbers-most}
use Rattle.records.proofs.read_observed.Goals as goal

known_more : (n : ℕ) (keys : List ℕ) → n ≤ max_variables → known n keys ≡ true → known max_variables keys ≡ true
known_more n keys l h = all_of (λ j. ltb (get_or keys j 0) max_variables) (length keys)
    (λ j m. lt-ltb (get_or keys j 0) max_variables (omega (arith, ltb-true (get_or keys j 0) n (all-at (λ i. ltb (get_or keys i 0) n) (length keys) j h m))))

pub observation_of-requires : goal.observation_of-requires
observation_of-requires c =
    let args = c.args in (
      few-keys _ _ c.requires.counts,
      omega (arith, most-rows _ _ c.requires.counts),
      known_more args.g.now.variables args.keys.now (valid-variables args.g.now c.requires.valid_graph)
          (tells c.known.ensures c.if-not-known.false),
    )

pub read_observed_numbers-requires-clause-counts : goal.read_observed_numbers-requires-clause-counts
read_observed_numbers-requires-clause-counts c =
    let args = c.args in (
      some-rows _ _ c.requires.counts,
      most-rows _ _ c.requires.counts,
      numbers-most args.g.now args.keys.now args.rows c.observation_of.result _ c.requires.valid_graph c.requires.counts
          (tells c.rising.ensures c.if-not-rising.false) (tells c.known.ensures c.if-not-known.false)
          c.observation_of.ensures c.a_numbers-n.ensures.0,
    )
