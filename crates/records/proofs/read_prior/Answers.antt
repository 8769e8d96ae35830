-- `records::read_prior` meets its contract. Assumes nothing.
use native.Mathlib.Omega.{arith}
use Rattle.graph.proofs.Validity.{valid-size, size-most}
use Rattle.records.proofs.read_prior.Goals as goal

pub read_prior_numbers-requires-clause-size : goal.read_prior_numbers-requires-clause-size
read_prior_numbers-requires-clause-size c =
    omega (arith, size-most _ (valid-size c.args.g.now c.requires c.from-key.result c.if-g-key.false), c.size_of-s.ensures.0)
