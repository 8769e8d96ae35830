-- `graph::Graph::enter_prior` meets its contract: its ways out are those of the verdict. Assumes nothing.
use native.Mathlib.Omega.{arith}
use Rattle.factor.proofs.Fitting.{prior-fits}
use Rattle.graph.proofs.Validity.{valid-variables}
use Rattle.graph.proofs.Graph.enter_prior.Goals as goal

pub prior_of-f-requires : goal.prior_of-f-requires
prior_of-f-requires c = (omega (arith, valid-variables c.args.self.now c.requires), c.size_of.ensures.1)

pub add_factor-requires : goal.add_factor-requires
add_factor-requires c =
    let g = c.args.self.now in
    (c.requires, rw (c.prior_of-f.ensures, c.size_of.ensures.0) (prior-fits g.sizes g.variables c.args.key c.if-self-key.false))
