-- `graph::Graph::enter_variable` meets its contract: its ways out are those of the definition. Assumes nothing.
use native.Mathlib.Omega.{arith}
use Rattle.factor.proofs.Counting.{tells}
use Rattle.graph.proofs.Validity.{size-most, valid-total, valid-variables}
use Rattle.graph.proofs.Graph.enter_variable.Goals as goal

pub free-requires : goal.free-requires
free-requires c = valid-variables c.args.self.now c.requires

pub overflow_add-total : goal.overflow_add-total
overflow_add-total c =
    omega (
      arith,
      c.total.ensures,
      valid-total c.args.self.now c.requires,
      size-most c.args.size (tells c.size_fits.ensures c.if-not-size_fits.false),
    )
