-- The exchange of forms, open to computing: a law that unfolds `computed_exchange` unfolds all that it rests on. Assumes nothing.
use Prim.Native.Nat.{ℕ}
use mathlib.Core.List.{List}
use lib.Ieee.{Float, of_bits, sub, mul, div, lt}
use Rattle.root.specs.Root.{root_of}
use Rattle.matrix.specs.Sums.{deduct, deduct_of}
use Rattle.matrix.specs.Stores.{steps, sweep}
use Rattle.matrix.specs.Finite.{all_finite}
use Rattle.cholesky.specs.Factor.{pivot_of, reduced, below, rooted, factor_column, factor}
use Rattle.cholesky.specs.Solve.{solved_row, solve_lower, solve_upper, solved, unit_column, inverted}
use Rattle.cholesky.specs.Forms.{Form, finite_form, exchanged_by, exchanged}

unfoldable pub computed_exchange : ℕ → List Float → List Float → Form
unfolding exchanged exchanged_by finite_form factor factor_column rooted below reduced pivot_of root_of solved solve_lower solve_upper solved_row inverted
    unit_column steps sweep deduct_of deduct all_finite of_bits sub mul div lt
computed_exchange n x m = exchanged n x m
