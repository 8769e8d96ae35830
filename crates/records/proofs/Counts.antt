-- The numbers of an observation's A. Assumes nothing.
use Prim.Native.Nat.{ℕ, ◌*◌, ◌≤◌}
use mathlib.Core.Path.{◌≡◌}
use mathlib.Core.Bool.{true}
use mathlib.Core.List.{List}
use native.Mathlib.Nat.{mul-le-mul}
use lib.ListN.{length}
use Rattle.factor.specs.Limits.{max_rows, max_total}
use Rattle.factor.specs.Factor.{rising, known, observation_of, a_numbers}
use Rattle.factor.specs.declared.Factor.{Factor}
use Rattle.graph.proofs.Checking.{most-rows, counted-fits}
use Rattle.graph.proofs.Validity.{width-most}
use Rattle.graph.specs.Record.{valid}
use Rattle.graph.specs.Registration.{counts_fit}
use Rattle.graph.specs.declared.Graph.{Graph}

-- A has at most so many rows and columns
pub numbers-most : (g : Graph) (keys : List ℕ) (rows : ℕ) (f : Factor) (n : ℕ) → valid g ≡ true → counts_fit (length keys) rows ≡ true → rising keys
    ≡ true → known g.variables keys ≡ true → f ≡ observation_of keys rows → n ≡ a_numbers g.sizes f → n ≤ max_rows * max_total
unfolding a_numbers
numbers-most g keys rows f n v h4 h3 h11 ef en = rw (en, ef) (mul-le-mul (most-rows _ _ h4)
    (width-most g v (observation_of keys rows) (counted-fits g keys rows h4 h3 h11)))
