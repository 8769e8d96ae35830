-- A name is compared as the derived equality compares it. Assumes nothing.
use mathlib.Core.Path.{◌≡◌}
use mathlib.Core.Bool.{◌&&◌, and-true}
use lib.Dec.{eqb}
use Rattle.factor.specs.Counting.{every}
use Rattle.graph.specs.Record.{same}
use Rattle.graph.specs.declared.Symbol.{Symbol}

pub derived_same : (a b : Symbol) → (eqb a.0 b.0 && eqb a.1 b.1) ≡ same a b
unfolding same every
derived_same a b = simp and-true
