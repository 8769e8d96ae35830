use mathlib.Core.Path.{◌≡◌}
use mathlib.Core.Bool.{not}
use Rattle.factor.specs.Counting.{all}
use Rattle.graph.specs.Record.{name_at, same}
use Rattle.graph.proofs.Graph.free.Given as goal

abbrev pub invariant-loop-other : goal.invariant-loop-other
invariant-loop-other l = l.free ≡ all (λ j. not (same (name_at l.fn.self j) l.name)) l.other-index
