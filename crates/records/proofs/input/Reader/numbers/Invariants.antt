use mathlib.Core.Path.{◌≡◌}
use mathlib.Core.List.{◌++◌}
use lib.ListN.{drop}
use Rattle.records.specs.Bytes.{numbers_at}
use Rattle.records.proofs.input.Reader.numbers.Given as goal

abbrev pub invariant-loop-i : goal.invariant-loop-i
invariant-loop-i l = l.out ≡ numbers_at l.self.bytes.now l.self.at l.i ++ drop l.i l.initial.out
