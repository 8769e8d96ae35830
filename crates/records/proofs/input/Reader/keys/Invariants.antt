use mathlib.Core.Path.{◌≡◌}
use mathlib.Core.List.{◌++◌}
use lib.ListN.{drop}
use Rattle.records.specs.Bytes.{keys_read}
use Rattle.records.proofs.input.Reader.keys.Given as goal

abbrev pub invariant-loop-i : goal.invariant-loop-i
invariant-loop-i l = l.out ≡ keys_read l.self.bytes.now l.self.at l.i ++ drop l.i l.initial.out
