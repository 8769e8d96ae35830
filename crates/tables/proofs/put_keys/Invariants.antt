use Rattle.std.proofs.Common.{◌≡◌}
use lib.Seq.{paste}
use Rattle.tables.proofs.put_keys.Given as goal

abbrev pub invariant-loop-place : goal.invariant-loop-place
invariant-loop-place l = l.keys ≡ paste l.initial.keys l.first l.key-items l.place
