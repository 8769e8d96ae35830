use Prim.Native.Nat.{◌-◌, ◌≤◌}
use mathlib.Core.Path.{◌≡◌}
use lib.ListN.{length}
use Rattle.graph.specs.Reached.{Reached}
use Rattle.records.specs.Records.{read_from, read_all}
use Rattle.records.proofs.read.Given as goal

abbrev pub invariant-loop-at : goal.invariant-loop-at
invariant-loop-at l = record {
  counted : l.place ≤ l.at;
  within : l.at ≤ length l.bytes;
  reached : Reached l.graph;
  rest : read_all l.bytes l.initial.store ≡ read_from (length l.bytes - l.place) l.bytes l.at l.place l.graph l.store;
}

abbrev pub decreases-loop-at : goal.decreases-loop-at
decreases-loop-at l = length l.bytes - l.at
