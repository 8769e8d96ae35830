use Prim.Native.Nat.{◌*◌, ◌≤◌, ◌<◌, ℕ}
use mathlib.Core.Path.{◌≡◌}
use lib.ListN.{length}
use Rattle.factor.specs.Limits.{most_numbers}
use Rattle.graph.specs.Record.{offset}
use Rattle.tables.specs.Heads.{Entered}
use Rattle.tables.proofs.fill_originals.Given as goal

abbrev pub invariant-loop-number : goal.invariant-loop-number
invariant-loop-number l = (l.number ≤ l.count) × (l.count ≡ l.g.count) × (l.sizes ≡ l.g.sizes) ×
    (l.at ≤ most_numbers * l.number) × (l.at ≡ offset l.g l.number) × (length l.keys ≡ length l.initial.keys) × (length l.heads ≡ length l.initial.heads) ×
    ((k : ℕ) → k < l.number → Entered l.g l.keys l.heads k)
