use Rattle.std.proofs.Common.{◌≡◌, length}
use Rattle.factor.specs.Limits.{max_variables}
use Rattle.slots.proofs.LayoutTables.{Chosen}
use Rattle.slots.proofs.layout.layout_of.Given as goal

abbrev pub invariant-loop-key : goal.invariant-loop-key
invariant-loop-key l = record { long : length l.first ≡ max_variables; chosen : Chosen l.gone l.among l.initial.first l.first l.key }
