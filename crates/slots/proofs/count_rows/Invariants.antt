use Rattle.std.proofs.Common.{◌≡◌, ◌*◌, ◌≤◌}
use Rattle.factor.specs.Limits.{max_total}
use Rattle.slots.specs.Tables.{rows_by_all}
use Rattle.slots.proofs.count_rows.Given as goal

abbrev pub invariant-loop-number : goal.invariant-loop-number
invariant-loop-number l =
    record { counted : l.rows ≡ rows_by_all l.layout l.tables.keys.now l.tables.heads.now l.slots l.number-index; few : l.rows ≤ max_total * l.number-index }
