-- Inner: what the reading of a job tells in the numbers of document 01.
use Rattle.std.specs.Prelude.{[], ◌∷◌, Result, Ok, Err}
use Rattle.factor.specs.Told.{Told, value, refusal}
use Rattle.graph.specs.Refusals.{refusal_number}
use Rattle.records.specs.declared.answer.Rejected.{Rejected}

-- every record was taken, or the number of the refusal and the place of its record
unfoldable pub read_told : Result (Unit {0}) Rejected → Told
read_told (Ok done) = value []
read_told (Err rejected) = refusal (refusal_number rejected.why) (rejected.place ∷ [])
