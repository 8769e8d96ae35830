-- What a direct elimination tells in the numbers of document 01. Definitions only.
use Rattle.std.specs.Prelude.{ℕ, [], ◌∷◌, Result, Ok, Err}
use Rattle.factor.specs.Told.{Told, value, refusal}
use Rattle.graph.specs.Refusals.{refusal_number}
use Rattle.graph.specs.declared.refusal.Refusal.{Refusal}
use Rattle.direct.specs.Direct.{DirectVerdict, send, refuse}

-- the rows, or the number of the refusal: 0 is a number of its own, and not the answer of no rows
unfoldable pub direct_told : Result ℕ Refusal → Told
direct_told (Ok rows) = value (rows ∷ [])
direct_told (Err why) = refusal (refusal_number why) []

-- of what the checks and the elimination come to
unfoldable pub direct_verdict_told : DirectVerdict → Told
direct_verdict_told (send rows numbers) = value (rows ∷ [])
direct_verdict_told (refuse why) = refusal (refusal_number why) []
