-- What a registering call tells in the numbers of document 01. Definitions only.
use Rattle.std.specs.Prelude.{ℕ, Result, Ok, Err, [], ◌∷◌}
use Rattle.factor.specs.Told.{Told, value, refusal}
use Rattle.graph.specs.Refusals.{refusal_number}
use Rattle.graph.specs.Registration.{FactorVerdict, accept, refuse}
use Rattle.graph.specs.declared.Graph.{Graph}
use Rattle.graph.specs.declared.refusal.Refusal.{Refusal}

-- the new key of a variable's call or the new number of a factor's, or the number of the refusal
unfoldable pub call_told : Result ℕ Refusal → Told
call_told (Ok new) = value (new ∷ [])
call_told (Err why) = refusal (refusal_number why) []

-- of what the checks of a factor's call come to: an accepted factor gets the next number
unfoldable pub factor_verdict_told : Graph → FactorVerdict → Told
factor_verdict_told g (accept numbers) = value (g.count ∷ [])
factor_verdict_told g (refuse why) = refusal (refusal_number why) []
