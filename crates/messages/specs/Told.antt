-- Inner: what a walk over messages or keys tells in the numbers of document 01.
use Rattle.std.specs.Prelude.{[], ◌∷◌, Ok, Err, Result}
use Rattle.factor.specs.Told.{Told, value, refusal}
use Rattle.graph.specs.Refusals.{refusal_number}
use Rattle.messages.specs.Values.{FirstRefusal}
use Rattle.messages.specs.declared.Undone.{Undone}

-- that all were carried out, or the number of the refusal and where it came: the message's place in its pass, or the key
unfoldable pub carried_told : Result (Unit {0}) Undone → Told
carried_told (Ok _) = value []
carried_told (Err undone) = refusal (refusal_number undone.why) (undone.at ∷ [])

-- of the first refusal in a list
unfoldable pub stop_told : FirstRefusal → Told
stop_told (Ok _) = value []
stop_told (Err u) = refusal (refusal_number u.why) (u.at ∷ [])
