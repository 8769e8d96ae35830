-- Inner: what is known of a reading. No contract can say which bytes a file or a terminal gives.
use Rattle.std.specs.Prelude.{ℕ, zero, suc, ◌≤◌, ◌<◌, List, Option, Some, None, Result, Ok, Err, IfOk, length}
use Rattle.std.specs.Io.{ReadsAtMost}
use Rattle.std.specs.Io.KnownBytes.{ReadConsumes, IsAtEnd}

-- an input that was read was read within the room
abbrev pub InputWithin : {E : Type 0} → Result ℕ E → ℕ → Type 0
InputWithin result room = IfOk result (λ n. n ≤ room)

-- one read moves no more bytes than there is room for. An error is a failure, which moves nothing, and 0 the end of the input; the bytes that are left
-- are known of a reader over memory alone.
abbrev pub Moved : {E : Type 0} → Option (List ℕ) → Option (List ℕ) → Result ℕ E → List ℕ → Type 0
Moved before after result room = ReadsAtMost result room × ReadConsumes before after result room

-- what the answer of a read says: an error, a failure; 0, the end of the input; otherwise how many bytes it moved
abbrev pub chunk_of : {E : Type 0} → Result ℕ E → Result (Option ℕ) E
chunk_of (Err e) = Err e
chunk_of (Ok zero) = Ok None
chunk_of (Ok (suc k)) = Ok (Some (suc k))

-- bytes that fill the room, or that end the input
abbrev pub IsWhole : List ℕ → ℕ → Option (List ℕ) → Type 0
IsWhole bytes room left = (length bytes ≤ room) × (length bytes < room → IsAtEnd left)
