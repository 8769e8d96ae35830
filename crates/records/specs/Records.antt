-- What the records of a job ask for, and what reading them all comes to. Definitions only.
use Rattle.std.specs.Prelude.{false, not, cond, ◌&&◌, List, [], ◌∷◌, ℕ, zero, suc, ◌+◌, ◌*◌, ltb, eqb, negsuc, Float, length, slice_get}
use Rattle.std.specs.Prelude.{Option, Some, None, Result, Ok, Err}
use Rattle.std.specs.Float.{fin}
use Rattle.matrix.specs.Sums.{one}
use Rattle.matrix.specs.Triangles.{diagonal_of}
use Rattle.factor.specs.Limits.{max_variables, max_total, max_factors, max_keys, max_rows}
use Rattle.factor.specs.Factor.{rising, known, observation_of, a_numbers}
use Rattle.graph.specs.Record.{size_at, live_at, fresh}
use Rattle.graph.specs.Registration.{Added, counts_fit}
use Rattle.graph.specs.Reached as calls
use Rattle.graph.specs.Reached.{Call, prior, observation, variable, register, supersede, answered}
use Rattle.graph.specs.declared.Graph.{Graph}
use Rattle.graph.specs.declared.refusal.Refusal.{Refusal}
use Rattle.graph.specs.declared.refusal.Refusal.TheVariants.{KeysNotRising, CountOutside, BadRecord, NoSuchKey, NotLive}
use Rattle.records.specs.Bytes.{float_bytes, byte_at, cut, word_at, keys_read, numbers_at}
use Rattle.records.specs.declared.kinds.Mark.{Mark}
use Rattle.records.specs.declared.kinds.Mark.TheVariants as mark
use Rattle.records.specs.declared.kinds.Flag.{Flag}
use Rattle.records.specs.declared.kinds.Flag.TheVariants.{Diagonal, Given}
use Rattle.records.specs.declared.answer.Rejected.{Rejected}
use Rattle.records.specs.declared.answer.Read.{Read}

-- what a record asks for: a registering call, with the place of the record after it, or nothing, because it is turned back
pub data Request : Type 0 where
  ask : Call → ℕ → Request
  refuse : Refusal → Request

-- the bytes of a mark, of a variable after its mark, of an observation's counts and flag, and of the number of a factor to be superseded
abbrev pub mark_bytes : ℕ
mark_bytes = 2

abbrev pub variable_bytes : ℕ
variable_bytes = 9

abbrev pub header_bytes : ℕ
header_bytes = 3

abbrev pub number_bytes : ℕ
number_bytes = 1

-- the bytes of a variable's record, and at most of a factor's beside its numbers: a factor that supersedes another has its own mark within
abbrev pub variable_record : ℕ
variable_record = mark_bytes + variable_bytes

abbrev pub factor_frame : ℕ
factor_frame = mark_bytes + number_bytes + mark_bytes + header_bytes + max_keys

-- the numbers of an observation at most, those of A, mean and variance, and the bytes of the longest record
abbrev pub most_given : ℕ
most_given = max_rows * max_total + max_rows + max_rows * max_rows

abbrev pub longest : ℕ
longest = factor_frame + float_bytes * most_given

-- the bytes that decide what is read into a store of so many numbers: those of all records that it has room for, and of one record more
abbrev pub enough : ℕ → ℕ
enough room = variable_record * max_variables + factor_frame * max_factors + float_bytes * room + longest

-- ---- a variable: letter, index and size

unfoldable pub variable_at : List ℕ → ℕ → Request
variable_at bytes at =
    cond (cut bytes at variable_bytes) (refuse BadRecord)
    (ask (variable (word_at bytes at, word_at bytes (at + 4)) (byte_at bytes (at + 8))) (at + variable_bytes))

-- ---- a prior: key, means and variance

-- from the means on, of a key of size s
unfoldable pub prior_numbers : (store : List Float) (bytes : List ℕ) (key s at : ℕ) → Request
prior_numbers store bytes key s at =
    cond (cut bytes at (float_bytes * (s + s * s))) (refuse BadRecord)
    (ask (register (prior key (numbers_at bytes at s) (numbers_at bytes (at + float_bytes * s) (s * s))) store) (at + float_bytes * (s + s * s)))

unfoldable pub prior_at : (g : Graph) (store : List Float) (bytes : List ℕ) (at : ℕ) → Request
prior_at g store bytes at =
    cond (cut bytes at 1) (refuse BadRecord)
    (cond (not (ltb (byte_at bytes at) g.variables)) (refuse NoSuchKey)
    (prior_numbers store bytes (byte_at bytes at) (size_at g (byte_at bytes at)) (at + 1)))

-- ---- an observation: counts of keys and rows, flag, keys, A, means and, if the flag says so, the variance

-- 0.25
abbrev pub quarter : Float
quarter = fin false 1 (negsuc 1)

-- What flags 0, 1 and 2 say of the variance: a quarter on the diagonal and 0 elsewhere, numbers that follow, the identity. No other flag has a meaning.
abbrev pub meanings : List Flag
meanings = Diagonal quarter ∷ Given ∷ Diagonal one ∷ []

unfoldable pub meaning : ℕ → Option Flag
meaning flag = slice_get meanings flag

-- how many numbers of the variance of y rows follow, and the variance
abbrev pub given_numbers : Flag → ℕ → ℕ
given_numbers (Diagonal x) y = 0
given_numbers Given y = y * y

abbrev pub variance_read : Flag → (bytes : List ℕ) (at y : ℕ) → List Float
variance_read (Diagonal x) bytes at y = diagonal_of x y
variance_read Given bytes at y = numbers_at bytes at (y * y)

-- from the numbers on, of which A takes n
unfoldable pub observed_numbers : (store : List Float) (bytes keys : List ℕ) (rows : ℕ) (flag : Flag) (n at : ℕ) → Request
observed_numbers store bytes keys rows flag n at =
    cond (cut bytes at (float_bytes * (n + rows + given_numbers flag rows))) (refuse BadRecord)
    (ask (register (observation keys rows
    (numbers_at bytes at n)
    (numbers_at bytes (at + float_bytes * n) rows)
    (variance_read flag bytes (at + float_bytes * (n + rows)) rows)) store)
    (at + float_bytes * (n + rows + given_numbers flag rows)))

-- from the judging of the keys on
unfoldable pub observed : (g : Graph) (store : List Float) (bytes keys : List ℕ) (rows : ℕ) (flag : Flag) (at : ℕ) → Request
observed g store bytes keys rows flag at =
    cond (not (rising keys)) (refuse KeysNotRising)
    (cond (not (known g.variables keys)) (refuse NoSuchKey)
    (observed_numbers store bytes keys rows flag (a_numbers g.sizes (observation_of keys rows)) at))

-- from the counts on, by what the flag behind them means
abbrev pub flagged : Option Flag → (g : Graph) (store : List Float) (bytes : List ℕ) (at : ℕ) → Request
flagged None g store bytes at = refuse BadRecord
flagged (Some flag) g store bytes at =
    cond (not (counts_fit (byte_at bytes at) (byte_at bytes (at + 1)))) (refuse CountOutside)
    (cond (cut bytes (at + header_bytes) (byte_at bytes at)) (refuse BadRecord)
    (observed g store bytes (keys_read bytes (at + header_bytes) (byte_at bytes at)) (byte_at bytes (at + 1)) flag
    (at + header_bytes + byte_at bytes at)))

unfoldable pub observation_at : (g : Graph) (store : List Float) (bytes : List ℕ) (at : ℕ) → Request
observation_at g store bytes at = cond (cut bytes at header_bytes) (refuse BadRecord) (flagged (meaning (byte_at bytes (at + 2))) g store bytes at)

-- ---- a record: a mark, then its kind

-- VA, PR, OB and SU in ASCII
unfoldable pub mark_of : ℕ → ℕ → Option Mark
mark_of a b =
    cond (eqb a 0x56 && eqb b 0x41) (Some mark.Variable)
    (cond (eqb a 0x50 && eqb b 0x52) (Some mark.Prior)
    (cond (eqb a 0x4F && eqb b 0x42) (Some mark.Observation)
    (cond (eqb a 0x53 && eqb b 0x55) (Some mark.Superseding) None)))

-- the mark here; one that is cut marks no kind
unfoldable pub mark_at : (bytes : List ℕ) (at : ℕ) → Option Mark
mark_at bytes at = cond (cut bytes at mark_bytes) None (mark_of (byte_at bytes at) (byte_at bytes (at + 1)))

-- a prior's or an observation's record, by itself or within one that supersedes
abbrev pub marked_within : Option Mark → (g : Graph) (store : List Float) (bytes : List ℕ) (at : ℕ) → Request
marked_within (Some mark.Prior) g store bytes at = prior_at g store bytes at
marked_within (Some mark.Observation) g store bytes at = observation_at g store bytes at
marked_within _ g store bytes at = refuse BadRecord

unfoldable pub within_at : (g : Graph) (store : List Float) (bytes : List ℕ) (at : ℕ) → Request
within_at g store bytes at = marked_within (mark_at bytes at) g store bytes (at + mark_bytes)

-- what it asks for, in place of factor j
abbrev pub in_place : ℕ → Call → Call
in_place j (variable name size) = variable name size
in_place j (register exposure store) = supersede j exposure store
in_place j (supersede i exposure store) = supersede i exposure store

abbrev pub ask_in_place : ℕ → Request → Request
ask_in_place j (ask call next) = ask (in_place j call) next
ask_in_place j (refuse why) = refuse why

-- the number of the factor to be superseded, then the record within
unfoldable pub superseding_at : (g : Graph) (store : List Float) (bytes : List ℕ) (at : ℕ) → Request
superseding_at g store bytes at =
    cond (cut bytes at number_bytes) (refuse BadRecord)
    (cond (not (live_at g (byte_at bytes at))) (refuse NotLive)
    (ask_in_place (byte_at bytes at) (within_at g store bytes (at + number_bytes))))

abbrev pub marked : Option Mark → (g : Graph) (store : List Float) (bytes : List ℕ) (at : ℕ) → Request
marked (Some mark.Variable) g store bytes at = variable_at bytes at
marked (Some mark.Superseding) g store bytes at = superseding_at g store bytes at
marked m g store bytes at = marked_within m g store bytes at

unfoldable pub record_at : (g : Graph) (store : List Float) (bytes : List ℕ) (at : ℕ) → Request
record_at g store bytes at = marked (mark_at bytes at) g store bytes (at + mark_bytes)

-- ---- what a request comes to

-- the graph after a record, and where the next one begins, or why this one is turned back
pub record Step : Type 0 where
  pub graph : Graph
  pub next : Result ℕ Refusal

-- an accepted record leads to the next one
abbrev pub next_of : Result ℕ Refusal → ℕ → Result ℕ Refusal
next_of (Ok n) next = Ok next
next_of (Err why) next = Err why

abbrev pub went_to : Added → ℕ → Step
went_to added next = record { graph = added.graph; next = next_of added.outcome next }

abbrev pub stopped : Graph → Refusal → Step
stopped g why = record { graph = g; next = Err why }

abbrev pub step_of : Graph → Request → Step
step_of g (ask call next) = went_to (answered g call) next
step_of g (refuse why) = stopped g why

abbrev pub request_store : Graph → List Float → Request → List Float
request_store g store (ask call next) = calls.store_after g store call
request_store g store (refuse why) = store

-- ---- all records

-- the answer and the store
pub record Reading : Type 0 where
  pub answer : Read
  pub store : List Float

abbrev pub reading : Graph → Result (Unit {0}) Rejected → List Float → Reading
reading g ended store = record { answer = record { graph = g; ended = ended }; store = store }

abbrev pub onward : Result ℕ Refusal → (g : Graph) (store : List Float) (place : ℕ) (rest : ℕ → Reading) → Reading
onward (Ok next) g store place rest = rest next
onward (Err why) g store place rest = reading g (Err (record { why = why; place = place })) store

-- The records from a byte on; `place` counts them from 0. Each takes two bytes or more, so as many turns as there are bytes suffice.
unfoldable pub read_from : (turns : ℕ) (bytes : List ℕ) (at place : ℕ) (g : Graph) (store : List Float) → Reading
read_from zero bytes at place g store = reading g (Ok tt) store
read_from (suc turns) bytes at place g store =
    cond (ltb at (length bytes))
    (onward (step_of g (record_at g store bytes at)).next (step_of g (record_at g store bytes at)).graph (request_store g store (record_at g store bytes at)) place
    (λ next. read_from turns bytes next (place + 1) (step_of g (record_at g store bytes at)).graph (request_store g store (record_at g store bytes at))))
    (reading g (Ok tt) store)

unfoldable pub read_all : List ℕ → List Float → Reading
read_all bytes store = read_from (length bytes) bytes 0 0 fresh store
