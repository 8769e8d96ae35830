-- What a job prints: a line for each key, or one line that says why there are none. Definitions only.
use Rattle.std.specs.Prelude.{ℕ, ◌+◌, ◌*◌, ◌≤◌, ◌≡◌, List, Result, Ok, Err, Float, take, replicate}
use Rattle.matrix.specs.Sums.{plus_zero}
use Rattle.factor.specs.Limits.{max_size, max_total}
use Rattle.graph.specs.Refusals.{refusal_number}
use Rattle.graph.specs.declared.Graph.{Graph}
use Rattle.records.specs.Records.{enough, Reading, read_all}
use Rattle.records.specs.declared.answer.Rejected.{Rejected}
use Rattle.workspace.specs.Frames.{work_numbers}
use Rattle.solver.specs.Run.{RunVerdict, run, run_along}
use Rattle.solver.specs.declared.run.Stopped.{Stopped}
use Rattle.lines.specs.Lines.{lines_text, refusal_text}

-- ---- the stores of a job, each of zeros at first

-- the numbers of the factors, of the messages, and of the means and covariances; the work store has `work_numbers`
abbrev pub factor_room : ℕ
factor_room = 2048

abbrev pub message_room : ℕ
message_room = 3072

abbrev pub marginal_room : ℕ
marginal_room = max_total + max_size * max_total

abbrev pub zeros : ℕ → List Float
zeros n = replicate n plus_zero

-- ---- the text

-- the stage of a refusal by reading
abbrev pub reading_stage : ℕ
reading_stage = 0

-- how a run ended, with the marginals that it left
abbrev pub ended_text : Graph → Result (Unit {0}) Stopped → List Float → List ℕ
ended_text g (Ok done) marginals = lines_text g marginals g.variables
ended_text g (Err stopped) marginals = refusal_text (refusal_number stopped.why) stopped.stage stopped.key

abbrev pub verdict_text : Graph → RunVerdict → List ℕ
verdict_text g v = ended_text g v.answer.ended v.marginals

-- the run of a graph whose factors stand in a store
unfoldable pub run_text : Graph → List Float → List ℕ
run_text g factors = verdict_text g (run g factors (zeros message_room) work_numbers (zeros marginal_room))

-- along a lent order
unfoldable pub run_along_text : (order : List ℕ) → Graph → List Float → List ℕ
run_along_text order g factors = verdict_text g (run_along g order factors (zeros message_room) work_numbers (zeros marginal_room))

-- how the reading ended: for a refused job nothing else is looked at
abbrev pub read_text : Result (Unit {0}) Rejected → (text : List ℕ) → List ℕ
read_text (Ok done) text = text
read_text (Err rejected) text = refusal_text (refusal_number rejected.why) reading_stage rejected.place

-- with the text that the graph and its factors come to
abbrev pub reading_text : (Graph → List Float → List ℕ) → Reading → List ℕ
reading_text text r = read_text r.answer.ended (text r.answer.graph r.store)

unfoldable pub job_text : List ℕ → List ℕ
job_text bytes = reading_text run_text (read_all bytes (zeros factor_room))

unfoldable pub job_along_text : (bytes order : List ℕ) → List ℕ
job_along_text bytes order = reading_text (run_along_text order) (read_all bytes (zeros factor_room))

-- ---- the bytes that decide

abbrev pub deciding_bytes : ℕ
deciding_bytes = enough factor_room

-- the first n bytes, or any more of them, decide the graph with its store, and so what is printed
unfoldable pub Decide : ℕ → Type 0
Decide n =
    (bytes : List ℕ) (most : ℕ) → n ≤ most
    → (read_all (take most bytes) (zeros factor_room) ≡ read_all bytes (zeros factor_room)) × (job_text (take most bytes) ≡ job_text bytes)
