-- What the calls answer and leave in the buffer. Definitions only.
use Rattle.std.specs.Prelude.{List, Result, Ok, Err, ℕ}
use Rattle.graph.specs.Refusals.{refusal_number}
use Rattle.graph.specs.declared.Graph.{Graph}
use Rattle.graph.specs.declared.refusal.Refusal.{Refusal}
use Rattle.records.specs.Records.{read_all}
use Rattle.solver.specs.Plan.{Answer, planned, planned_along, graph_plan}
use Rattle.lines.specs.Lines.{refusal_text, written, laid_in}
use Rattle.lines.specs.declared.TooShort.{TooShort}
use Rattle.job.specs.Job.{factor_room, zeros, reading_text}
use Rattle.plan_text.specs.Text.{plan_text}
use Rattle.plan_text.specs.declared.ShowError as show
use Rattle.plan_text.specs.declared.ShowError.TheVariants as error

-- ---- the plan of a graph

-- how the laying of its text ended
abbrev pub shown_as : Result ℕ TooShort → Result ℕ show.ShowError
shown_as (Ok n) = Ok n
shown_as (Err short) = Err error.TooShort

-- or the plan's own refusal
abbrev pub shown_of : Result Answer Refusal → List ℕ → Result ℕ show.ShowError
shown_of (Ok a) out = shown_as (written out (plan_text a.plan))
shown_of (Err why) out = Err (error.Refused why)

-- a refused plan leaves the buffer as it was
abbrev pub left_of : Result Answer Refusal → List ℕ → List ℕ
left_of (Ok a) out = laid_in out (plan_text a.plan)
left_of (Err why) out = out

unfoldable pub shown : Graph → List ℕ → Result ℕ show.ShowError
shown g out = shown_of (planned g) out

unfoldable pub shown_in : Graph → List ℕ → List ℕ
shown_in g out = left_of (planned g) out

-- along a lent order: the plan's text, or the line of its refusal, which has stage 1 and key 0 as in the run
abbrev pub made_text : Result Answer Refusal → List ℕ
made_text (Ok a) = plan_text a.plan
made_text (Err why) = refusal_text (refusal_number why) 1 0

unfoldable pub along_text : Graph → (order : List ℕ) → List ℕ
along_text g order = made_text (planned_along g order)

-- ---- the plan of a job

unfoldable pub show_text : List ℕ → List ℕ
show_text bytes = reading_text (λ g factors. plan_text (graph_plan g)) (read_all bytes (zeros factor_room))

unfoldable pub show_along_text : (bytes order : List ℕ) → List ℕ
show_along_text bytes order = reading_text (λ g factors. along_text g order) (read_all bytes (zeros factor_room))

-- no text of a job's plan is longer
abbrev pub text_room : ℕ
text_room = 65536
