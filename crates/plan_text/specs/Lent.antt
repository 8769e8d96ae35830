-- Inner: what is asked of the closures that are lent, and what comes of them.
use Rattle.std.specs.Prelude.{◌≡◌, ◌≤◌, true, List, Result, ℕ, length}
use Rattle.std.specs.Borrow.{MutBor}
use Rattle.graph.specs.Record.{valid}
use Rattle.graph.specs.declared.Graph.{Graph}
use Rattle.records.specs.Records.{read_all}
use Rattle.text.specs.Putting.{Puts}
use Rattle.lines.specs.Lines.{written, laid_in}
use Rattle.lines.specs.declared.TooShort.{TooShort}
use Rattle.job.specs.Job.{factor_room, zeros, reading_text}
use Rattle.plan_text.specs.Shown.{text_room}

-- the text of a number, put into the buffer at a place
abbrev pub NumberText : Type 0
NumberText = ℕ → List ℕ

abbrev pub PutsAs : (MutBor (List ℕ) → ℕ → ℕ → ℕ → MutBor (List ℕ) → Type 0) → NumberText → Type 0
PutsAs post text = (out : MutBor (List ℕ)) (at x r : ℕ) (out' : MutBor (List ℕ)) → post out at x r out' → Puts out.now out'.now at r (text x)

-- a text at the buffer's start, and its length
pub record Shows (text out after : List ℕ) (r : Result ℕ TooShort) : Type 0 where
  pub value : r ≡ written out text
  pub out_after : after ≡ laid_in out text
  pub within : length text ≤ text_room

-- that of a graph
abbrev pub GraphText : Type 0
GraphText = Graph → List ℕ

abbrev pub ShowsAs : (Graph → MutBor (List ℕ) → Result ℕ TooShort → MutBor (List ℕ) → Type 0) → GraphText → Type 0
ShowsAs post text =
    (g : Graph) → valid g ≡ true → (out : MutBor (List ℕ)) (r : Result ℕ TooShort) (out' : MutBor (List ℕ)) → post g out r out'
    → Shows (text g) out.now out'.now r

-- a job's graph as text, or why reading it is refused
abbrev pub job_text : GraphText → List ℕ → List ℕ
job_text text bytes = reading_text (λ g factors. text g) (read_all bytes (zeros factor_room))
