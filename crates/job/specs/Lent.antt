-- Inner: what is asked of the run that is lent, and the text that comes of it.
use Rattle.std.specs.Prelude.{◌≡◌, ℕ, List, Float, length}
use Rattle.std.specs.Borrow.{Bor, MutBor}
use Rattle.graph.specs.declared.Graph.{Graph}
use Rattle.records.specs.Records.{read_all}
use Rattle.workspace.specs.Frames.{work_numbers}
use Rattle.solver.specs.Run.{RunVerdict, run_verdict}
use Rattle.solver.specs.declared.run.Ran.{Ran}
use Rattle.job.specs.Job.{factor_room, message_room, marginal_room, zeros, verdict_text, reading_text}

-- what a run of a graph comes to whose factors stand in a store
abbrev pub Runs : Type 0
Runs = Graph → List Float → RunVerdict

-- a call of it, which may leave this behind: over stores of zeros it comes to the verdict
abbrev pub RunsAs : (Graph → Bor (List Float) → MutBor (List Float) → MutBor (List Float) → MutBor (List Float) → Ran → MutBor (List Float) → MutBor (List Float)
    → MutBor (List Float) → Type 0) → Runs → Type 0
RunsAs post verdict =
    (g : Graph) (factors : Bor (List Float)) (messages work marginals : MutBor (List Float)) (ran : Ran) (messages' work' marginals' : MutBor (List Float))
    → post g factors messages work marginals ran messages' work' marginals' → messages.now ≡ zeros message_room → length work.now ≡ work_numbers
    → marginals.now ≡ zeros marginal_room → run_verdict ran messages'.now marginals'.now ≡ verdict g factors.now

-- the text of a job whose graph is run so
abbrev pub answer_text : Runs → List ℕ → List ℕ
answer_text verdict bytes = reading_text (λ g factors. verdict_text g (verdict g factors)) (read_all bytes (zeros factor_room))
