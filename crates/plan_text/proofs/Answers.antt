-- What the calls answer, by the plan that was made. Assumes nothing.
use Rattle.std.proofs.Common.{◌≡◌, ◌≤◌, ℕ, List, true, refl, sym, ap, subst, ◌∙◌}
use Rattle.std.specs.Prelude.{Result, Ok, Err}
use Rattle.graph.specs.Record.{valid}
use Rattle.graph.specs.declared.Graph.{Graph}
use Rattle.graph.specs.declared.refusal.Refusal.{Refusal}
use Rattle.graph.proofs.Keeping.{good_of}
use Rattle.records.specs.Records.{read_all}
use Rattle.records.specs.declared.answer.Rejected.{Rejected}
use Rattle.plan.specs.Plan.{plan_in}
use Rattle.solver.specs.Plan.{Answer, graph_plan, planned}
use Rattle.solver.specs.Stages.{read}
use Rattle.solver.specs.declared.Arranged.{Arranged}
use Rattle.lines.specs.Lines.{written, laid_in}
use Rattle.lines.specs.declared.TooShort.{TooShort}
use Rattle.job.specs.Job.{factor_room, zeros, read_text, deciding_bytes}
use Rattle.job.proofs.Longest.{read-placed}
use Rattle.job.proofs.Refusals.{Placed}
use Rattle.plan_text.specs.Text.{plan_text}
use Rattle.plan_text.specs.declared.ShowError.{ShowError}
use Rattle.plan_text.specs.declared.ShowError.TheVariants as error
use Rattle.plan_text.specs.Shown.{shown_as, shown_of, left_of, shown, shown_in, made_text, show_text}
use Rattle.plan_text.specs.Lent.{job_text}

module _ (g : Graph) (out after : List ℕ) where
  -- the text is laid, or the buffer is too short for it
  pub laid : (made : Arranged) (w : Result ℕ TooShort) → read (Ok made) ≡ planned g → w ≡ written out (plan_text (plan_in made.keys made.plan))
      → after ≡ laid_in out (plan_text (plan_in made.keys made.plan)) → (shown_as w ≡ shown g out) × (after ≡ shown_in g out)
  unfolding shown shown_in read
  laid made w is e f = (ap shown_as e ∙ ap (λ a. shown_of a out) is, f ∙ ap (λ a. left_of a out) is)

  -- the graph is refused
  pub refused : (why : Refusal) → read (Err why) ≡ planned g → (◌≡◌ {A = Result ℕ ShowError} (Err (error.Refused why)) (shown g out)) × (out ≡ shown_in g out)
  unfolding shown shown_in read
  refused why is = (ap (λ a. shown_of a out) is, ap (λ a. left_of a out) is)

-- the place of a refused record is one of those that decide
pub placed : (bytes : List ℕ) (e : Result (Unit {0}) Rejected) → e ≡ (read_all bytes (zeros factor_room)).answer.ended → (rejected : Rejected)
    → e ≡ Err rejected → rejected.place ≤ deciding_bytes
placed bytes e is rejected f = subst (Placed deciding_bytes) (sym is ∙ f) (read-placed bytes).1

-- a job that was read whole has a graph with a plan
pub rising-text : (bytes : List ℕ) → job_text (λ g. made_text (planned g)) bytes ≡ show_text bytes
unfolding show_text planned
rising-text bytes =
    let r = read_all bytes (zeros factor_room) in
    let v : valid r.answer.graph ≡ true = (good_of r.answer.graph (read-placed bytes).0).1 in
    ap (read_text r.answer.ended) (rw v refl)
