-- A job's run along an order, as a number and in its stores. Assumes nothing.
use mathlib.Core.Path.{◌≡◌, refl, sym, ap, subst, ◌∙◌}
use mathlib.Core.List.{List}
use Prim.Native.Nat.{ℕ, ◌≤◌}
use native.Mathlib.Omega.{arith}
use Rattle.std.specs.Prelude.{Result, Ok, Err}
use lib.Ieee.{Float}
use Rattle.workspace.specs.Frames.{work_numbers}
use Rattle.graph.specs.declared.Graph.{Graph}
use Rattle.records.specs.Records.{read_all}
use Rattle.records.specs.declared.answer.Read.{Read}
use Rattle.records.specs.declared.answer.Rejected.{Rejected}
use Rattle.job.specs.Job.{factor_room, zeros, reading_stage, deciding_bytes}
use Rattle.job.proofs.Refusals.{Placed, Keyed, along-keyed}
use Rattle.job.proofs.Longest.{read-placed}
use Rattle.solver.specs.Run.{RunVerdict, run_verdict, run_along}
use Rattle.solver.specs.declared.run.Ran.{Ran}
use Rattle.solver.proofs.Figures.{figure_most}
use Rattle.measured.specs.Measured.{read_job, marked, ran_number, Stores, stores, stores_in, run_of, ordered_number, ordered_stores}

-- the figure, the stage and the key of a run are small
pub small : (g : Graph) (order : List ℕ) (factors messages : List Float) (work : ℕ) (marginals : List Float) (ran : Ran) (messages' marginals' : List Float)
    → run_verdict ran messages' marginals' ≡ run_along g order factors messages work marginals → (ran.figure ≤ 0x100000) × Keyed ran.ended
small g order factors messages work marginals ran messages' marginals' is =
    let e : ran ≡ (run_along g order factors messages work marginals).answer = ap (λ (v : RunVerdict). v.answer) is in (
      omega (arith, ap (λ (r : Ran). r.figure) e, figure_most g order factors messages work marginals),
      subst (λ (r : Ran). Keyed r.ended) (sym e) (along-keyed g order factors messages work marginals),
    )

module _ (bytes : List ℕ) (r : Read) (is : r ≡ (read_all bytes (zeros factor_room)).answer) where
  -- and so is the place of a refused record
  pub place-small : (rejected : Rejected) → r.ended ≡ Err rejected → rejected.place ≤ 0x10000
  place-small rejected e =
      let l : Placed deciding_bytes (Err rejected) = subst (Placed deciding_bytes) (sym (ap (λ (x : Read). x.ended) is) ∙ e)
      (read-placed bytes).1 in
      omega arith

  module _ (order : List ℕ) (s : Stores) where
    abbrev run : RunVerdict
    run = run_of (read_job bytes) order s

    -- a job that was read is run
    pub ran_is : (store : List Float) → store ≡ (read_all bytes (zeros factor_room)).store → (done : Unit {0}) → r.ended ≡ Ok done → (ran : Ran)
        (messages marginals : List Float) (n : ℕ)
        → run_verdict ran messages marginals ≡ run_along r.graph order store s.messages work_numbers s.marginals → n ≡ ran_number ran
        → (n ≡ ordered_number (read_job bytes).answer.ended run) × (stores messages marginals ≡ ordered_stores (read_job bytes).answer.ended run s)
    unfolding run_of
    ran_is store stored done e ran messages marginals n v en =
        let w : run_verdict ran messages marginals ≡ run = v ∙ rw (is, stored) refl in
        let d : Ok done ≡ (read_job bytes).answer.ended = sym e ∙ ap (λ (x : Read). x.ended) is in (
          en ∙ ap (λ (x : RunVerdict). ran_number x.answer) w ∙ ap (λ (x : Result (Unit {0}) Rejected). ordered_number x run) d,
          ap stores_in w ∙ ap (λ (x : Result (Unit {0}) Rejected). ordered_stores x run s) d,
        )

    -- one that was refused isn't
    pub refused-is : (rejected : Rejected) (n : ℕ) → r.ended ≡ Err rejected → n ≡ marked rejected.why reading_stage rejected.place
        → (n ≡ ordered_number (read_job bytes).answer.ended run) × (s ≡ ordered_stores (read_job bytes).answer.ended run s)
    refused-is rejected n e en =
        let d : Err rejected ≡ (read_job bytes).answer.ended = sym e ∙ ap (λ (x : Read). x.ended) is in
        (en ∙ ap (λ (x : Result (Unit {0}) Rejected). ordered_number x run) d, ap (λ (x : Result (Unit {0}) Rejected). ordered_stores x run s) d)
