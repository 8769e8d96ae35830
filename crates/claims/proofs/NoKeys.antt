-- P1 for every job: one that is read whole and registers no variable prints nothing. The factors that were read fit into the store, the plan is
-- empty, and the run ends without a marginal. Assumes nothing.
use Prim.Native.Nat.{ℕ, zero, suc, ◌+◌, ◌≤◌}
use mathlib.Core.Path.{◌≡◌, refl, ap, ◌∙◌}
use mathlib.Core.Bool.{Bool, true, false, cond}
use mathlib.Core.List.{List, []}
use native.Mathlib.Omega.{arith}
use borrow.Author.Tests.{le-leb}
use lib.Dec.{ltb}
use Rattle.std.specs.Prelude.{Result, Ok, Err}
use lib.Ieee.{Float}
use lib.ListN.{length, length-replicate}
use Rattle.matrix.specs.Sums.{plus_zero}
use Rattle.factor.specs.Counting.{every, sum}
use Rattle.graph.specs.Record.{fresh, offset, valid}
use Rattle.graph.specs.Reached.{Reached}
use Rattle.graph.specs.declared.Graph.{Graph}
use Rattle.graph.specs.declared.refusal.Refusal.{Refusal}
use Rattle.graph.proofs.Keeping.{good_of}
use Rattle.records.specs.Records.{record_at, step_of, request_store, Reading, onward, read_from, read_all}
use Rattle.records.proofs.Progress.{record_bounded}
use Rattle.graph.proofs.Calls.{fresh-reached}
use Rattle.records.proofs.Reading.{step-reached}
use Rattle.records.proofs.StoreLength.{record_same}
use Rattle.schedule.specs.Plan as schedule
use Rattle.workspace.specs.Frames.{work_numbers}
use Rattle.messages.specs.Values.{values_to, values, refusal_from, finished_numbers}
use Rattle.messages.specs.Figure.{need_to, need}
use Rattle.marginals.specs.Marginals.{marginal_numbers, marginals_from, missing_from, marginals_in}
use Rattle.marginals.proofs.Rooms.{numbers-most}
use Rattle.solver.specs.Plan.{graph_plan, no_plan}
use Rattle.solver.specs.Run.{figure_of, first, second, third, carried, checked, run}
use Rattle.lines.specs.Lines.{lines_text}
use Rattle.job.specs.Job.{factor_room, message_room, marginal_room, zeros, verdict_text, run_text, read_text, job_text}

-- ---- the reading

-- what was read whole is a graph of registering calls, and its factors fit into the store
Held : Reading → Type 0
Held all = all.answer.ended ≡ Ok tt → Reached all.answer.graph × (offset all.answer.graph all.answer.graph.count ≤ length all.store)

held_turn : (b : Bool) (x y : Reading) → Held x → Held y → Held (cond b x y)
held_turn true x y h k = h
held_turn false x y h k = k

held_on : (place : ℕ) (next : Result ℕ Refusal) (g : Graph) (s : List Float) (rest : ℕ → Reading) → ((n : ℕ) → next ≡ Ok n → Held (rest n))
    → Held (onward next g s place rest)
unfolding Held
held_on place (Ok n) g s rest h = h n refl
held_on place (Err why) g s rest h = λ e. let z : ◌≡◌ {A = ℕ} 0 1 = cc in absurd (omega arith)

read_held : (turns : ℕ) (bytes : List ℕ) (at place : ℕ) (g : Graph) (store : List Float) → Reached g → offset g g.count ≤ length store
    → Held (read_from turns bytes at place g store)
unfolding read_from Held
read_held zero bytes at place g store r l = λ e. (r, l)
read_held (suc turns) bytes at place g store r l =
    let q = record_at g store bytes at in
    held_turn (ltb at (length bytes)) _ _
    (held_on place (step_of g q).next (step_of g q).graph (request_store g store q)
    (λ n. read_from turns bytes n (place + 1) (step_of g q).graph (request_store g store q))
    (λ n e. read_held turns bytes n (place + 1) (step_of g q).graph (request_store g store q) (step-reached g q r)
    (omega (arith, record_same g store bytes at, (record_bounded g (good_of g r) store l at bytes n e).1))))
    (λ e. (r, l))

-- ---- the run

no_plan_lem : (g : Graph) → g.variables ≡ 0 → graph_plan g ≡ no_plan
unfolding graph_plan schedule.plan
no_plan_lem g e = rw e

no_marginals : (g : Graph) (factors messages marginals : List Float) → valid g ≡ true → g.variables ≡ 0 → offset g g.count ≤ length factors
    → marginal_numbers g ≤ length marginals
    → run g factors messages work_numbers marginals ≡ record { answer = record { figure = 0; ended = Ok tt }; messages = messages; marginals = marginals }
unfolding run checked carried first second third figure_of need need_to values values_to refusal_from finished_numbers marginals_from missing_from marginals_in every
no_marginals g factors messages marginals v e l m = rw (v, no_plan_lem g e, le-leb _ _ l, le-leb 0 (length messages) (omega arith), le-leb _ _ m)

no_text : (g : Graph) (factors : List Float) → valid g ≡ true → g.variables ≡ 0 → offset g g.count ≤ length factors → run_text g factors ≡ []
unfolding run_text lines_text
no_text g factors v e l =
    ap (verdict_text g) (no_marginals g factors (zeros message_room) (zeros marginal_room) v e l
    (omega (arith, numbers-most g v, length-replicate marginal_room plus_zero)))
    ∙ ap (lines_text g (zeros marginal_room)) e

-- ---- the job

pub no_lines : (bytes : List ℕ) → (read_all bytes (zeros factor_room)).answer.ended ≡ Ok tt
    → (read_all bytes (zeros factor_room)).answer.graph.variables ≡ 0 → job_text bytes ≡ []
unfolding job_text read_all Held offset sum
no_lines bytes w e =
    let all : Reading = read_all bytes (zeros factor_room) in
    let h = read_held (length bytes) bytes 0 0 fresh (zeros factor_room) fresh-reached (omega arith) w in
    ap (λ x. read_text x (run_text all.answer.graph all.store)) w
    ∙ no_text all.answer.graph all.store (good_of all.answer.graph h.0).1 e h.1
