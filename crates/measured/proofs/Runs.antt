-- Runs and plans one after the other, a direct elimination over what a job registers, and the number of a root. Assumes nothing.
use mathlib.Core.Path.{◌≡◌, refl, ap, ◌∙◌, sym}
use mathlib.Core.List.{List}
use Prim.Native.Nat.{ℕ, ◌+◌, ◌≤◌}
use native.Mathlib.Numerals.{add-one}
use Rattle.std.specs.Prelude.{Result, Ok, Err}
use lib.Ieee.{Float}
use lib.ListN.{length, get_or}
use Rattle.workspace.specs.Frames.{work_numbers}
use Rattle.factor.specs.Told.{Told, value, refusal}
use Rattle.graph.specs.Refusals.{refusal_number}
use Rattle.graph.specs.declared.Graph.{Graph}
use Rattle.graph.specs.declared.refusal.Refusal.{Refusal}
use Rattle.graph.proofs.Numbers.{number-most}
use Rattle.job.specs.Job.{factor_room, zeros}
use Rattle.records.specs.Records.{read_all}
use Rattle.records.specs.declared.answer.Read.{Read}
use Rattle.direct.specs.Direct.{direct_verdict, direct_answer, direct_store}
use Rattle.direct.specs.Told.{direct_told}
use Rattle.plan.specs.Plan.{plan_in}
use Rattle.plan.proofs.Sending.{messages-length}
use Rattle.solver.specs.Plan.{planned}
use Rattle.solver.specs.declared.Arranged.{Arranged}
use Rattle.solver.specs.Run as solver
use Rattle.solver.specs.Stages as stages
use Rattle.solver.specs.declared.run.Ran.{Ran}
use Rattle.measured.specs.Measured.{read_job, refused_mark, number_in, eliminated, Stores, stores, stores_in, again, repeated, forward_messages, replanned}
use Rattle.solver.specs.Run.{run_verdict}
use Rattle.solver.specs.Stages.{read}

-- no refusal's number is above 30
pub few : (r : ℕ) (why : Refusal) → r ≡ refusal_number why → r ≤ 30
few r why e = rw e (number-most why)

-- the number in an answer is what `direct` tells, a refusal marked
abbrev marked : Told → ℕ
marked (value values) = get_or values 0 0
marked (refusal number values) = refused_mark + number

pub number-tells : (d : Result ℕ Refusal) → number_in d ≡ marked (direct_told d)
unfolding direct_told
number-tells (Ok rows) = refl
number-tells (Err why) = refl

pub no_run : (g : Graph) (factors : List Float) (s : Stores) → s ≡ again g factors s 0
unfolding again
no_run g factors s = refl

pub one-run : (g : Graph) (factors : List Float) (s : Stores) (n : ℕ) (messages marginals : List Float) (work : ℕ) (r : Ran)
    (messages' marginals' : List Float) → work ≡ work_numbers
    → stores messages marginals ≡ again g factors s n → run_verdict r messages' marginals' ≡ solver.run g factors messages work marginals
    → stores messages' marginals' ≡ again g factors s (n + 1)
unfolding again
one-run g factors s n messages marginals work r messages' marginals' ew es e =
    rw (add-one n)
    (ap stores_in e ∙ ap (λ (w : ℕ). stores_in (solver.run g factors messages w marginals)) ew
    ∙ ap (λ (t : Stores). stores_in (solver.run g factors t.messages work_numbers t.marginals)) es)

pub all_runs : (g : Graph) (factors : List Float) (s : Stores) (times n : ℕ) (t : Stores) → n ≡ times → t ≡ again g factors s n → t ≡ again g factors s times
all_runs g factors s times n t en es = es ∙ ap (again g factors s) en

pub eliminated-is : (bytes slots kept cleared : List ℕ) (messages : List Float) (read : Read) (factors messages' : List Float) (d : Result ℕ Refusal) (r : ℕ)
    → read ≡ (read_all bytes (zeros factor_room)).answer
    → factors ≡ (read_all bytes (zeros factor_room)).store → d ≡ direct_answer
    (direct_verdict read.graph slots kept cleared factors (length messages) work_numbers)
    → messages' ≡ direct_store messages (direct_verdict read.graph slots kept cleared factors (length messages) work_numbers) → r ≡ number_in d
    → (r ≡ number_in (direct_answer (eliminated (read_job bytes) slots kept cleared (length messages)))) ×
    (messages' ≡ direct_store messages (eliminated (read_job bytes) slots kept cleared (length messages)))
unfolding eliminated
eliminated-is bytes slots kept cleared messages read factors messages' d r er ef ed em en = (en ∙ rw (ed, er, ef) refl, em ∙ rw (er, ef) refl)

pub repeated-is : (bytes : List ℕ) (s t : Stores) (times : ℕ) (read : Read) (factors : List Float) → read ≡ (read_all bytes (zeros factor_room)).answer
    → factors ≡ (read_all bytes (zeros factor_room)).store → t ≡ again read.graph factors s times → t ≡ repeated (read_job bytes) s times
unfolding repeated
repeated-is bytes s t times read factors er ef e = e ∙ rw (er, ef) refl

-- ---- plans

pub no_plan_lem : (g : Graph) → 0 ≡ replanned g 0
unfolding replanned
no_plan_lem g = refl

-- the arrays' count is the number of forward messages
pub one-plan : (g : Graph) (made : Arranged) (n : ℕ) → read (Ok made) ≡ planned g → made.plan.forward.count ≡ replanned g (n + 1)
unfolding replanned read plan_in
one-plan g made n e = rw (add-one n) (sym (messages-length made.plan.forward) ∙ ap forward_messages e)

-- a refused plan has none
pub none-made : (g : Graph) (why : Refusal) (n : ℕ) → read (Err why) ≡ planned g → 0 ≡ replanned g (n + 1)
unfolding replanned read
none-made g why n e = rw (add-one n) (ap forward_messages e)
