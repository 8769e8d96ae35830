-- The text of a job, by how its reading and its run ended, and that the text in a buffer is that one. Assumes nothing.
use Prim.Native.Nat.{ℕ, ◌≤◌, ◌<◌}
use mathlib.Core.Path.{◌≡◌, refl, sym, ap, ◌∙◌}
use mathlib.Core.Bool.{Bool, true, false, cond}
use mathlib.Core.List.{List}
use native.Mathlib.Omega.{arith}
use borrow.Author.Tests.{leb-true, leb-false}
use lib.Dec.{leb}
use Rattle.std.specs.Prelude.{Result, Ok, Err}
use lib.Ieee.{Float}
use lib.ListN.{length}
use Rattle.factor.specs.Limits.{max_variables}
use Rattle.factor.proofs.Counting.{sum-le}
use Rattle.graph.specs.Record.{valid}
use Rattle.graph.specs.Refusals.{refusal_number}
use Rattle.graph.specs.declared.Graph.{Graph}
use Rattle.graph.proofs.Validity.{valid-variables}
use Rattle.records.specs.Records.{read_all}
use Rattle.records.specs.declared.answer.Read.{Read}
use Rattle.records.specs.declared.answer.Rejected.{Rejected}
use Rattle.marginals.proofs.Rooms.{numbers-most}
use Rattle.solver.specs.Run.{RunVerdict, run_verdict}
use Rattle.solver.specs.declared.run.Ran.{Ran}
use Rattle.solver.specs.declared.run.Stopped.{Stopped}
use Rattle.graph.specs.Moments.{start_of}
use Rattle.lines.specs.Lines.{line_numbers, lines_text, refusal_text, written, laid_in}
use Rattle.lines.specs.declared.TooShort.{TooShort}
use Rattle.job.specs.Job.{factor_room, marginal_room, zeros, reading_stage, ended_text, verdict_text, read_text, reading_text}

-- what a laying answers, and how it leaves the buffer
abbrev pub Lays : List ℕ → List ℕ → Result ℕ TooShort → List ℕ → Type 0
Lays out text r after = (r ≡ written out text) × (after ≡ laid_in out text)

-- an equal text is laid alike
pub lays_same : (out s t : List ℕ) (r : Result ℕ TooShort) (after : List ℕ) → s ≡ t → Lays out s r after → Lays out t r after
lays_same out s t r after e p = rw e at p

-- a length that is answered is within the buffer
pub written-within : (out text : List ℕ) (n : ℕ) → written out text ≡ Ok n → n ≤ length out
unfolding written
written-within out text n e = by (leb (length text) (length out)) refl e
  where
    by : (b : Bool) → leb (length text) (length out) ≡ b → cond {A = Result ℕ TooShort} b (Ok (length text)) (Err (record {})) ≡ Ok n → n ≤ length out
    by true t h = let z : length text ≡ n = cc in omega (arith, leb-true (length text) (length out) t)
    by false t h = let z : ◌≡◌ {A = ℕ} 0 1 = cc in omega arith

-- a buffer that is told to be too short is shorter than the text
pub short_of : (out text : List ℕ) (r : Result ℕ TooShort) → r ≡ written out text → (short : TooShort) → r ≡ Err short → length out < length text
unfolding written
short_of out text r e short s = by (leb (length text) (length out)) refl (sym e ∙ s)
  where
    by : (b : Bool) → leb (length text) (length out) ≡ b → cond {A = Result ℕ TooShort} b (Ok (length text)) (Err (record {})) ≡ Err short → length out < length text
    by true t h = let z : ◌≡◌ {A = ℕ} 0 1 = cc in omega arith
    by false t h = leb-false (length text) (length out) t

-- the marginal store has room for the numbers of every graph
pub marginals_fit : (g : Graph) → valid g ≡ true → start_of g.sizes g.variables ≤ marginal_room
unfolding start_of
marginals_fit g v = omega (arith, sum-le (λ k. line_numbers g k) g.variables max_variables (valid-variables g v), numbers-most g v)

-- ---- how the run ended

-- a line a key, or a refusal alone
module _ (g : Graph) (e : Result (Unit {0}) Stopped) (marginals : List Float) where
  pub ended-done : (done : Unit {0}) → e ≡ Ok done → lines_text g marginals g.variables ≡ ended_text g e marginals
  ended-done done h = sym (ap (λ x. ended_text g x marginals) h)

  pub ended-refused : (stopped : Stopped) → e ≡ Err stopped → refusal_text (refusal_number stopped.why) stopped.stage stopped.key ≡ ended_text g e marginals
  ended-refused stopped h = sym (ap (λ x. ended_text g x marginals) h)

-- a run's verdict v, and the answer and marginals that it is
pub ended : (g : Graph) (ran : Ran) (messages marginals : List Float) (v : RunVerdict) → run_verdict ran messages marginals ≡ v
    → ended_text g ran.ended marginals ≡ verdict_text g v
ended g ran messages marginals v is = ap (verdict_text g) is

-- ---- how the reading ended

module _ (text : Graph → List Float → List ℕ) (bytes : List ℕ) (store : List Float) (r : Read) (is : r ≡ (read_all bytes (zeros factor_room)).answer)
    (stored : store ≡ (read_all bytes (zeros factor_room)).store) where
  abbrev all : List ℕ
  all = reading_text text (read_all bytes (zeros factor_room))

  read : read_text r.ended (text r.graph store) ≡ all
  read = rw (is, stored)

  pub whole : (done : Unit {0}) → r.ended ≡ Ok done → text r.graph store ≡ all
  whole done e = sym (ap (λ x. read_text x (text r.graph store)) e) ∙ read

  pub reading-refused : (rejected : Rejected) → r.ended ≡ Err rejected → refusal_text (refusal_number rejected.why) reading_stage rejected.place ≡ all
  reading-refused rejected e = sym (ap (λ x. read_text x (text r.graph store)) e) ∙ read
