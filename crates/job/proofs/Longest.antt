-- No job's text is longer than that of 32 keys, so a buffer of that length is never too short. Assumes nothing.
use Prim.Native.Nat.{ℕ, ◌*◌, ◌≤◌, ◌<◌}
use mathlib.Core.Path.{◌≡◌, refl, ap}
use mathlib.Core.Bool.{true}
use mathlib.Core.List.{List}
use native.Mathlib.Omega.{arith}
use borrow.Author.Tests.{le-leb}
use Rattle.std.specs.Prelude.{Result, Ok, Err}
use lib.Ieee.{Float}
use lib.ListN.{length, take, length-take, length-replicate}
use Rattle.matrix.specs.Sums.{plus_zero}
use Rattle.factor.specs.Limits.{max_variables}
use Rattle.graph.specs.Record.{valid, fresh}
use Rattle.graph.specs.Refusals.{refusal_number}
use Rattle.graph.specs.Reached.{Reached}
use Rattle.graph.specs.declared.Graph.{Graph}
use Rattle.graph.proofs.Keeping.{good_of}
use Rattle.graph.proofs.Numbers.{number-most}
use Rattle.records.specs.Records.{Reading, read_all}
use Rattle.records.specs.declared.answer.Rejected.{Rejected}
use Rattle.graph.proofs.Calls.{fresh-reached}
use Rattle.records.proofs.Prefix.{first_decide}
use Rattle.workspace.specs.Frames.{work_numbers}
use Rattle.solver.specs.Run.{run, run_along}
use Rattle.solver.specs.declared.run.Stopped.{Stopped}
use Rattle.lines.specs.Lines.{written}
use Rattle.lines.specs.declared.TooShort.{TooShort}
use Rattle.lines.proofs.Longest.{lines_most, refusal-most}
use Rattle.job.specs.Job.{factor_room, message_room, marginal_room, zeros, ended_text, run_text, run_along_text, read_text}
use Rattle.job.specs.Job.{reading_text, job_text, job_along_text, deciding_bytes, Decide}
use Rattle.job.proofs.Endings.{short_of}
use Rattle.job.proofs.Refusals.{Placed, read_fine, Keyed, run-keyed, along-keyed}

-- ---- the bytes that decide

-- the figure of firmware/strips.h
deciding_figure : deciding_bytes ≡ 19388
deciding_figure = refl

pub first_bytes_decide : Decide deciding_bytes
unfolding Decide job_text
first_bytes_decide bytes most l =
    let e = first_decide bytes factor_room most (zeros factor_room) l (omega (arith, length-replicate factor_room plus_zero)) in
    (e, ap (reading_text run_text) e)

-- a refused record is one of those that decide, and what was read is a graph of registering calls
pub read-placed : (bytes : List ℕ) → Reached (read_all bytes (zeros factor_room)).answer.graph
    × Placed deciding_bytes (read_all bytes (zeros factor_room)).answer.ended
unfolding Decide read_all
read-placed bytes =
    rw (← (first_bytes_decide bytes deciding_bytes (omega arith)).0) (go (take deciding_bytes bytes) (omega (arith, length-take deciding_bytes bytes)))
  where
    go : (first : List ℕ) → length first ≤ deciding_bytes → Reached (read_all first (zeros factor_room)).answer.graph
        × Placed deciding_bytes (read_all first (zeros factor_room)).answer.ended
    go first l = read_fine (length first) first 0 0 deciding_bytes fresh (zeros factor_room) fresh-reached (omega arith)

-- ---- the length

-- 32 lines of at most 717 bytes
abbrev pub text_most : ℕ
text_most = 717 * max_variables

ended-most : (g : Graph) (e : Result (Unit {0}) Stopped) (marginals : List Float) → valid g ≡ true → Keyed e → length (ended_text g e marginals) ≤ text_most
ended-most g (Ok done) marginals v k = lines_most g marginals v
ended-most g (Err s) marginals v k = omega (
  arith,
  refusal-most (refusal_number s.why) s.stage s.key (omega (arith, number-most s.why)) (omega (arith, k.0)) (omega (arith, k.1)),
)

run-most : (g : Graph) (factors : List Float) → valid g ≡ true → length (run_text g factors) ≤ text_most
unfolding run_text
run-most g factors v =
    let all = run g factors (zeros message_room) work_numbers (zeros marginal_room) in
    ended-most g all.answer.ended all.marginals v (run-keyed g factors (zeros message_room) work_numbers (zeros marginal_room))

along-most : (order : List ℕ) (g : Graph) (factors : List Float) → valid g ≡ true → length (run_along_text order g factors) ≤ text_most
unfolding run_along_text
along-most order g factors v =
    let all = run_along g order factors (zeros message_room) work_numbers (zeros marginal_room) in
    ended-most g all.answer.ended all.marginals v (along-keyed g order factors (zeros message_room) work_numbers (zeros marginal_room))

-- what a job's graph comes to is no longer than this, and so is what the job prints
module _ (text : Graph → List Float → List ℕ) (most : ℕ) (room : 71 ≤ most) (short : (g : Graph) (factors : List Float) → valid g ≡ true
    → length (text g factors) ≤ most) where
  read-most : (e : Result (Unit {0}) Rejected) (g : Graph) (factors : List Float) → Reached g → Placed deciding_bytes e → length (read_text e (text g factors)) ≤ most
  read-most (Ok done) g factors r l = short g factors (good_of g r).1
  read-most (Err e) g factors r l = omega (
    arith,
    refusal-most (refusal_number e.why) 0 e.place (omega (arith, number-most e.why)) (omega arith) (omega arith),
  )

  pub reading-most : (bytes : List ℕ) → length (reading_text text (read_all bytes (zeros factor_room))) ≤ most
  reading-most bytes =
      let fine = read-placed bytes in
      let all : Reading = read_all bytes (zeros factor_room) in
      read-most all.answer.ended all.answer.graph all.store fine.0 fine.1

pub job_most : (bytes : List ℕ) → length (job_text bytes) ≤ text_most
unfolding job_text
job_most bytes = reading-most run_text text_most (omega arith) run-most bytes

pub job_along-most : (bytes order : List ℕ) → length (job_along_text bytes order) ≤ text_most
unfolding job_along_text
job_along-most bytes order = reading-most (run_along_text order) text_most (omega arith) (along-most order) bytes

-- a buffer of that length takes every text
pub never_short : (bytes out : List ℕ) → text_most ≤ length out → written out (job_text bytes) ≡ Ok (length (job_text bytes))
unfolding written
never_short bytes out l = rw (le-leb (length (job_text bytes)) (length out) (omega (arith, job_most bytes)))

-- so only a shorter one is told to be too short
pub told-short : (text out : List ℕ) (r : Result ℕ TooShort) → length text ≤ text_most → r ≡ written out text → (short : TooShort) → r ≡ Err short → length out < text_most
told-short text out r l e short s = omega (arith, short_of out text r e short s)
