-- What a job prints is what the tables of `records` and `solver` tell: the refusal's number, its stage and its place. Assumes nothing.
use Prim.Native.Nat.{ℕ}
use mathlib.Core.Path.{◌≡◌, refl}
use mathlib.Core.List.{List}
use Rattle.std.specs.Prelude.{Result, Ok, Err}
use lib.Ieee.{Float}
use lib.ListN.{get_or}
use Rattle.factor.specs.Told.{Told, value, refusal}
use Rattle.graph.specs.declared.Graph.{Graph}
use Rattle.records.specs.Told as read
use Rattle.records.specs.declared.answer.Rejected.{Rejected}
use Rattle.solver.specs.Told as ran
use Rattle.solver.specs.declared.run.Stopped.{Stopped}
use Rattle.lines.specs.Lines.{lines_text, refusal_text}
use Rattle.job.specs.Job.{reading_stage, ended_text, read_text}

-- a run's text: with a refusal come the figure, which isn't printed, the stage and the key
abbrev ran_line : Graph → List Float → Told → List ℕ
ran_line g marginals (value values) = lines_text g marginals g.variables
ran_line g marginals (refusal number values) = refusal_text number (get_or values 1 0) (get_or values 2 0)

pub run_printed : (g : Graph) (marginals : List Float) (figure : ℕ) (e : Result (Unit {0}) Stopped) → ended_text g e marginals ≡ ran_line g marginals (ran.run_told figure e)
unfolding ran.run_told
run_printed g marginals figure (Ok done) = refl
run_printed g marginals figure (Err stopped) = refl

-- a reading's text: with a refusal comes the place of the record
abbrev read_line : (text : List ℕ) → Told → List ℕ
read_line text (value values) = text
read_line text (refusal number values) = refusal_text number reading_stage (get_or values 0 0)

pub reading_printed : (text : List ℕ) (e : Result (Unit {0}) Rejected) → read_text e text ≡ read_line text (read.read_told e)
unfolding read.read_told
reading_printed text (Ok done) = refl
reading_printed text (Err rejected) = refl
