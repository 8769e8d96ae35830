-- Inner: a job's factors, eliminated directly; a job's graph, run several times or along an order; roots and lookups as numbers.
use Rattle.std.specs.Prelude.{ℕ, zero, suc, ◌+◌, ◌*◌, List, Option, Some, None, Result, Ok, Err, Float, length, take}
use Rattle.matrix.specs.Sums.{plus_zero}
use Rattle.workspace.specs.Frames.{work_numbers}
use Rattle.factor.specs.Factor.{lookup}
use Rattle.graph.specs.Refusals.{refusal_number}
use Rattle.graph.specs.declared.Graph.{Graph}
use Rattle.graph.specs.declared.refusal.Refusal.{Refusal}
use Rattle.records.specs.Records.{Reading, read_all}
use Rattle.records.specs.declared.answer.Rejected.{Rejected}
use Rattle.job.specs.Job.{factor_room, zeros, reading_stage}
use Rattle.direct.specs.Direct.{DirectVerdict, direct_verdict}
use Rattle.solver.specs.Plan.{Answer, planned}
use Rattle.solver.specs.Run as solver
use Rattle.solver.specs.declared.run.Ran.{Ran}
use Rattle.solver.specs.declared.run.Stopped.{Stopped}

-- what a job registers, in the factor store that `job` lends
abbrev pub read_job : List ℕ → Reading
read_job bytes = read_all bytes (zeros factor_room)

-- a refusal is marked; no message has as many rows
abbrev pub refused_mark : ℕ
refused_mark = 0x10000

abbrev pub number_in : Result ℕ Refusal → ℕ
number_in (Ok rows) = rows
number_in (Err why) = refused_mark + refusal_number why

-- a direct elimination of some of its factors
unfoldable pub eliminated : (r : Reading) (slots kept cleared : List ℕ) (room : ℕ) → DirectVerdict
eliminated r slots kept cleared room = direct_verdict r.answer.graph slots kept cleared r.store room work_numbers

-- the message and the marginal store
pub record Stores : Type 0 where
  pub messages : List Float
  pub marginals : List Float

abbrev pub stores : (messages marginals : List Float) → Stores
stores messages marginals = record { messages = messages; marginals = marginals }

abbrev pub stores_in : solver.RunVerdict → Stores
stores_in v = record { messages = v.messages; marginals = v.marginals }

-- n runs, each over the stores that the one before left
unfoldable pub again : (g : Graph) (factors : List Float) (s : Stores) (n : ℕ) → Stores
again g factors s zero = s
again g factors s (suc n) = let t = again g factors s n in stores_in (solver.run g factors t.messages work_numbers t.marginals)

-- the stores after n runs of a job's graph
unfoldable pub repeated : Reading → Stores → ℕ → Stores
repeated r s n = again r.answer.graph r.store s n

-- ---- the run along an order, as a number

-- a refusal with its stage and its place
abbrev pub marked : (why : Refusal) (stage place : ℕ) → ℕ
marked why stage place = 0x1000000 + refusal_number why * 0x10000 + stage * 0x100 + place

abbrev pub ended_number : Result (Unit {0}) Stopped → ℕ
ended_number (Ok done) = 0
ended_number (Err stopped) = marked stopped.why stopped.stage stopped.key

-- the figure 2^32 times, and how the run ended
abbrev pub ran_number : Ran → ℕ
ran_number r = r.figure * 0x100000000 + ended_number r.ended

-- a job's graph run along an order
unfoldable pub run_of : Reading → (order : List ℕ) → Stores → solver.RunVerdict
run_of r order s = solver.run_along r.answer.graph order r.store s.messages work_numbers s.marginals

-- a job that is refused in reading isn't run: its number has figure 0, and the stores stay
abbrev pub ordered_number : Result (Unit {0}) Rejected → solver.RunVerdict → ℕ
ordered_number (Ok done) v = ran_number v.answer
ordered_number (Err rejected) v = marked rejected.why reading_stage rejected.place

abbrev pub ordered_stores : Result (Unit {0}) Rejected → solver.RunVerdict → Stores → Stores
ordered_stores (Ok done) v s = stores_in v
ordered_stores (Err rejected) v s = s

-- ---- plans, roots, lookups

-- the forward messages of a plan; none where it is refused
abbrev pub forward_messages : Result Answer Refusal → ℕ
forward_messages (Ok made) = length made.plan.forward
forward_messages (Err why) = 0

-- those of a graph's plan, made n times; none where it is made no time
unfoldable pub replanned : Graph → ℕ → ℕ
replanned g zero = 0
replanned g (suc n) = forward_messages (planned g)

-- the number of a root
abbrev pub root_in : Option Float → Float
root_in (Some r) = r
root_in None = plus_zero

-- the number of a place, and 255 for none
abbrev pub place_number : Option ℕ → ℕ
place_number (Some j) = j
place_number None = 255

-- bytes that rise are no more than this
abbrev pub most_rising : ℕ
most_rising = 256

-- the lookup of a key: how many keys were read, 256 times, and its place. Keys past those that can rise are not looked at.
unfoldable pub lookup_number : (keys : List ℕ) (key : ℕ) → ℕ
lookup_number keys key = let looked = lookup (take most_rising keys) key in 256 * looked.read + place_number looked.place
