-- The pairs P1 to P10 of document 01, as one statement about the definitions that the contracts cite. Definitions only.
use Rattle.std.specs.Prelude.{◌≡◌, true, List, [], ◌∷◌, ◌++◌, map, ℕ, ◌≤◌, ◌<◌, length, get_or, replicate, Float, Some, Ok, Err}
use Rattle.std.specs.Float.{nan, binary64}
use Rattle.std.specs.Float.Ieee.{of_bits}
use Rattle.root.specs.Root.{root_of}
use Rattle.factor.specs.Limits.{max_size}
use Rattle.graph.specs.Refusals.{refusal_number}
use Rattle.graph.specs.Record.{fresh, live_at, valid, factor_keys}
use Rattle.graph.specs.Reached.{Call, prior, observation, variable, register, answered, graph_after, store_after}
use Rattle.graph.specs.declared.Graph.{Graph}
use Rattle.graph.specs.declared.refusal.Refusal.TheVariants.{KeysNotRising, MarginalPivot}
use Rattle.records.specs.Records.{read_all}
use Rattle.schedule.specs.Count.{In}
use Rattle.schedule.specs.Pass.{original}
use Rattle.schedule.specs.Gather.{Gathered}
use Rattle.schedule.specs.Plan as schedule
use Rattle.workspace.specs.Frames.{work_numbers, frame_of}
use Rattle.slots.specs.Layouts.{layout_of}
use Rattle.slots.specs.declared.Branch.TheVariants.{Z, X}
use Rattle.slots.specs.Views.{FactorView, likelihood, rows_of_all, with_views}
use Rattle.gaussian.specs.Elimination as gaussian
use Rattle.gaussian.specs.Elimination.{nth, begun, message}
use Rattle.messages.specs.Values.{values}
use Rattle.solver.specs.Plan.{planned}
use Rattle.marginals.specs.Marginals.{gathered_views}
use Rattle.lines.specs.Lines.{refused_word}
use Rattle.job.specs.Job.{factor_room, zeros, job_text}
use Rattle.solver.specs.Run.{RunVerdict, run}
use Rattle.claims.specs.Demand3.{plan_of}

-- ---- numbers, by their bits

abbrev pub float : ℕ → Float
float bits = of_bits binary64 bits

abbrev pub zer : Float
zer = float 0

abbrev pub plus_one : Float
plus_one = float 0x3FF0000000000000

abbrev pub minus_one : Float
minus_one = float 0xBFF0000000000000

abbrev pub two : Float
two = float 0x4000000000000000

abbrev pub three : Float
three = float 0x4008000000000000

abbrev pub four : Float
four = float 0x4010000000000000

abbrev pub three_quarters : Float
three_quarters = float 0x3FE8000000000000

-- ---- graphs, by calls that are lent one factor store in turn

pub record Built : Type 0 where
  pub graph : Graph
  pub store : List Float

-- a call is given the store
unfoldable pub called : Built → (List Float → Call) → Built
called r c = record { graph = graph_after r.graph (c r.store); store = store_after r.graph r.store (c r.store) }

unfoldable pub lent_to : Built → List (List Float → Call) → Built
lent_to r [] = r
lent_to r (c ∷ cs) = lent_to (called r c) cs

-- from a fresh graph and a store of n numbers
unfoldable pub built : ℕ → List (List Float → Call) → Built
built n cs = lent_to (record { graph = fresh; store = replicate n nan }) cs

-- a variable of size 1 and a number as its index
abbrev pub named : ℕ → List Float → Call
named i store = variable (97, i) 1

abbrev pub prior_on : (key : ℕ) (mean variance : Float) (store : List Float) → Call
prior_on key mean variance store = register (prior key (mean ∷ []) (variance ∷ [])) store

-- one row, variance 1
abbrev pub observation_on : (keys : List ℕ) (a : List Float) (mean : Float) (store : List Float) → Call
observation_on keys a mean store = register (observation keys 1 a (mean ∷ []) (plus_one ∷ [])) store

-- the prior and the observation of P4
abbrev pub weak : List Float → Call
weak = prior_on 0 zer plus_one

abbrev pub between : List Float → Call
between = observation_on (0 ∷ 1 ∷ []) (minus_one ∷ plus_one ∷ []) four

-- a variable without factors; with a prior of mean 2 and variance 4
abbrev pub bare : Built
bare = built 0 (named 0 ∷ [])

abbrev pub held : Built
held = built 2 (named 0 ∷ prior_on 0 two four ∷ [])

-- P4: three priors on key 0, and an observation of both keys
abbrev pub pair : Built
pair = built 10 (named 0 ∷ named 1 ∷ weak ∷ weak ∷ weak ∷ between ∷ [])

-- P9: an observation without keys, between others
abbrev pub keyless : Built
keyless = built 10 (named 0 ∷ named 1 ∷ weak ∷ observation_on [] [] two ∷ between ∷ [])

abbrev pub plan_built : Built → schedule.Plan
plan_built r = plan_of (planned r.graph)

-- a run over a store of n numbers for the messages, and of m for the marginals
abbrev pub run_built : Built → (n m : ℕ) → RunVerdict
run_built r n m = run r.graph r.store (replicate n nan) work_numbers (replicate m nan)

-- what a key gathers, as factors
abbrev pub no_gathering : Gathered
no_gathering = record { forward = []; backward = []; originals = []; leaves = []; last = [] }

abbrev pub gathered_at : Built → ℕ → List FactorView
gathered_at r k =
    let p = plan_built r in
    gathered_views r.graph r.store p (values r.graph r.store p.forward) (values r.graph r.store p.backward)
    (get_or p.at_key k no_gathering)

-- P10: one row over two cleared keys of size 2, beside a kept key of size 1
abbrev pub crossed : FactorView
crossed = likelihood (0 ∷ 1 ∷ []) 1 (plus_one ∷ two ∷ three ∷ four ∷ []) (zer ∷ []) (plus_one ∷ [])

-- ---- jobs, by their bytes

-- 2.0 and 4.0 in a job
abbrev pub two_bytes : List ℕ
two_bytes = 0 ∷ 0 ∷ 0 ∷ 0 ∷ 0 ∷ 0 ∷ 0 ∷ 0x40 ∷ []

abbrev pub four_bytes : List ℕ
four_bytes = 0 ∷ 0 ∷ 0 ∷ 0 ∷ 0 ∷ 0 ∷ 0x10 ∷ 0x40 ∷ []

-- a variable whose name has the letter a; of size 1
abbrev pub sized_bytes : (index size : ℕ) → List ℕ
sized_bytes index size = 0x56 ∷ 0x41 ∷ 0x61 ∷ 0 ∷ 0 ∷ 0 ∷ index ∷ 0 ∷ 0 ∷ 0 ∷ size ∷ []

abbrev pub bytes_of_variable : ℕ → List ℕ
bytes_of_variable index = sized_bytes index 1

-- a prior on key 0 with mean 2 and variance 4
abbrev pub bytes_of_prior : List ℕ
bytes_of_prior = 0x50 ∷ 0x52 ∷ 0 ∷ two_bytes ++ four_bytes

-- an observation of one row on the keys 1, 1
abbrev pub equal_bytes : List ℕ
equal_bytes = 0x4F ∷ 0x42 ∷ 2 ∷ 1 ∷ 1 ∷ 1 ∷ 1 ∷ []

-- ---- the statement

pub record Pairs : Type 0 where
  -- P1: no variables, no marginals
  pub p1 : run fresh [] [] work_numbers [] ≡ record { answer = record { figure = 0; ended = Ok tt }; messages = []; marginals = [] }
  -- P2: 16 at stage 3, key 0, and no marginal
  pub p2 : run_built bare 0 2 ≡ record { answer = record { figure = 0; ended = Err (record { why = MarginalPivot; stage = 3; key = 0 }) }; messages = []; marginals = nan ∷ nan ∷ [] }
  pub p2_number : refusal_number MarginalPivot ≡ 16
  -- P3: the mean and the covariance are those of the prior
  pub p3 : run_built held 0 2 ≡ record { answer = record { figure = 0; ended = Ok tt }; messages = []; marginals = two ∷ four ∷ [] }
  -- P4: the forward pass, its one message, and what it comes to
  pub p4 : (plan_built pair).forward ≡ record { step = 1; content = original 0 ∷ original 3 ∷ original 2 ∷ original 1 ∷ []; kept = 1 ∷ []; cleared = 0 ∷ [] } ∷ []
  pub p4_value : values pair.graph pair.store (plan_built pair).forward ≡ message 1 (plus_one ∷ []) (three ∷ []) (three_quarters ∷ []) ∷ []
  -- P5: the backward pass
  pub p5 : (plan_built pair).backward ≡ record { step = 1; content = original 3 ∷ []; kept = 0 ∷ []; cleared = 1 ∷ [] } ∷ []
  -- P6: what each key gathers; key 0 has 4 rows against 1, and so the x branch, whose result has 1
  pub p6 : (plan_built pair).at_key
      ≡ record { forward = []; backward = 0 ∷ []; originals = 0 ∷ 1 ∷ 2 ∷ []; leaves = 3 ∷ 0 ∷ 1 ∷ 2 ∷ []; last = [] }
      ∷ record { forward = 0 ∷ []; backward = []; originals = []; leaves = 0 ∷ 3 ∷ 2 ∷ 1 ∷ []; last = [] }
      ∷ []
  pub p6_rows : rows_of_all (layout_of (0 ∷ []) [] pair.graph.sizes) (nth (gathered_at pair 0)) (length (gathered_at pair 0)) ≡ 4
  pub p6_branch : gaussian.eliminate (gathered_at pair 0) (0 ∷ []) [] pair.graph.sizes
      ≡ gaussian.in_branch X (frame_of 0 1 1) (layout_of (0 ∷ []) [] pair.graph.sizes) (nth (gathered_at pair 0)) 4
  -- the run of that graph: both messages, and mean and covariance of both keys
  pub p4_run : run_built pair 7 5
      ≡ record {
        answer = record { figure = 6; ended = Ok tt };
        messages = plus_one ∷ three ∷ three_quarters ∷ minus_one ∷ zer ∷ zer ∷ nan ∷ [];
        marginals = zer ∷ float 0x3FD5555555555556 ∷ float 0x4010000000000001 ∷ float 0x3FF5555555555556 ∷ nan ∷ [];
      }
  -- P7: the roots of 4, 2 and the least number
  pub p7_four : root_of four ≡ Some two
  pub p7_two : root_of two ≡ Some (float 0x3FF6A09E667F3BCD)
  pub p7_least : root_of (float 1) ≡ Some (float 0x1E60000000000000)
  -- P8: keys 1, 1 are refused with 3
  pub p8 : (answered pair.graph (observation_on (1 ∷ 1 ∷ []) (plus_one ∷ plus_one ∷ []) plus_one (replicate 14 nan))).outcome ≡ Err KeysNotRising
  pub p8_number : refusal_number KeysNotRising ≡ 3
  -- P9: a live observation without keys is uncovered at every key; in a graph of two, the one of number 1
  pub p9_every : (g : Graph) → valid g ≡ true → (i k : ℕ) → live_at g i ≡ true → factor_keys g i ≡ [] → k < g.variables → (d : Gathered)
      → In i (get_or (plan_of (planned g)).at_key k d).originals
  pub p9 : map (λ (q : Gathered). q.originals) (plan_built keyless).at_key ≡ (0 ∷ 1 ∷ []) ∷ (1 ∷ []) ∷ []
  -- P10: block (1, 0) of the cleared block has rows (3 6) and (4 8); it is 4 × 4, column by column
  pub p10 : (with_views Z (frame_of 4 1 1) (layout_of (2 ∷ []) (0 ∷ 1 ∷ []) (2 ∷ 2 ∷ 1 ∷ [])) (nth (crossed ∷ [])) (begun Z (frame_of 4 1 1)) 1).s
      ≡ plus_one ∷ two ∷ three ∷ four
      ∷ two ∷ four ∷ float 0x4018000000000000 ∷ float 0x4020000000000000
      ∷ zer ∷ zer ∷ float 0x4022000000000000 ∷ float 0x4028000000000000
      ∷ zer ∷ zer ∷ float 0x4028000000000000 ∷ float 0x4030000000000000
      ∷ []
  -- P1 as a job: one that is read whole and registers no variable prints nothing, and so does one of no bytes
  pub p1_every : (bytes : List ℕ) → (read_all bytes (zeros factor_room)).answer.ended ≡ Ok tt
      → (read_all bytes (zeros factor_room)).answer.graph.variables ≡ 0 → job_text bytes ≡ []
  pub p1_job : job_text [] ≡ []
  -- P2 as a job, of every size: `refused 16 3 0`
  pub p2_job : (size : ℕ) → 1 ≤ size → size ≤ max_size → job_text (sized_bytes 0 size) ≡ refused_word ++ (32 ∷ 49 ∷ 54 ∷ 32 ∷ 51 ∷ 32 ∷ 48 ∷ 10 ∷ [])
  -- P3 and P8 as jobs: `0 4000000000000000 4010000000000000`; `refused 3 0 2`, since the third record is refused
  pub p3_job : job_text (bytes_of_variable 0 ++ bytes_of_prior)
      ≡ (48 ∷ [])
      ++ (32 ∷ 52 ∷ 48 ∷ 48 ∷ 48 ∷ 48 ∷ 48 ∷ 48 ∷ 48 ∷ 48 ∷ 48 ∷ 48 ∷ 48 ∷ 48 ∷ 48 ∷ 48 ∷ 48 ∷ [])
      ++ (32 ∷ 52 ∷ 48 ∷ 49 ∷ 48 ∷ 48 ∷ 48 ∷ 48 ∷ 48 ∷ 48 ∷ 48 ∷ 48 ∷ 48 ∷ 48 ∷ 48 ∷ 48 ∷ 48 ∷ [])
      ++ (10 ∷ [])
  pub p8_job : job_text (bytes_of_variable 0 ++ bytes_of_variable 1 ++ equal_bytes) ≡ refused_word ++ (32 ∷ 51 ∷ 32 ∷ 48 ∷ 32 ∷ 50 ∷ 10 ∷ [])
