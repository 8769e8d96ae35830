-- Inner: what the whole plan means, and what it asks.
-- Assumes nothing.
use Rattle.std.specs.Prelude.{◌≡◌, List, [], map, ℕ, ◌≤◌, ◌<◌, T, length, get_or, take}
use Rattle.factor.specs.Limits.{max_variables, max_factors}
use Rattle.schedule.specs.Count.{count, In, from}
use Rattle.schedule.specs.Plan as schedule
use Rattle.plan.specs.Mask.{has}
use Rattle.plan.specs.Pass.{messages_of, PassReady, Live, Agrees}
use Rattle.plan.specs.Gather.{Held, gathered_of}
use Rattle.plan.specs.Factors.{touched_keys, AllFit}
use Rattle.plan.specs.declared.gather.Gathered.{Gathered}
use Rattle.plan.specs.declared.plan.Plan.{Plan}
use Rattle.factor.specs.Factor.{absent}
use Rattle.factor.specs.declared.Factor.{Factor}

abbrev pub key_place : (k : ℕ) (order : List ℕ) → ℕ
key_place k order = schedule.place_in k order

-- Where a plan starts and along what: the first `number` of live are numbers of originals, none twice, and the first n of the order
-- name each of n keys once.
pub record Ordered (live : List ℕ) (number : ℕ) (order : List ℕ) (n : ℕ) : Type 0 where
  pub originals : Live live number
  pub distinct : (f : ℕ) → count f (take number live) ≤ 1
  pub each : (j : ℕ) → count j (take n order) ≡ count j (from 0 n)

-- What a plan asks: no more keys than there may be; every key of an original is one of them; and where it starts and along what.
pub record Sound (keys live : List ℕ) (number : ℕ) (order : List ℕ) (n : ℕ) : Type 0 where
  pub few : n ≤ max_variables
  pub low : (i j : ℕ) → T (has j (get_or keys i 0)) → j < n
  pub ordered : Ordered live number order n

-- the plan that the arrays hold, for n keys
unfoldable pub plan_in : (n : ℕ) → Plan → schedule.Plan
unfolding messages_of gathered_of
plan_in n p = record { forward = messages_of p.forward; backward = messages_of p.backward; at_key = map gathered_of (take n p.at) }

-- The arrays hold the plan of the definition, for every table K that the masks agree with.
abbrev pub Plans : (keys N order : List ℕ) (n : ℕ) → Plan → Type 0
Plans keys N order n p = (K : ℕ → List ℕ) → Agrees keys K → plan_in n p ≡ schedule.plan n K N order

abbrev pub no_gathered : Gathered
no_gathered = record { forward = 0; backward = 0; items = []; covered = 0; count = 0; last = 0 }

-- The arrays hold what their counts say, for whoever reads them: at most n messages a pass, contents of numbers of slots that stand
-- within the array of all contents, and leaves that are numbers of originals.
pub record Bounded (n : ℕ) (p : Plan) : Type 0 where
  pub forward : PassReady n p.forward
  pub backward : PassReady n p.backward
  pub long : length p.at ≡ max_variables
  pub held : (k : ℕ) → k < n → Held (get_or p.at k no_gathered)

-- What registration gives: the counts are within the limits, and each factor's keys are registered.
pub record Registered (factors : List Factor) (number n : ℕ) : Type 0 where
  pub few : n ≤ max_variables
  pub some : number ≤ max_factors
  pub fits : AllFit factors number
  pub below : (i : ℕ) → i < number → (j : ℕ) → In j (touched_keys (get_or factors i absent)) → j < n
