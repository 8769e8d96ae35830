-- Inner: the marginals as the tables and the stores of a run give them, and what their finding asks for.
use Rattle.std.specs.Prelude.{◌≡◌, true, List, [], ◌∷◌, map, ℕ, ◌+◌, ◌≤◌, ◌<◌, Float, length, get_or, take, Ok}
use Rattle.graph.specs.Record.{offset, valid, factor_keys}
use Rattle.graph.specs.declared.Graph.{Graph}
use Rattle.schedule.specs.Count.{from}
use Rattle.schedule.specs.Gather.{Gathered}
use Rattle.schedule.specs.Plan as schedule
use Rattle.schedule.specs.Messages.{Settled}
use Rattle.plan.specs.Gather.{Held, gathered_of}
use Rattle.plan.specs.Plan.{no_gathered}
use Rattle.plan.specs.declared.gather.Gathered as arrays
use Rattle.gaussian.specs.Elimination.{Outcome, eliminate}
use Rattle.gaussian.specs.Answers.{views_of}
use Rattle.gaussian.specs.Asked.{Asked}
use Rattle.gaussian.specs.declared.marginal.MarginalFault.{MarginalFault}
use Rattle.gaussian.specs.declared.marginal.MarginalFault.TheVariants as fault
use Rattle.graph.specs.declared.refusal.Refusal.{Refusal}
use Rattle.graph.specs.declared.refusal.Refusal.TheVariants.{ClearedPivot, MarginalPivot, ResultNotFinite}
use Rattle.lists.specs.Lists.{backward_shift, gathered_numbers}
use Rattle.messages.specs.Figure.{need}
use Rattle.messages.specs.Tables.{Carriable, PlacedTo, Tables, Stored}
use Rattle.messages.specs.Values.{FirstRefusal, overlaid}
use Rattle.messages.specs.Told.{carried_told, stop_told}
use Rattle.marginals.specs.Marginals.{marginal_numbers, Found, found_in, planned_marginals, missing_from, marginals_in}

-- ---- by the tables

-- what the last elimination of a key comes to, its slots read through the tables
abbrev pub last_by : (sizes : List ℕ) (factors messages : List Float) (keys heads : List ℕ) (k : ℕ) (q : Gathered) → Outcome
last_by sizes factors messages keys heads k q = eliminate (views_of factors messages keys heads (gathered_numbers q)) (k ∷ []) q.last sizes

unfoldable pub found_at : (sizes : List ℕ) (factors messages : List Float) (keys heads : List ℕ) (k : ℕ) (q : Gathered) → Found
found_at sizes factors messages keys heads k q = found_in (get_or sizes k 0) (last_by sizes factors messages keys heads k q)

-- the marginals of the keys from k on
unfoldable pub found_from : (sizes : List ℕ) (factors messages : List Float) (keys heads : List ℕ) (k : ℕ) (qs : List Gathered) → List Found
found_from sizes factors messages keys heads k [] = []
found_from sizes factors messages keys heads k (q ∷ qs) = found_at sizes factors messages keys heads k q ∷ found_from sizes factors messages keys heads (k + 1) qs

-- why a key has no marginal
abbrev pub refusal_of : MarginalFault → Refusal
refusal_of fault.ClearedPivot = ClearedPivot
refusal_of fault.Pivot = MarginalPivot
refusal_of fault.NotFinite = ResultNotFinite

-- ---- what is asked for

-- the last elimination of a key
abbrev pub AskedAt : (sizes : List ℕ) (factors messages : List Float) (work : ℕ) (keys heads : List ℕ) (k : ℕ) (q : Gathered) → Type 0
AskedAt sizes factors messages work keys heads k q = Asked (k ∷ []) q.last sizes factors messages work keys heads (gathered_numbers q)

pub record Findable (g : Graph) (at : List arrays.Gathered) (factors messages : List Float) (work : ℕ) (keys heads : List ℕ) (results : ℕ) : Type 0 where
  pub sound : valid g ≡ true
  pub long : g.variables ≤ length at
  pub held : (k : ℕ) → k < g.variables → Held (get_or at k no_gathered)
  pub asked : (k : ℕ) → k < g.variables → AskedAt g.sizes factors messages work keys heads k (gathered_of (get_or at k no_gathered))
  pub room : marginal_numbers g ≤ results

-- ---- of a plan

-- The tables and the stores are those of a run over the passes of a plan, and each key has what the plan gathers there.
pub record PlanCarried (g : Graph) (p : schedule.Plan) (at : List arrays.Gathered) (factors messages : List Float) (keys heads : List ℕ) : Type 0 where
  pub forward : Carriable g p.forward
  pub backward : Carriable g p.backward
  pub tables : Tables g keys heads
  pub placed : PlacedTo g p.forward 0 0 keys heads (length p.forward)
  pub placed' : PlacedTo g p.backward backward_shift (need g p.forward) keys heads (length p.backward)
  pub stored : (j : ℕ) → j < length p.forward → Stored g factors p.forward 0 messages j
  pub stored' : (j : ℕ) → j < length p.backward → Stored g factors p.backward (need g p.forward) messages j
  pub long : g.variables ≤ length at
  pub gathers : p.at_key ≡ map gathered_of (take g.variables at)
  pub held : (k : ℕ) → k < g.variables → Held (get_or at k no_gathered)
  pub settled : (k : ℕ) → k < g.variables
      → Settled g.variables (factor_keys g) (from 0 g.count) p.forward p.backward k (gathered_of (get_or at k no_gathered))
  pub enough : offset g g.count ≤ length factors
  pub enough' : need g p.forward + need g p.backward ≤ length messages

-- the answer tells the first key without a marginal; where there is none, the marginals are so many numbers, and stand at the start of the results
pub record Finds (all : List Found) (numbers : ℕ) (r : FirstRefusal) (before after : List Float) : Type 0 where
  pub tells : r ≡ missing_from 0 all
  pub told : carried_told r ≡ stop_told (missing_from 0 all)
  pub count : r ≡ Ok tt → length (marginals_in all) ≡ numbers
  pub stand : r ≡ Ok tt → after ≡ overlaid before (marginals_in all)

-- `Finds` holds for every plan p whose messages stand in these tables and stores
abbrev pub FindsPlanned : (g : Graph) (at : List arrays.Gathered) (factors messages : List Float) (keys heads : List ℕ)
    (r : FirstRefusal) (before after : List Float) → Type 0
FindsPlanned g at factors messages keys heads r before after =
    (p : schedule.Plan) → PlanCarried g p at factors messages keys heads → Finds (planned_marginals g factors p) (marginal_numbers g) r before after
