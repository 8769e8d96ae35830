-- Two runs of a graph over one factor store, with message and marginal stores of equal lengths, answer alike and leave the same numbers at
-- the start of the marginal store: a run never reads what these stores held. Assumes nothing.
use Prim.Native.Nat.{ℕ}
use mathlib.Core.Path.{◌≡◌, refl, subst₂}
use mathlib.Core.Bool.{Bool, true, false, not, cond}
use mathlib.Core.List.{List, [], ◌∷◌}
use lib.Dec.{leb}
use lib.Ieee.{Float}
use lib.ListN.{length}
use Rattle.factor.specs.Counting.{every}
use Rattle.graph.specs.Record.{offset, valid}
use Rattle.graph.specs.declared.Graph.{Graph}
use Rattle.graph.specs.declared.refusal.Refusal.{Refusal}
use Rattle.graph.specs.declared.refusal.Refusal.TheVariants.{FactorStoreShort, StoreShort, NoSuchGraph}
use Rattle.schedule.specs.Pass.{ClosedFactor}
use Rattle.schedule.specs.Plan as schedule
use Rattle.workspace.specs.Frames.{work_numbers}
use Rattle.messages.specs.Values.{FirstRefusal, overlaid}
use Rattle.std.proofs.Common.{Ok, Err}
use Rattle.marginals.specs.Marginals.{Found, marginal_numbers, marginals_in}
use Rattle.solver.specs.Run.{RunVerdict, refuse, third, second, first, carried, checked, figure_of, run}
use Rattle.solver.specs.Plan.{graph_plan}

-- equal answers, and one list laid over both marginal stores; it is empty where the run was refused
pub record Alike (r r' : List Float) (v v' : RunVerdict) : Type 0 where
  pub answers : v.answer ≡ v'.answer
  pub found : List Float
  pub laid : v.marginals ≡ overlaid r found
  pub laid' : v'.marginals ≡ overlaid r' found

module _ (m m' r r' : List Float) where
  either : (b : Bool) (v w v' w' : RunVerdict) → Alike r r' v v' → Alike r r' w w' → Alike r r' (cond b v w) (cond b v' w')
  either true v w v' w' a c = a
  either false v w v' w' a c = c

  refusals : (figure : ℕ) (why : Refusal) (stage key : ℕ) (n n' : List Float) → Alike r r' (refuse figure why stage key n r) (refuse figure why stage key n' r')
  refusals figure why stage key n n' = record { answers = refl; found = []; laid = refl; laid' = refl }

  thirds : (figure : ℕ) (n n' : List Float) (all : List Found) (s : FirstRefusal) → Alike r r' (third figure n r all s) (third figure n' r' all s)
  unfolding third
  thirds figure n n' all (Ok _) = record { answers = refl; found = marginals_in all; laid = refl; laid' = refl }
  thirds figure n n' all (Err u) = refusals figure u.why 3 u.at n n'

  seconds : (figure k : ℕ) (key : ℕ → ℕ) (bw : List ClosedFactor) (n n' : List Float) (s : FirstRefusal) (v v' : RunVerdict) → Alike r r' v v'
      → Alike r r' (second figure k key bw n r s v) (second figure k key bw n' r' s v')
  unfolding second
  seconds figure k key bw n n' (Ok _) v v' a = a
  seconds figure k key bw n n' (Err u) v v' a = refusals figure u.why 2 _ n n'

  firsts : (figure : ℕ) (key : ℕ → ℕ) (fw : List ClosedFactor) (n n' : List Float) (s : FirstRefusal) (v v' : RunVerdict) → Alike r r' v v'
      → Alike r r' (first figure key fw n r s v) (first figure key fw n' r' s v')
  unfolding first
  firsts figure key fw n n' (Ok _) v v' a = a
  firsts figure key fw n n' (Err u) v v' a = refusals figure u.why 1 _ n n'

  carries : (g : Graph) (key : ℕ → ℕ) (p : schedule.Plan) (figure : ℕ) (factors : List Float)
      → Alike r r' (carried g key p figure factors m r) (carried g key p figure factors m' r')
  unfolding carried
  carries g key p figure factors = firsts figure key p.forward _ _ _ _ _ (seconds figure g.variables key p.backward _ _ _ _ _ (thirds figure _ _ _ _))

  module _ (g : Graph) (key : ℕ → ℕ) (p : schedule.Plan) (figure : ℕ) (factors : List Float) (work : ℕ) where
    -- `checked`, with the lengths of the two stores apart
    abbrev by : (lm lr : ℕ) (n s : List Float) → RunVerdict
    by lm lr n s =
        cond (not (leb (offset g g.count) (length factors))) (refuse figure FactorStoreShort 1 0 n s)
        (cond (not (every (leb figure lm ∷ leb work_numbers work ∷ leb (marginal_numbers g) lr ∷ []))) (refuse figure StoreShort 1 0 n s)
        (carried g key p figure factors n s))

    checks : length m ≡ length m' → length r ≡ length r' → Alike r r' (checked g key p figure factors m work r) (checked g key p figure factors m' work r')
    unfolding checked
    checks e f =
        subst₂ (λ (lm lr : ℕ). Alike r r' (by (length m) (length r) m r) (by lm lr m' r')) e f
        (either (not (leb (offset g g.count) (length factors))) _ _ _ _ (refusals figure FactorStoreShort 1 0 m m')
        (either (not (every (leb figure (length m) ∷ leb work_numbers work ∷ leb (marginal_numbers g) (length r) ∷ []))) _ _ _ _
        (refusals figure StoreShort 1 0 m m') (carries g key p figure factors)))

  pub run_lengths : (g : Graph) (factors : List Float) (work : ℕ) → length m ≡ length m' → length r ≡ length r'
      → Alike r r' (run g factors m work r) (run g factors m' work r')
  unfolding run
  run_lengths g factors work e f = either (not (valid g)) _ _ _ _ (refusals 0 NoSuchGraph 1 0 m m')
      (checks g (λ place. place) (graph_plan g) (figure_of g (graph_plan g)) factors work e f)
