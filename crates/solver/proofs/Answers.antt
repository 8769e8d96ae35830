-- What the answers of `arrange_along` and `plan_along` mean, and what an outcome tells of the graph and the order. Assumes nothing.
use mathlib.Core.Path.{◌≡◌, refl, sym, ap, ◌∙◌}
use mathlib.Core.Bool.{Bool, true, false, not, cond}
use mathlib.Core.List.{List, []}
use Prim.Native.Nat.{ℕ}
use lib.Ieee.{Float}
use lib.ListN.{take}
use Rattle.factor.specs.Told.{Told, value, refusal}
use Rattle.graph.specs.Record.{factor_at, live_at, valid}
use Rattle.graph.specs.declared.Graph.{Graph}
use Rattle.graph.specs.declared.refusal.Refusal.{Refusal}
use Rattle.graph.specs.declared.refusal.Refusal.TheVariants.{OrderUnlike, NoSuchGraph}
use Rattle.graph.proofs.Validity.{live-is}
use Rattle.schedule.specs.Count.{each_once}
use Rattle.schedule.specs.Plan as schedule
use Rattle.schedule.proofs.Counts.{rising-same}
use Rattle.plan.specs.Factors.{keys_among, live_among, Lists}
use Rattle.plan.specs.Plan.{plan_in}
use Rattle.plan.specs.declared.plan.Plan.{Plan}
use Rattle.plan.specs.declared.factors.Lives.{Lives}
use Rattle.solver.specs.Plan.{live_numbers, graph_plan, plan_along, Answer, made, planned, planned_along, struct_of}
use Rattle.solver.specs.Plan.{plan_answer, plan_along_answer}
use Rattle.solver.specs.Run as run
use Rattle.solver.specs.declared.Arranged.{Arranged}
use Rattle.solver.specs.declared.Planned.{Planned}
use Rattle.std.proofs.Common.{Result, Ok, Err}
use Rattle.solver.specs.Told.{plan_outcome_told, plan_told, plan_along_told}
use Rattle.solver.proofs.Tables.{same_keys}
use Rattle.solver.specs.Stages.{read}

-- below the count the record alone says whether a factor is live
same_live : (g : Graph) → live_among g.factors g.count ≡ live_numbers g
same_live g = rising-same g.count (λ i. (factor_at g i).live) (λ i. live_at g i) (λ i l. sym (live-is g i l))

-- the live originals and the order, as the plan's code is given them: the plan is the graph's
pub along_plan : (g : Graph) (live : Lives) (keys order : List ℕ) → Lists g.factors g.count live → take g.variables keys ≡ order
    → schedule.plan g.variables (keys_among g.factors g.count) (take live.count live.numbers) (take g.variables keys) ≡ plan_along g order
unfolding plan_along
along_plan g live keys order l e = rw (l.are ∙ same_live g, e, same_keys g)

module _ (g : Graph) (order : List ℕ) where
  pub held : (p : Plan) → valid g ≡ true → each_once g.variables order ≡ true → plan_in g.variables p ≡ plan_along g order
      → read (Ok (record { keys = g.variables; plan = p })) ≡ planned_along g order
  unfolding read planned_along
  held p v o e = rw (v, o, e)

  pub no_graph : valid g ≡ false → read (Err NoSuchGraph) ≡ planned_along g order
  unfolding read planned_along
  no_graph v = rw v

  pub no_order : valid g ≡ true → each_once g.variables order ≡ false → read (Err OrderUnlike) ≡ planned_along g order
  unfolding read planned_along
  no_order v o = rw (v, o)

-- what a plan's answer tells in the numbers of the documents
pub plan_tells : (g : Graph) (r : Result Planned Refusal) → r ≡ plan_answer g → plan_outcome_told r ≡ plan_told g
unfolding plan_answer planned plan_told plan_outcome_told
plan_tells g r e = ap plan_outcome_told e ∙ go (valid g)
  where
    go : (b : Bool) → plan_outcome_told (struct_of (cond b (made g (graph_plan g)) (Err NoSuchGraph))) ≡ cond b (value []) (refusal 30 [])
    go true = refl
    go false = refl

-- ---- along an order

module _ (g : Graph) (order : List ℕ) where
  -- by whether there is such a graph, and such an order
  abbrev by : {A : Type 0} → (graph order : Bool) (x y z : A) → A
  by b o x y z = cond b (cond o x y) z

  pub along_tells : (r : Result Planned Refusal) → r ≡ plan_along_answer g order → plan_outcome_told r ≡ plan_along_told g order
  unfolding plan_along_answer planned_along plan_along_told plan_outcome_told
  along_tells r e = ap plan_outcome_told e ∙ go (valid g) (each_once g.variables order)
    where
      go : (b o : Bool) → plan_outcome_told (struct_of (by b o (made g (plan_along g order)) (Err OrderUnlike) (Err NoSuchGraph)))
          ≡ by {A = Told} b o (value []) (refusal 21 []) (refusal 30 [])
      go true true = refl
      go true false = refl
      go false o = refl

  -- a plan that is made
  pub made_of : (a : Arranged) → read (Ok a) ≡ planned_along g order → (valid g ≡ true) × (each_once g.variables order ≡ true)
  unfolding read planned_along
  made_of a e = go (valid g) (each_once g.variables order) _ e
    where
      go : (b o : Bool) (x : Answer) → Ok x ≡ by b o (made g (plan_along g order)) (Err OrderUnlike) (Err NoSuchGraph) → (b ≡ true) × (o ≡ true)
      go true true x z = (refl, refl)
      go true false x z = absurd (cc)
      go false o x z = absurd (cc)

  -- a refused one refuses the run alike, with figure 0, stage 1, key 0
  pub refused_run : (why : Refusal) → read (Err why) ≡ planned_along g order → (factors messages : List Float) (work : ℕ) (marginals : List Float)
      → run.run_verdict (run.refusal 0 why 1 0) messages marginals ≡ run.run_along g order factors messages work marginals
  unfolding read planned_along run.run_along
  refused_run why e factors messages work marginals = go (valid g) (each_once g.variables order) _ e
    where
      go : (b o : Bool) (x : run.RunVerdict) → Err why ≡ by b o (made g (plan_along g order)) (Err OrderUnlike) (Err NoSuchGraph)
          → run.run_verdict (run.refusal 0 why 1 0) messages marginals
          ≡ cond (not b) (run.refuse 0 NoSuchGraph 1 0 messages marginals) (cond (not o) (run.refuse 0 OrderUnlike 1 0 messages marginals) x)
      go true true x z = absurd (cc)
      go true false x z = let y : why ≡ OrderUnlike = cc in rw y
      go false o x z = let y : why ≡ NoSuchGraph = cc in rw y
