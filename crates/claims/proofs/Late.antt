-- The claim on late exposures: a factor more is an original more at the end of the live ones, and the others keep their keys. Assumes nothing.
use mathlib.Core.Path.{◌≡◌, refl, sym, ap, ap₂, subst, subst₂, ◌∙◌}
use mathlib.Core.Bool.{Bool, true, not, ◌&&◌, and-true}
use mathlib.Core.List.{List, [], ◌∷◌, ◌++◌}
use Prim.Native.Nat.{ℕ, ◌+◌, ◌≤◌, ◌<◌}
use native.Mathlib.Nat.{zero-add}
use native.Mathlib.Numerals.{add-one}
use native.Mathlib.Omega.{arith}
use lib.Ieee.{Float}
use lib.ListN.{length}
use Rattle.graph.specs.Record.{fresh, live_at, valid, factor_keys}
use Rattle.graph.specs.Reached.{exposed, register, yields}
use Rattle.graph.specs.declared.Graph.{Graph}
use Rattle.graph.specs.Registration.{Added}
use Rattle.graph.proofs.Calls.{entered-cases, yields_more, reached-more}
use Rattle.graph.proofs.Keeping.{good_of}
use Rattle.schedule.specs.Count.{In, keep, from, rising_where}
use Rattle.schedule.specs.Plan as schedule
use Rattle.schedule.specs.Late.{Agree, AtLeast}
use Rattle.schedule.proofs.Counts.{keep_append, rising-same, rising_in}
use Rattle.schedule.proofs.Sums.{from_snoc}
use Rattle.schedule.proofs.Late.{agree_itself, late}
use Rattle.plan.proofs.Membership.{mem-nil}
use Rattle.solver.specs.Plan.{live_numbers, graph_plan, planned}
use Rattle.claims.specs.Demand3.{plan_of}
use Rattle.claims.specs.Late.{Late}
use Rattle.claims.proofs.Calls.{Adds, taken_adds, room_in, reached}

-- a factor more, in no other's place
module _ (g h : Graph) (keys : List ℕ) (a : Adds g h keys []) where
  live_more : live_numbers g ++ (g.count ∷ []) ≡ live_numbers h
  unfolding rising_where keep
  live_more =
      sym (ap (λ (c : ℕ). rising_where c (live_at h)) (a.count ∙ add-one g.count) ∙ ap (keep (live_at h)) (from_snoc 0 g.count)
      ∙ keep_append (live_at h) (from 0 g.count) ((0 + g.count) ∷ [])
      ∙ ap₂ ◌++◌ (rising-same g.count (live_at h) (live_at g) still_live) (rw (zero-add g.count, a.new) refl))
    where
      still_live : (i : ℕ) → i < g.count → live_at h i ≡ live_at g i
      still_live i l = a.stays i l ∙ ap (λ (b : Bool). live_at g i && not b) (mem-nil i) ∙ and-true (live_at g i)

  agree : (t : ℕ) → AtLeast t keys → valid g ≡ true → valid h ≡ true → Agree t (plan_of (planned g)).forward (plan_of (planned h)).forward
  unfolding planned graph_plan
  agree t from-t sound sound' =
      rw (sound, sound') (subst₂ (λ (n : ℕ) (N : List ℕ). Agree t (graph_plan g).forward (schedule.plan n (factor_keys h) N (from 0 n)).forward)
      (sym a.variables) live_more
      (late g.variables (factor_keys g) (factor_keys h) (live_numbers g) g.count t (λ i m. sym (a.older i (rising_in g.count (live_at g) i m).1))
      (λ k m. from-t k (subst (λ (l : List ℕ). In k l) a.own m))))

pub late_exposures : Late
late_exposures cs exposure store t from-t =
    subst (λ (h : Graph). Agree t (plan_of (planned g)).forward (plan_of (planned h)).forward) (sym (yields_more cs fresh (register exposure store)))
    (entered-cases g exposure store Stays (λ why room sound. agree_itself t (plan_of (planned g)).forward)
    (λ f p mean variance xi w k e room sound. agree g _ (exposed exposure) (rw (← e) (taken_adds g f k.alive (omega arith))) t from-t
    (good_of g (reached cs)).1 sound)
    (room_in g (register exposure store) (reached cs)) (good_of _ (reached-more g _ (register exposure store) (reached cs) refl)).1)
  where
    g : Graph
    g = yields fresh cs

    Stays : Added → List Float → Type 0
    Stays x s = x.graph.count ≤ length g.factors → valid x.graph ≡ true → Agree t (plan_of (planned g)).forward (plan_of (planned x.graph)).forward
