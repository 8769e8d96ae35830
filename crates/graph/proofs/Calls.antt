-- What any registering call comes to, by cases, and one call more at the end of a list. Assumes nothing.
use Prim.Native.Nat.{ℕ, ◌-◌}
use mathlib.Core.Path.{◌≡◌, refl, ap, subst, ◌∙◌}
use mathlib.Core.Bool.{true, false}
use mathlib.Core.List.{List, [], ◌∷◌, ◌++◌}
use lib.Ieee.{Float}
use lib.ListN.{length, take, replicate}
use lib.Seq.{take-append_seam}
use Rattle.factor.specs.Limits.{max_keys}
use Rattle.factor.specs.Factor.{prior_of, observation_of}
use Rattle.factor.specs.declared.Factor.{Factor}
use Rattle.graph.specs.Record.{size_at, fresh, live_at, valid}
use Rattle.graph.specs.Registration.{Added, refused, with_variable, FactorVerdict, accept, with_factor, settle, stored, add_prior, prior_store, add_observation}
use Rattle.graph.specs.Registration.{observation_store, retired, replacing, superseding, superseding_store}
use Rattle.graph.specs.Reached.{Exposure, Call, prior, observation, variable, register, supersede, entered, entered_store, exposed, answered, graph_after}
use Rattle.graph.specs.Reached.{lent, store_after, keys_given, numbers_named, yields, Reached}
use Rattle.graph.specs.declared.Symbol.{Symbol}
use Rattle.graph.specs.declared.Graph.{Graph}
use Rattle.std.specs.Prelude.{Ok}
use Rattle.graph.specs.declared.refusal.Refusal.{Refusal}
use Rattle.graph.specs.declared.refusal.Refusal.TheVariants.{NotLive, NoSuchGraph}
use Rattle.graph.proofs.Checking.{by, Named, Taken, variable-cases, prior-cases, observation-cases}

-- A call with these keys, these numbers to supersede and this store is turned back and leaves the graph and the store, or adds a variable, or adds a
-- factor of the keys and stores its numbers; in the last case it takes the place of the live factor that it names, if it names one.
pub data Comes (g : Graph) (keys olds : List ℕ) (store : List Float) : Added → List Float → Type 0 where
  turned : (why : Refusal) → Comes g keys olds store (refused g why) store
  named : (name : Symbol) (size : ℕ) → Named g name size
      → Comes g keys olds store (record { graph = with_variable g name size; outcome = Ok g.variables }) store
  taken : (f : Factor) (a mean variance xi w : List Float) → Taken g f a mean variance store xi w → take f.touched f.keys ≡ keys → olds ≡ []
      → Comes g keys olds store (settle g f (accept (a ++ xi ++ w))) (stored g store (accept (a ++ xi ++ w)))
  replaced : (j : ℕ) → live_at g j ≡ true → (f : Factor) (a mean variance xi w : List Float) → Taken g f a mean variance store xi w
      → take f.touched f.keys ≡ keys → olds ≡ j ∷ []
      → Comes g keys olds store (record { graph = retired (with_factor g f) j; outcome = Ok g.count }) (stored g store (accept (a ++ xi ++ w)))

-- ---- the ways out of a superseding call, whose plain call answers `plain` and leaves `s`

module _ (g : Graph) (j : ℕ) (plain : Added) (store s : List Float) where
  abbrev pub Superseded : Added → List Float → Type 0
  Superseded r t = (r ≡ superseding g j plain) × (t ≡ superseding_store g j store s)

  pub no_graph : (r : Added) → valid g ≡ false → r ≡ refused g NoSuchGraph → Superseded r store
  unfolding superseding superseding_store
  no_graph r h e = rw h (e, refl)

  module _ (h30 : valid g ≡ true) where
    pub not_live : (r : Added) → live_at g j ≡ false → r ≡ refused g NotLive → Superseded r store
    unfolding superseding superseding_store
    not_live r h e = rw (h30, h) (e, refl)

    pub in_place_lem : (r : Added) → live_at g j ≡ true → (p : Added) (t : List Float) → (p ≡ plain) × (t ≡ s) → r ≡ replacing p.graph j p.outcome
        → Superseded r t
    unfolding superseding superseding_store
    in_place_lem r h p t (ep, et) e = rw (h30, h, ← ep) (e, et)

-- ---- each call

-- a factor's plain call is turned back, or its factor is taken
pub entered-cases : (g : Graph) (exposure : Exposure) (own : List Float) (P : Added → List Float → Type 0) → ((why : Refusal) → P (refused g why) own)
    → ((f : Factor) (a mean variance xi w : List Float) → Taken g f a mean variance own xi w → take f.touched f.keys ≡ exposed exposure
    → P (settle g f (accept (a ++ xi ++ w))) (stored g own (accept (a ++ xi ++ w))))
    → P (entered g exposure own) (entered_store g exposure own)
unfolding add_prior prior_store add_observation observation_store
entered-cases g (prior key mean variance) own P back kept =
    prior-cases g key mean variance own (λ (v : FactorVerdict). P (settle g (prior_of key (size_at g key)) v) (stored g own v)) back
    (λ xi w t. kept _ [] mean variance xi w t refl)
entered-cases g (observation keys rows a mean variance) own P back kept =
    observation-cases g keys rows a mean variance own (λ (v : FactorVerdict). P (settle g (observation_of keys rows) v) (stored g own v)) back
    (λ xi w t. kept _ a mean variance xi w t (take-append_seam keys (replicate (max_keys - length keys) 0)))

pub comes : (g : Graph) (store : List Float) (c : Call) → Comes g (keys_given c) (numbers_named c) (lent store c) (answered g c) (store_after g store c)
comes g store (variable name size) = variable-cases g name size (λ (x : Added). Comes g [] [] store x store) turned (λ n. named name size n)
comes g store (register exposure own) = entered-cases g exposure own (Comes g (exposed exposure) [] own) turned
    (λ f a mean variance xi w t e. taken f a mean variance xi w t e refl)
comes g store (supersede j exposure own) =
    by (valid g)
    (λ h30. by (live_at g j)
    (λ h19. met _ _ (in_place_lem g j _ own _ h30 _ h19 _ _ (refl, refl) refl)
    (entered-cases g exposure own (λ x s. To (replacing x.graph j x.outcome) s) turned
    (λ f a mean variance xi w t e. replaced j h19 f a mean variance xi w t e refl)))
    (λ h. met _ _ (not_live g j _ own _ h30 _ h refl) (turned NotLive)))
    (λ h. met _ _ (no_graph g j _ own _ _ h refl) (turned NoSuchGraph))
  where
    To : Added → List Float → Type 0
    To = Comes g (exposed exposure) (j ∷ []) own

    met : (r : Added) (t : List Float) → Superseded g j (entered g exposure own) own (entered_store g exposure own) r t → To r t
        → To (superseding g j (entered g exposure own)) (superseding_store g j own (entered_store g exposure own))
    met r t (e, h) x = subst (λ (y : Added). To y (superseding_store g j own (entered_store g exposure own))) e (subst (To r) h x)

-- ---- one call more

pub yields_more : (cs : List Call) (g : Graph) (c : Call) → yields g (cs ++ (c ∷ [])) ≡ graph_after (yields g cs) c
unfolding yields
yields_more [] g c = refl
yields_more (b ∷ cs) g c = yields_more cs (graph_after g b) c

pub reached-more : (g h : Graph) (c : Call) → Reached g → graph_after g c ≡ h → Reached h
reached-more g h c r e = (r.0 ++ (c ∷ []), yields_more r.0 fresh c ∙ ap (λ (x : Graph). graph_after x c) r.1 ∙ e)

pub fresh-reached : Reached fresh
unfolding yields
fresh-reached = ([], refl)
