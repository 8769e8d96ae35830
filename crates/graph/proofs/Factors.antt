-- The factors of a graph after one was added, and after one was retired. Assumes nothing.
use Prim.Native.Nat.{ℕ, ◌<◌}
use mathlib.Core.Path.{◌≡◌}
use mathlib.Core.Bool.{false}
use lib.ListN.{length}
use lib.Seq.{get_or-set_same, get_or-set_other}
use Rattle.factor.specs.Factor.{absent, with_live}
use Rattle.factor.specs.declared.Factor.{Factor}
use Rattle.graph.specs.Record.{factor_at}
use Rattle.graph.specs.Registration.{with_factor, retired}
use Rattle.graph.specs.declared.Graph.{Graph}

module _ (g : Graph) (f : Factor) where
  pub added_at : g.count < length g.factors → factor_at (with_factor g f) g.count ≡ f
  added_at l = get_or-set_same g.factors g.count f absent l

  pub added_else : (i : ℕ) → (i ≡ g.count → ⊥) → factor_at (with_factor g f) i ≡ factor_at g i
  added_else i d = get_or-set_other g.factors g.count i f absent d

module _ (g : Graph) (j : ℕ) where
  pub retired-at : j < length g.factors → factor_at (retired g j) j ≡ with_live (factor_at g j) false
  retired-at l = get_or-set_same g.factors j (with_live (factor_at g j) false) absent l

  pub retired_else : (i : ℕ) → (i ≡ j → ⊥) → factor_at (retired g j) i ≡ factor_at g i
  retired_else i d = get_or-set_other g.factors j i (with_live (factor_at g j) false) absent d
