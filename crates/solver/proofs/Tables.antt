-- The factors of a valid graph are what a plan asks for, and mean its keys. Assumes nothing.
use mathlib.Core.Path.{◌≡◌, refl, fun_ext}
use mathlib.Core.Bool.{true}
use mathlib.Core.Logic.{⊎_elim}
use mathlib.Core.List.{List, [], ◌∷◌}
use Prim.Native.Nat.{ℕ, suc, ◌<◌}
use native.Mathlib.Omega.{arith}
use lib.ListN.{length, get_or, take, length-take}
use lib.Seq.{get_or-take}
use Rattle.factor.proofs.Fitting.{fits-key}
use Rattle.graph.specs.Record.{factor_at, valid, factor_keys}
use Rattle.graph.specs.declared.Graph.{Graph}
use Rattle.graph.proofs.Validity.{valid-variables, valid-count, valid-factor, valid_touched}
use Rattle.schedule.specs.Count.{count, In}
use Rattle.schedule.proofs.Counts.{hit-cases}
use Rattle.plan.specs.Factors.{keys_among}
use Rattle.plan.specs.Plan.{Registered}

-- a number that stands in a list is below what bounds its elements
pub bounded : (l : List ℕ) (n : ℕ) → ((i : ℕ) → i < length l → get_or l i 0 < n) → (j : ℕ) → In j l → j < n
unfolding count
bounded [] n h j s = absurd (omega arith)
bounded (x ∷ l) n h j s = ⊎_elim (λ w. omega (arith, w.0, h 0 (omega arith)))
    (λ w. bounded l n (λ i p. h (suc i) (omega arith)) j (omega (arith, w.1))) (hit-cases j x)

module _ (g : Graph) (v : valid g ≡ true) where
  -- the keys of the factor i are below the count of variables
  low : (i : ℕ) → i < g.count → (j : ℕ) → j < (factor_at g i).touched → get_or (factor_at g i).keys j 0 < g.variables
  low i h j l = fits-key g.sizes g.variables (factor_at g i) (valid-factor g v i h) j l

  pub registered : Registered g.factors g.count g.variables
  registered =
      record {
        few = valid-variables g v;
        some = valid-count g v;
        fits = λ i h. record { few = valid_touched g v i h; low = λ j l. omega (arith, low i h j l, valid-variables g v) };
        below =
            λ i h. bounded (take (factor_at g i).touched (factor_at g i).keys) g.variables
            (λ j l. let m : j < (factor_at g i).touched = omega (arith, length-take (factor_at g i).touched (factor_at g i).keys) in
            rw (get_or-take (factor_at g i).touched (factor_at g i).keys j 0 m) (low i h j m));
      }

-- the factors mean the keys of the graph
pub same_keys : (g : Graph) → keys_among g.factors g.count ≡ factor_keys g
unfolding factor_keys
same_keys g = fun_ext (λ i. refl)
