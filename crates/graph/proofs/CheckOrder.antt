-- What follows of a factor's checks (`Checking`) for the answer and the store. Assumes nothing.
use Prim.Native.Nat.{ℕ, ◌+◌, ◌*◌, ◌<◌, ◌≤◌}
use mathlib.Core.Path.{◌≡◌, refl, sym, ap, subst, ◌∙◌}
use mathlib.Core.Bool.{true, false}
use mathlib.Core.List.{List}
use native.Mathlib.Omega.{arith}
use lib.Ieee.{Float}
use lib.ListN.{length}
use Rattle.matrix.specs.Finite.{all_finite}
use Rattle.cholesky.specs.Answers.{end_of}
use Rattle.factor.specs.Limits.{max_factors, max_rows}
use Rattle.factor.specs.Factor.{numbers, lengths_fit, given_finite, symmetric}
use Rattle.cholesky.specs.Forms.{Form, form, pivot, not_finite, exchanged}
use Rattle.factor.specs.Storing.{form_laid, FactorRoom}
use Rattle.factor.specs.declared.Factor.{Factor}
use Rattle.factor.proofs.Counting.{every-at}
use Rattle.cholesky.specs.declared.Fault.{Fault}
use Rattle.cholesky.specs.declared.Fault.TheVariants as cholesky
use Rattle.graph.specs.Record.{offset}
use Rattle.graph.specs.Registration.{FactorVerdict, refuse, with_factor, settle, stored, weighed_verdict}
use Rattle.graph.specs.declared.Graph.{Graph}
use Rattle.std.specs.Prelude.{Result, Ok, Err}
use Rattle.graph.specs.declared.refusal.Refusal.{Refusal}
use Rattle.graph.specs.declared.refusal.Refusal.TheVariants.{NotFinite, VariancePivot, NotSymmetric}
use Rattle.graph.proofs.Checking.{Passed, checks, not-symmetric, weighs, a-long, mean_long, variance_long}

-- a call that is turned back leaves the graph and the store
pub turned_back_lem : (g : Graph) (f : Factor) (store s : List Float) (v : FactorVerdict) (why : Refusal) → v ≡ refuse why → s ≡ store
    → (g ≡ (settle g f v).graph) × (Err why ≡ (settle g f v).outcome) × (s ≡ stored g store v)
turned_back_lem g f store s v why e k = rw e (refl, refl, k)

-- what is answered and the store s, by how the weighing ended
module _ (g : Graph) (f : Factor) (a mean variance store s : List Float) where
  abbrev pub Ends : Result (Unit {0}) Fault → Type 0
  Ends (Ok u) = (with_factor g f ≡ (settle g f (checks g f a mean variance store)).graph)
      × (Ok g.count ≡ (settle g f (checks g f a mean variance store)).outcome)
      × (s ≡ stored g store (checks g f a mean variance store))
  Ends (Err cholesky.Pivot) = (checks g f a mean variance store ≡ refuse VariancePivot) × (s ≡ store)
  Ends (Err cholesky.NotFinite) = (checks g f a mean variance store ≡ refuse NotFinite) × (s ≡ store)

-- what the code has tested before it looks at the variance's pairs, with the start that it has found
pub record Tested (g : Graph) (f : Factor) (a mean variance store : List Float) (start : ℕ) : Type 0 where
  pub lengths : lengths_fit g.sizes f (length a) (length mean) (length variance) ≡ true
  pub few : g.count < max_factors
  pub next : start ≡ offset g g.count
  pub room : start + numbers g.sizes f ≤ length store
  pub finite : given_finite a mean variance ≡ true

module _ (g : Graph) (f : Factor) (a mean variance store : List Float) (start : ℕ) (t : Tested g f a mean variance store start) where
  long : length mean ≡ f.rows
  long = mean_long g f _ _ _ t.lengths

  square : length variance ≡ length mean * length mean
  square = variance_long g f _ _ _ t.lengths ∙ ap (λ (y : ℕ). y * y) (sym long)

  -- the variance may be looked at, pair by pair
  pub square-finite : (length variance ≡ length mean * length mean) × (all_finite variance ≡ true)
  unfolding given_finite
  square-finite = (square, every-at _ 2 t.finite)

  pub asymmetric : symmetric (length mean) variance ≡ false → checks g f a mean variance store ≡ refuse NotSymmetric
  asymmetric h = not-symmetric g f a mean variance store t.lengths t.few (omega (arith, t.next, t.room)) t.finite (rw long at h)

  -- there is room for the numbers
  pub room_for : f.rows ≤ max_rows → FactorRoom (length mean) start a mean variance store
  unfolding numbers
  room_for most =
      let s : f.rows * f.rows ≡ length mean * length mean = ap (λ (y : ℕ). y * y) (sym long) in
      record { rows = omega (arith, long); of_mean = refl; of_variance = square; room = omega (arith, a-long g f _ _ _ t.lengths, long, t.room) }

  module _ (h20 : symmetric (length mean) variance ≡ true) (s : List Float) where
    passed : Passed g f a mean variance store
    passed = record { lengths = t.lengths; few = t.few; room = omega (arith, t.next, t.room); finite = t.finite; triangles = rw long at h20 }

    ends : (v : Form) → checks g f a mean variance store ≡ weighed_verdict a v → s ≡ form_laid v a store start → Ends g f a mean variance store s (end_of v)
    unfolding end_of
    ends (form xi w) c l = rw (c, ← t.next) (refl, refl, l)
    ends pivot c l = (c, l)
    ends not_finite c l = (c, l)

    pub ended : (r : Result (Unit {0}) Fault) → r ≡ end_of (exchanged (length mean) mean variance) → s
        ≡ form_laid (exchanged (length mean) mean variance) a store start → Ends g f a mean variance store s r
    ended r e l =
        let c = weighs g f a mean variance store passed ∙ ap (λ (y : ℕ). weighed_verdict a (exchanged y mean variance)) (sym long) in
        subst (Ends g f a mean variance store s) (sym e) (ends (exchanged (length mean) mean variance) c l)
