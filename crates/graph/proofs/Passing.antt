-- Calls whose checks pass: a variable with a free name, and factors with means of zeros and identities as variances. Assumes nothing.
use Prim.Native.Nat.{ℕ, ◌+◌, ◌<◌, ◌≤◌}
use mathlib.Core.Path.{◌≡◌, refl, ap, ◌∙◌}
use mathlib.Core.Bool.{true}
use mathlib.Core.List.{List, [], ◌++◌}
use native.Mathlib.Omega.{arith}
use borrow.Author.Tests.{eq-eqb, le-leb}
use lib.Ieee.{Float}
use lib.ListN.{length, replicate, length-replicate}
use Rattle.matrix.specs.Sums.{plus_zero, one}
use Rattle.matrix.specs.Finite.{all_finite}
use Rattle.matrix.proofs.Diagonal.{diagonal-length, diagonal-finite}
use Rattle.cholesky.proofs.Identity.{identity_of, zeros-finite}
use Rattle.factor.specs.Limits.{max_factors, max_keys, max_rows}
use Rattle.factor.specs.Factor.{rising, known, prior_of, observation_of, a_numbers, numbers, lengths_fit, given_finite}
use Rattle.factor.specs.declared.Factor.{Factor}
use Rattle.factor.proofs.Counting.{every_3}
use Rattle.factor.proofs.Symmetry.{diagonal-symmetric}
use Rattle.cholesky.proofs.Forms.{identity-exchanged}
use Rattle.graph.specs.Record.{size_at, offset, valid}
use Rattle.graph.specs.Registration.{Added, with_variable, accept, with_factor, settle, weighed_verdict, factor_verdict, prior_verdict, add_prior}
use Rattle.graph.specs.Registration.{counts_fit, observation_verdict, add_observation}
use Rattle.graph.specs.Reached.{Exposure, prior, observation, variable, entered, graph_after}
use Rattle.graph.specs.declared.Symbol.{Symbol}
use Rattle.graph.specs.declared.Graph.{Graph}
use Rattle.std.specs.Prelude.{Ok}
use Rattle.graph.proofs.Checking.{Named, named, weighs, prior_as, observation_as}

pub variable-taken : (g : Graph) (name : Symbol) (size : ℕ) → Named g name size → graph_after g (variable name size) ≡ with_variable g name size
variable-taken g name size n = ap (λ (a : Added). a.graph) (named g name size n)

-- numbers that are all zero
abbrev zeros : ℕ → List Float
zeros n = replicate n plus_zero

-- a store that is just long enough for one factor more
abbrev pub room : Graph → Factor → List Float
room g f = zeros (offset g g.count + numbers g.sizes f)

-- the plain call is answered with the next number, and the graph has the factor
abbrev pub EntersAs : Graph → Exposure → Factor → Type 0
EntersAs g exposure f = entered g exposure (room g f) ≡ record { graph = with_factor g f; outcome = Ok g.count }

module _ (g : Graph) (f : Factor) (h12 : g.count < max_factors) (a : List Float) (long : length a ≡ a_numbers g.sizes f) (finite : all_finite a ≡ true) where
  lengths : lengths_fit g.sizes f (length a) (length (zeros f.rows)) (length (identity_of f.rows)) ≡ true
  unfolding lengths_fit
  lengths =
      every_3 _ _ _ (eq-eqb _ _ long) (eq-eqb _ _ (length-replicate f.rows plus_zero)) (eq-eqb _ _ (diagonal-length one f.rows))

  given : given_finite a (zeros f.rows) (identity_of f.rows) ≡ true
  unfolding given_finite
  given = every_3 _ _ _ finite (zeros-finite f.rows) (diagonal-finite one f.rows refl)

  factor_passes : factor_verdict g f a (zeros f.rows) (identity_of f.rows) (room g f) ≡ accept (a ++ zeros f.rows ++ identity_of f.rows)
  factor_passes =
      let l : offset g g.count + numbers g.sizes f ≤ length (room g f) = omega
      (arith, length-replicate (offset g g.count + numbers g.sizes f) plus_zero) in
      weighs g f a _ _ _ (record { lengths = lengths; few = h12; room = l; finite = given; triangles = diagonal-symmetric one f.rows refl })
      ∙ ap (weighed_verdict a) (identity-exchanged f.rows)

-- ---- a prior

abbrev pub plain_prior : Graph → ℕ → Exposure
plain_prior g key = prior key (zeros (size_at g key)) (identity_of (size_at g key))

module _ (g : Graph) (h30 : valid g ≡ true) (h12 : g.count < max_factors) (key : ℕ) (h11 : key < g.variables) where
  prior_passes : prior_verdict g key (zeros (size_at g key)) (identity_of (size_at g key)) (room g (prior_of key (size_at g key)))
      ≡ accept ([] ++ zeros (size_at g key) ++ identity_of (size_at g key))
  unfolding a_numbers all_finite
  prior_passes = prior_as g key _ _ _ h30 h11 ∙ factor_passes g (prior_of key (size_at g key)) h12 [] refl refl

  pub prior-taken : EntersAs g (plain_prior g key) (prior_of key (size_at g key))
  unfolding add_prior
  prior-taken = ap (settle g (prior_of key (size_at g key))) prior_passes

-- ---- an observation

abbrev pub plain_observation : Graph → List ℕ → ℕ → Exposure
plain_observation g keys y = observation keys y (zeros (a_numbers g.sizes (observation_of keys y))) (zeros y) (identity_of y)

module _ (g : Graph) (h30 : valid g ≡ true) (h12 : g.count < max_factors) (keys : List ℕ) (y : ℕ) (few : length keys ≤ max_keys) (some : 1 ≤ y)
    (most : y ≤ max_rows)
    (h3 : rising keys ≡ true) (h11 : known g.variables keys ≡ true) where
  abbrev a : List Float
  a = zeros (a_numbers g.sizes (observation_of keys y))

  counts : counts_fit (length keys) y ≡ true
  unfolding counts_fit
  counts = every_3 _ _ _ (le-leb _ _ few) (le-leb _ _ some) (le-leb _ _ most)

  observation_passes : observation_verdict g keys y a (zeros y) (identity_of y) (room g (observation_of keys y)) ≡ accept (a ++ zeros y ++ identity_of y)
  observation_passes = observation_as g keys y a _ _ _ h30 counts h3 h11
      ∙ factor_passes g (observation_of keys y) h12 a (length-replicate (a_numbers g.sizes (observation_of keys y)) plus_zero)
      (zeros-finite (a_numbers g.sizes (observation_of keys y)))

  pub observation-taken : EntersAs g (plain_observation g keys y) (observation_of keys y)
  unfolding add_observation
  observation-taken = ap (settle g (observation_of keys y)) observation_passes
