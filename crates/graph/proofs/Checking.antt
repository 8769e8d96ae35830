-- What the checks of a call come to: each way out by the checks before it, and for each call one law by cases, so that no other proof opens a chain
-- of checks. Assumes nothing.
use Prim.Native.Nat.{ℕ, ◌+◌, ◌*◌, ◌<◌, ◌≤◌}
use mathlib.Core.Path.{◌≡◌, refl}
use mathlib.Core.Bool.{Bool, true, false}
use mathlib.Core.List.{List, [], ◌++◌}
use borrow.Author.Tests.{eqb-true, ltb-true, ltb-false, leb-true, leb-false, lt-ltb, le-ltb, le-leb, lt-leb}
use lib.Dec.{ltb, leb}
use lib.Ieee.{Float}
use lib.ListN.{length}
use Rattle.factor.specs.Limits.{max_variables, max_total, max_factors, max_keys, max_rows}
use Rattle.factor.specs.Counting.{every}
use Rattle.factor.specs.Factor.{rising, known, prior_of, observation_of, fits, a_numbers, lengths_fit, given_finite, symmetric, numbers}
use Rattle.cholesky.specs.Forms.{Form, form, pivot, not_finite, exchanged}
use Rattle.factor.specs.declared.Factor.{Factor}
use Rattle.factor.proofs.Counting.{every-at}
use Rattle.factor.proofs.Fitting.{prior-fits, observation-fits, observation-long}
use Rattle.graph.specs.Record.{size_at, scalar, size_fits, free, total, offset, valid}
use Rattle.graph.specs.Registration.{Added, refused, with_variable, add_variable, FactorVerdict, accept, refuse, weighed_verdict, factor_verdict, prior_verdict}
use Rattle.graph.specs.Registration.{counts_fit, observation_verdict}
use Rattle.graph.specs.declared.Symbol.{Symbol}
use Rattle.graph.specs.declared.Graph.{Graph}
use Rattle.std.specs.Prelude.{Ok}
use Rattle.graph.specs.declared.refusal.Refusal.{Refusal}
use Rattle.graph.specs.declared.refusal.Refusal.TheVariants.{NotALetter, SizeOutside, KeysNotRising, CountOutside, LengthUnlike, NotFinite}
use Rattle.graph.specs.declared.refusal.Refusal.TheVariants.{VariancePivot, NameTaken, NoSuchKey, PastLimit, FactorStoreShort, NotSymmetric, NoSuchGraph}

-- a check passes or fails
pub by : (b : Bool) {P : Type 0} → (b ≡ true → P) → (b ≡ false → P) → P
by true f h = f refl
by false f h = h refl

by_lt : (m n : ℕ) {P : Type 0} → (m < n → P) → (n ≤ m → P) → P
by_lt m n f h = by (ltb m n) (λ t. f (ltb-true m n t)) (λ t. h (ltb-false m n t))

by_le : (m n : ℕ) {P : Type 0} → (m ≤ n → P) → (n < m → P) → P
by_le m n f h = by (leb m n) (λ t. f (leb-true m n t)) (λ t. h (leb-false m n t))

-- ---- a variable

module _ (g : Graph) (name : Symbol) (size : ℕ) where
  abbrev pub registering : Added
  registering = add_variable g name size

  -- all checks passed
  pub record Named : Type 0 where
    pub sound : valid g ≡ true
    pub letter : scalar name.0 ≡ true
    pub sized : size_fits size ≡ true
    pub new : free g g.variables name ≡ true
    pub few : g.variables < max_variables
    pub room : total g + size ≤ max_total

  no_graph : valid g ≡ false → registering ≡ refused g NoSuchGraph
  unfolding add_variable
  no_graph h = rw h

  module _ (h30 : valid g ≡ true) where
    pub no_letter : scalar name.0 ≡ false → registering ≡ refused g NotALetter
    unfolding add_variable
    no_letter h = rw (h30, h)

    module _ (h1 : scalar name.0 ≡ true) where
      pub not_sized : size_fits size ≡ false → registering ≡ refused g SizeOutside
      unfolding add_variable
      not_sized h = rw (h30, h1, h)

      module _ (h2 : size_fits size ≡ true) where
        pub not_new : free g g.variables name ≡ false → registering ≡ refused g NameTaken
        unfolding add_variable
        not_new h = rw (h30, h1, h2, h)

        module _ (h10 : free g g.variables name ≡ true) where
          pub many_variables : max_variables ≤ g.variables → registering ≡ refused g PastLimit
          unfolding add_variable every
          many_variables l = simp (h30, h1, h2, h10, le-ltb _ _ l)

          pub too_large : g.variables < max_variables → max_total < total g + size → registering ≡ refused g PastLimit
          unfolding add_variable every
          too_large m l = simp (h30, h1, h2, h10, lt-ltb _ _ m, lt-leb _ _ l)

  pub named : Named → registering ≡ record { graph = with_variable g name size; outcome = Ok g.variables }
  unfolding add_variable every
  named n = simp (n.sound, n.letter, n.sized, n.new, lt-ltb _ _ n.few, le-leb _ _ n.room)

  pub variable-cases : (P : Added → Type 0) → ((why : Refusal) → P (refused g why))
      → (Named → P (record { graph = with_variable g name size; outcome = Ok g.variables })) → P registering
  variable-cases P back taken =
      by (valid g)
      (λ h30. by (scalar name.0)
      (λ h1. by (size_fits size)
      (λ h2. by (free g g.variables name)
      (λ h10. by_lt g.variables max_variables
      (λ few. by_le (total g + size) max_total
      (λ room.
      let n : Named = record { sound = h30; letter = h1; sized = h2; new = h10; few = few; room = room } in
      rw (named n) (taken n))
      (λ l. rw (too_large h30 h1 h2 h10 few l) (back _)))
      (λ l. rw (many_variables h30 h1 h2 h10 l) (back _)))
      (λ h. rw (not_new h30 h1 h2 h) (back _)))
      (λ h. rw (not_sized h30 h1 h) (back _)))
      (λ h. rw (no_letter h30 h) (back _)))
      (λ h. rw (no_graph h) (back _))

-- ---- the checks that priors and observations share

-- all of them passed
pub record Passed (g : Graph) (f : Factor) (a mean variance store : List Float) : Type 0 where
  pub lengths : lengths_fit g.sizes f (length a) (length mean) (length variance) ≡ true
  pub few : g.count < max_factors
  pub room : offset g g.count + numbers g.sizes f ≤ length store
  pub finite : given_finite a mean variance ≡ true
  pub triangles : symmetric f.rows variance ≡ true

module _ (g : Graph) (f : Factor) (a mean variance store : List Float) where
  abbrev pub checks : FactorVerdict
  checks = factor_verdict g f a mean variance store

  pub unlike : lengths_fit g.sizes f (length a) (length mean) (length variance) ≡ false → checks ≡ refuse LengthUnlike
  unfolding factor_verdict
  unlike h = rw h

  module _ (h5 : lengths_fit g.sizes f (length a) (length mean) (length variance) ≡ true) where
    pub full : max_factors ≤ g.count → checks ≡ refuse PastLimit
    unfolding factor_verdict
    full l = rw (h5, le-ltb _ _ l)

    module _ (h12 : g.count < max_factors) where
      pub short : length store < offset g g.count + numbers g.sizes f → checks ≡ refuse FactorStoreShort
      unfolding factor_verdict
      short l = rw (h5, lt-ltb _ _ h12, lt-leb _ _ l)

      pub not-given : offset g g.count + numbers g.sizes f ≤ length store → given_finite a mean variance ≡ false → checks ≡ refuse NotFinite
      unfolding factor_verdict
      not-given h13 h = rw (h5, lt-ltb _ _ h12, le-leb _ _ h13, h)

      pub not-symmetric : offset g g.count + numbers g.sizes f ≤ length store → given_finite a mean variance ≡ true
          → symmetric f.rows variance ≡ false → checks ≡ refuse NotSymmetric
      unfolding factor_verdict
      not-symmetric h13 h6 h = rw (h5, lt-ltb _ _ h12, le-leb _ _ h13, h6, h)

  pub weighs : Passed g f a mean variance store → checks ≡ weighed_verdict a (exchanged f.rows mean variance)
  unfolding factor_verdict
  weighs p = rw (p.lengths, lt-ltb _ _ p.few, le-leb _ _ p.room, p.finite, p.triangles)

  module _ (P : FactorVerdict → Type 0) where
    weighed_ways : (v : Form) → (v ≡ pivot → P (refuse VariancePivot)) → P (refuse NotFinite)
        → ((xi w : List Float) → v ≡ form xi w → P (accept (a ++ xi ++ w))) → P (weighed_verdict a v)
    weighed_ways (form xi w) r7 r6 taken = taken xi w refl
    weighed_ways pivot r7 r6 taken = r7 refl
    weighed_ways not_finite r7 r6 taken = r6

    -- each way out; all others follow from this
    pub factor_ways : P (refuse LengthUnlike) → P (refuse PastLimit) → P (refuse FactorStoreShort) → P (refuse NotFinite)
        → (symmetric f.rows variance ≡ false → P (refuse NotSymmetric)) → (exchanged f.rows mean variance ≡ pivot → P (refuse VariancePivot))
        → (Passed g f a mean variance store → (xi w : List Float) → exchanged f.rows mean variance ≡ form xi w → P (accept (a ++ xi ++ w)))
        → P checks
    factor_ways r5 r12 r13 r6 r20 r7 taken =
        by (lengths_fit g.sizes f (length a) (length mean) (length variance))
        (λ h5. by_lt g.count max_factors
        (λ few. by_le (offset g g.count + numbers g.sizes f) (length store)
        (λ room. by (given_finite a mean variance)
        (λ h6. by (symmetric f.rows variance)
        (λ h20.
        let p : Passed g f a mean variance store = record { lengths = h5; few = few; room = room; finite = h6; triangles = h20 } in
        rw (weighs p) (weighed_ways (exchanged f.rows mean variance) r7 r6 (taken p)))
        (λ h. rw (not-symmetric h5 few room h6 h) (r20 h)))
        (λ h. rw (not-given h5 few room h) r6))
        (λ l. rw (short h5 few l) r13))
        (λ l. rw (full h5 l) r12))
        (λ h. rw (unlike h) r5)

    -- whatever the refusal is
    pub factor-cases : ((why : Refusal) → P (refuse why))
        → (Passed g f a mean variance store → (xi w : List Float) → exchanged f.rows mean variance ≡ form xi w → P (accept (a ++ xi ++ w)))
        → P checks
    factor-cases back taken = factor_ways (back _) (back _) (back _) (back _) (λ h. back _) (λ h. back _) taken

-- the lengths are those that the factor's record asks for
module _ (g : Graph) (f : Factor) (a mean variance : ℕ) (h : lengths_fit g.sizes f a mean variance ≡ true) where
  pub a-long : a ≡ a_numbers g.sizes f
  unfolding lengths_fit
  a-long = eqb-true _ _ (every-at _ 0 h)

  pub mean_long : mean ≡ f.rows
  unfolding lengths_fit
  mean_long = eqb-true _ _ (every-at _ 1 h)

  pub variance_long : variance ≡ f.rows * f.rows
  unfolding lengths_fit
  variance_long = eqb-true _ _ (every-at _ 2 h)

-- a factor that is taken: its record fits and is live, all checks passed, and it is stored as A, xi and W
pub record Taken (g : Graph) (f : Factor) (a mean variance store xi w : List Float) : Type 0 where
  pub fit : fits g.sizes g.variables f ≡ true
  pub long : length f.keys ≡ max_keys
  pub alive : f.live ≡ true
  pub passed : Passed g f a mean variance store
  pub weighing : exchanged f.rows mean variance ≡ form xi w

-- ---- a prior

module _ (g : Graph) (key : ℕ) (mean variance store : List Float) where
  no_graph-prior : valid g ≡ false → prior_verdict g key mean variance store ≡ refuse NoSuchGraph
  unfolding prior_verdict
  no_graph-prior h = rw h

  module _ (h30 : valid g ≡ true) where
    pub no_key : g.variables ≤ key → prior_verdict g key mean variance store ≡ refuse NoSuchKey
    unfolding prior_verdict
    no_key l = rw (h30, le-ltb _ _ l)

    pub prior_as : key < g.variables → prior_verdict g key mean variance store ≡ factor_verdict g (prior_of key (size_at g key)) [] mean variance store
    unfolding prior_verdict
    prior_as l = rw (h30, lt-ltb _ _ l)

  pub prior-cases : (P : FactorVerdict → Type 0) → ((why : Refusal) → P (refuse why))
      → ((xi w : List Float) → Taken g (prior_of key (size_at g key)) [] mean variance store xi w → P (accept ([] ++ xi ++ w)))
      → P (prior_verdict g key mean variance store)
  prior-cases P back taken =
      by (valid g)
      (λ h30. by_lt key g.variables
      (λ l. rw (prior_as h30 l)
      (factor-cases g (prior_of key (size_at g key)) [] mean variance store P back
      (λ p xi w e. taken xi w (record { fit = prior-fits g.sizes g.variables key l; long = refl; alive = refl; passed = p; weighing = e }))))
      (λ l. rw (no_key h30 l) (back _)))
      (λ h. rw (no_graph-prior h) (back _))

-- ---- an observation

-- what counts within their limits tell
module _ (keys rows : ℕ) (h : counts_fit keys rows ≡ true) where
  pub few-keys : keys ≤ max_keys
  unfolding counts_fit
  few-keys = leb-true _ _ (every-at _ 0 h)

  pub some-rows : 1 ≤ rows
  unfolding counts_fit
  some-rows = leb-true _ _ (every-at _ 1 h)

  pub most-rows : rows ≤ max_rows
  unfolding counts_fit
  most-rows = leb-true _ _ (every-at _ 2 h)

-- the record of such an observation fits
pub counted-fits : (g : Graph) (keys : List ℕ) (rows : ℕ) → counts_fit (length keys) rows ≡ true → rising keys ≡ true → known g.variables keys
    ≡ true → fits g.sizes g.variables (observation_of keys rows) ≡ true
counted-fits g keys rows h4 h3 h11 = observation-fits keys g.sizes g.variables rows (few-keys _ _ h4) (some-rows _ _ h4) (most-rows _ _ h4) h3 h11

module _ (g : Graph) (keys : List ℕ) (rows : ℕ) (a mean variance store : List Float) where
  abbrev judged : FactorVerdict
  judged = observation_verdict g keys rows a mean variance store

  no_graph-observation : valid g ≡ false → judged ≡ refuse NoSuchGraph
  unfolding observation_verdict
  no_graph-observation h = rw h

  module _ (h30 : valid g ≡ true) where
    pub outside : counts_fit (length keys) rows ≡ false → judged ≡ refuse CountOutside
    unfolding observation_verdict
    outside h = rw (h30, h)

    module _ (h4 : counts_fit (length keys) rows ≡ true) where
      pub not-rising : rising keys ≡ false → judged ≡ refuse KeysNotRising
      unfolding observation_verdict
      not-rising h = rw (h30, h4, h)

      module _ (h3 : rising keys ≡ true) where
        pub not_known : known g.variables keys ≡ false → judged ≡ refuse NoSuchKey
        unfolding observation_verdict
        not_known h = rw (h30, h4, h3, h)

        pub observation_as : known g.variables keys ≡ true → judged ≡ factor_verdict g (observation_of keys rows) a mean variance store
        unfolding observation_verdict
        observation_as h11 = rw (h30, h4, h3, h11)

  pub observation-cases : (P : FactorVerdict → Type 0) → ((why : Refusal) → P (refuse why))
      → ((xi w : List Float) → Taken g (observation_of keys rows) a mean variance store xi w → P (accept (a ++ xi ++ w)))
      → P judged
  observation-cases P back taken =
      by (valid g)
      (λ h30. by (counts_fit (length keys) rows)
      (λ h4. by (rising keys)
      (λ h3. by (known g.variables keys)
      (λ h11. rw (observation_as h30 h4 h3 h11)
      (factor-cases g (observation_of keys rows) a mean variance store P back
      (λ p xi w e. taken xi w (record {
        fit = counted-fits g keys rows h4 h3 h11;
        long = observation-long keys (few-keys _ _ h4);
        alive = refl;
        passed = p;
        weighing = e;
      }))))
      (λ h. rw (not_known h30 h4 h3 h) (back _)))
      (λ h. rw (not-rising h30 h4 h) (back _)))
      (λ h. rw (outside h30 h) (back _)))
      (λ h. rw (no_graph-observation h) (back _))
