-- A few calls worked out by computation: equal keys, a prior, an observation, a variance without a pivot, variances whose triangles differ, and
-- a prior in place of another. Assumes nothing.
use Prim.Native.Nat.{ℕ}
use mathlib.Core.Path.{◌≡◌, refl, ap}
use mathlib.Core.Bool.{true, false}
use mathlib.Core.List.{List, [], ◌∷◌}
use lib.Ieee.{Float, nan, inf, binary64, of_bits}
use lib.ListN.{replicate}
use Rattle.factor.specs.Limits.{max_factors}
use Rattle.factor.specs.Factor.{no_factor, prior_of, observation_of, with_live}
use Rattle.factor.specs.Told.{value, refusal}
use Rattle.factor.specs.declared.Factor.{Factor}
use Rattle.graph.specs.Record.{no_name, fresh, live_at, valid}
use Rattle.graph.specs.Registration.{refused, settle, FactorVerdict, accept, refuse, add_variable, prior_verdict, add_prior, prior_store, observation_verdict}
use Rattle.graph.specs.Registration.{add_observation, observation_store, superseding, superseding_store}
use Rattle.graph.specs.Told.{call_told}
use Rattle.graph.specs.declared.Graph.{Graph}
use Rattle.std.specs.Prelude.{Ok}
use Rattle.graph.specs.declared.refusal.Refusal.TheVariants.{KeysNotRising, NoSuchKey, NotFinite, VariancePivot, NotLive, NotSymmetric}
use Rattle.graph.proofs.Computing.{computed_test, computed_call}

abbrev float : ℕ → Float
float bits = of_bits binary64 bits

-- 0.25, 0.5, 1, 2, 4 and -1
abbrev quarter : Float
quarter = float 0x3FD0000000000000

abbrev half : Float
half = float 0x3FE0000000000000

abbrev one : Float
one = float 0x3FF0000000000000

abbrev two : Float
two = float 0x4000000000000000

abbrev four : Float
four = float 0x4010000000000000

abbrev minus_one : Float
minus_one = float 0xBFF0000000000000

-- keys 0 and 1 of size 1, with n factors
abbrev having : ℕ → List Factor → Graph
having n fs =
    record {
      symbols = (97, 0) ∷ (97, 1) ∷ replicate 30 no_name;
      sizes = 1 ∷ 1 ∷ replicate 30 0;
      variables = 2;
      factors = fs;
      count = n;
    }

unfoldable pair : Graph
unfolding computed_call
pair = having 0 (replicate max_factors no_factor)

-- two calls yield it without factors
pair_yielded : (add_variable (add_variable fresh (97, 0) 1).graph (97, 1) 1).graph ≡ pair
unfolding pair
pair_yielded = refl

-- the second variable's key is 1, and its name is then taken
key-told : call_told (add_variable (add_variable fresh (97, 0) 1).graph (97, 1) 1).outcome ≡ value (1 ∷ [])
unfolding pair call_told
key-told = refl

name_taken-told : call_told (add_variable pair (97, 1) 1).outcome ≡ refusal 10 []
unfolding pair call_told
name_taken-told = refl

-- equal keys are refused with 3
equal_keys-refused : observation_verdict pair (1 ∷ 1 ∷ []) 1 (one ∷ one ∷ []) (one ∷ []) (one ∷ []) (nan ∷ nan ∷ nan ∷ nan ∷ []) ≡ refuse KeysNotRising
unfolding pair
equal_keys-refused = refl

equal_keys : add_observation pair (1 ∷ 1 ∷ []) 1 (one ∷ one ∷ []) (one ∷ []) (one ∷ []) (nan ∷ nan ∷ nan ∷ nan ∷ []) ≡ refused pair KeysNotRising
unfolding add_observation
equal_keys = ap (settle pair (observation_of (1 ∷ 1 ∷ []) 1)) equal_keys-refused

equal_keys-told : call_told (add_observation pair (1 ∷ 1 ∷ []) 1 (one ∷ one ∷ []) (one ∷ []) (one ∷ []) (nan ∷ nan ∷ nan ∷ nan ∷ [])).outcome ≡ refusal 3 []
unfolding call_told
equal_keys-told = rw equal_keys

-- mean 2 and variance 4 are stored as xi 0.5 and W 0.25
prior-stored : prior_store pair 0 (two ∷ []) (four ∷ []) (nan ∷ nan ∷ nan ∷ []) ≡ half ∷ quarter ∷ nan ∷ []
unfolding pair
prior-stored = refl

prior-told : call_told (add_prior pair 0 (two ∷ []) (four ∷ []) (nan ∷ nan ∷ nan ∷ [])).outcome ≡ value (0 ∷ [])
unfolding pair call_told
prior-told = refl

-- A = (-1 1), mean 4 and variance 1 are stored as they are
observation-stored : observation_store pair (0 ∷ 1 ∷ []) 1 (minus_one ∷ one ∷ []) (four ∷ []) (one ∷ []) (nan ∷ nan ∷ nan ∷ nan ∷ nan ∷ [])
    ≡ minus_one ∷ one ∷ four ∷ one ∷ nan ∷ []
unfolding pair
observation-stored = refl

-- a variance of -1 has no pivot
no_pivot : prior_verdict pair 0 (two ∷ []) (minus_one ∷ []) (nan ∷ nan ∷ []) ≡ refuse VariancePivot
unfolding pair
no_pivot = refl

-- ---- priors of mean 0 on a key of size 2: both triangles of the variance count

abbrev zero : Float
zero = float 0

abbrev minus_zero : Float
minus_zero = float 0x8000000000000000

-- the float above 1
abbrev above-one : Float
above-one = float 0x3FF0000000000001

unfoldable square : (v00 v10 v01 v11 : Float) → FactorVerdict
unfolding computed_call
square v00 v10 v01 v11 = prior_verdict (add_variable fresh (97, 0) 2).graph 0 (zero ∷ zero ∷ []) (v00 ∷ v10 ∷ v01 ∷ v11 ∷ [])
    (nan ∷ nan ∷ nan ∷ nan ∷ nan ∷ nan ∷ [])

-- 0.0 and -0.0 agree; xi is 0 and W the identity
zeros_agree : square one minus_zero zero one ≡ accept (zero ∷ zero ∷ one ∷ zero ∷ zero ∷ one ∷ [])
unfolding square
zeros_agree = refl

-- the last bit counts
last_bit : square four one above-one four ≡ refuse NotSymmetric
unfolding square
last_bit = refl

-- 20 comes before 7, which is still 7 where the triangles agree; and 6 before 20
before-pivot : square one two zero one ≡ refuse NotSymmetric
unfolding square
before-pivot = refl

still_pivot : square one two two one ≡ refuse VariancePivot
unfolding square
still_pivot = refl

after-given : square one zero (inf true) one ≡ refuse NotFinite
unfolding square
after-given = refl

-- ---- a factor in place of another

-- there is nothing to supersede: 19, before the key, the lengths and the store are looked at
nothing-there : superseding pair 0 (add_prior pair 9 [] [] []) ≡ refused pair NotLive
unfolding pair
nothing-there = refl

nothing-there-told : call_told (superseding pair 0 (add_prior pair 9 [] [] [])).outcome ≡ refusal 19 []
unfolding pair call_told
nothing-there-told = refl

-- a prior on key 0, and then one on key 1 in its place
unfoldable first : Graph
unfolding computed_call
first = having 1 (prior_of 0 1 ∷ replicate 63 no_factor)

unfoldable second : Graph
unfolding computed_call
second = having 2 (with_live (prior_of 0 1) false ∷ prior_of 1 1 ∷ replicate 62 no_factor)

first_yielded : (add_prior pair 0 (one ∷ []) (one ∷ []) (nan ∷ nan ∷ [])).graph ≡ first
unfolding pair first
first_yielded = refl

in_its_place : superseding first 0 (add_prior first 1 (two ∷ []) (four ∷ []) (one ∷ one ∷ nan ∷ nan ∷ [])) ≡ record { graph = second; outcome = Ok 1 }
unfolding first second
in_its_place = refl

-- the numbers of the old one stay
numbers_stay : superseding_store first 0 (one ∷ one ∷ nan ∷ nan ∷ []) (prior_store first 1 (two ∷ []) (four ∷ []) (one ∷ one ∷ nan ∷ nan ∷ []))
    ≡ one ∷ one ∷ half ∷ quarter ∷ []
unfolding first
numbers_stay = refl

old_not-live : live_at second 0 ≡ false
unfolding second
old_not-live = refl

new-live : live_at second 1 ≡ true
unfolding second
new-live = refl

-- it can't be superseded again
not-again : superseding second 0 (add_prior second 1 (two ∷ []) (four ∷ []) (one ∷ one ∷ half ∷ quarter ∷ nan ∷ nan ∷ [])) ≡ refused second NotLive
unfolding second
not-again = refl

-- a refusal of the new one leaves the old one live
still_live : superseding first 0 (add_prior first 2 (two ∷ []) (four ∷ []) (one ∷ one ∷ nan ∷ nan ∷ [])) ≡ refused first NoSuchKey
unfolding first
still_live = refl

-- an only factor that isn't live is no record that calls yield
none-live : valid (having 1 (with_live (prior_of 0 1) false ∷ replicate 63 no_factor)) ≡ false
unfolding computed_test
none-live = refl
