-- A few calls worked out by computation: P4's message, no slots, a superseded factor, and refusals. Assumes nothing.
use Prim.Native.Nat.{ℕ}
use mathlib.Core.Path.{◌≡◌, refl}
use mathlib.Core.Bool.{true, false}
use mathlib.Core.List.{List, [], ◌∷◌}
use lib.IntN.{pos, negsuc}
use lib.Ieee.{Float, fin}
use Rattle.factor.specs.Factor.{prior_of, observation_of}
use Rattle.graph.specs.Refusals.{refusal_number}
use Rattle.graph.specs.Record.{fresh}
use Rattle.graph.specs.Registration.{with_variable, with_factor, retired}
use Rattle.graph.specs.declared.Graph.{Graph}
use Rattle.graph.specs.declared.refusal.Refusal.TheVariants.{NeitherKeptNorCleared, KeptAndCleared, NoSuchKey, FactorStoreShort, StoreShort, ClearedPivot}
use Rattle.graph.proofs.Computing.{computed_test}
use Rattle.gaussian.proofs.Computing.{computed}
use Rattle.tables.specs.Originals.{original_view}
use Rattle.direct.specs.Direct.{list_counts_fit, disjoint, lists_fit, all_known, factor_placed, all_placed, views, direct_need, DirectVerdict, send}
use Rattle.direct.specs.Direct.{refuse, verdict_on}
use Rattle.direct.specs.Direct.{direct_verdict, direct_answer, direct_store}
use Rattle.std.specs.Prelude.{Ok, Err}

abbrev zer : Float
zer = fin false 0 (pos 0)

abbrev one : Float
one = fin false 1 (pos 0)

abbrev three : Float
three = fin false 3 (pos 0)

abbrev four : Float
four = fin false 1 (pos 2)

abbrev minus_one : Float
minus_one = fin true 1 (pos 0)

abbrev three_quarters : Float
three_quarters = fin false 3 (negsuc 1)

-- P4: keys 0 and 1 of size 1, three priors on 0, and an observation of both
abbrev pair : Graph
pair = with_variable (with_variable fresh (97, 0) 1) (97, 1) 1

abbrev four_factors : Graph
four_factors = with_factor (with_factor (with_factor (with_factor pair (prior_of 0 1)) (prior_of 0 1)) (prior_of 0 1)) (observation_of (0 ∷ 1 ∷ []) 1)

-- of each prior mean 0 and variance 1; of the observation A = (-1 1), mean 4 and variance 1
abbrev store : List Float
store = zer ∷ one ∷ zer ∷ one ∷ zer ∷ one ∷ minus_one ∷ one ∷ four ∷ one ∷ []

-- the verdict, opened for computing
unfoldable judged : List ℕ → List ℕ → List ℕ → List Float → ℕ → ℕ → DirectVerdict
unfolding direct_verdict list_counts_fit disjoint lists_fit all_known factor_placed all_placed views direct_need verdict_on original_view computed computed_test
judged slots kept cleared factors room work = direct_verdict four_factors slots kept cleared factors room work

p4 : judged (0 ∷ 3 ∷ 2 ∷ 1 ∷ []) (1 ∷ []) (0 ∷ []) store 3 2304 ≡ send 1 (one ∷ three ∷ three_quarters ∷ [])
unfolding judged
p4 = refl

-- it stands at the start of the message store, and the rest is as it was
p4-stored : direct_store (four ∷ four ∷ four ∷ minus_one ∷ []) (judged (0 ∷ 3 ∷ 2 ∷ 1 ∷ []) (1 ∷ []) (0 ∷ []) store 4 2304)
    ≡ one ∷ three ∷ three_quarters ∷ minus_one ∷ []
unfolding judged direct_store
p4-stored = refl

-- no slots with nothing cleared: no rows are an answer, and refusal 0 is none
no_slots : direct_answer (judged [] [] [] store 0 2304) ≡ Ok 0
unfolding judged direct_answer
no_slots = refl

-- 0: key 0 of the observation is neither kept nor cleared
not_listed : direct_answer (judged (3 ∷ []) (1 ∷ []) [] store 3 2304) ≡ Err NeitherKeptNorCleared
unfolding judged direct_answer
not_listed = refl

number_nought : refusal_number NeitherKeptNorCleared ≡ 0
number_nought = refl

-- 9: key 0 in both lists
in_both : judged (0 ∷ []) (0 ∷ []) (0 ∷ []) store 3 2304 ≡ refuse KeptAndCleared
unfolding judged
in_both = refl

-- 11: there is no factor 4
no_slot : judged (4 ∷ []) (0 ∷ []) (1 ∷ []) store 3 2304 ≡ refuse NoSuchKey
unfolding judged
no_slot = refl

-- 13 comes before 14, and looks at all factors: the listed one would be in the store
all_factors : judged (0 ∷ []) (0 ∷ []) [] (zer ∷ one ∷ []) 0 0 ≡ refuse FactorStoreShort
unfolding judged
all_factors = refl

-- 14: the message of P4 has three numbers, and the work store 2304
message-short : judged (0 ∷ 3 ∷ 2 ∷ 1 ∷ []) (1 ∷ []) (0 ∷ []) store 2 2304 ≡ refuse StoreShort
unfolding judged
message-short = refl

work_short : judged (0 ∷ 3 ∷ 2 ∷ 1 ∷ []) (1 ∷ []) (0 ∷ []) store 3 2303 ≡ refuse StoreShort
unfolding judged
work_short = refl

-- 15: a cleared key that no slot touches
not_touched : judged (0 ∷ []) (0 ∷ []) (1 ∷ []) store 3 2304 ≡ refuse ClearedPivot
unfolding judged
not_touched = refl

-- a slot listed twice is added twice
twice : judged (0 ∷ 0 ∷ []) (0 ∷ []) [] store 3 2304 ≡ send 1 (one ∷ zer ∷ fin false 1 (pos 1) ∷ [])
unfolding judged
twice = refl

-- a superseded factor may be listed: with factor 0 no longer live the message is P4's
superseded-listed : direct_verdict (retired four_factors 0) (0 ∷ 3 ∷ 2 ∷ 1 ∷ []) (1 ∷ []) (0 ∷ []) store 3 2304 ≡ send 1 (one ∷ three ∷ three_quarters ∷ [])
unfolding judged
superseded-listed = refl
