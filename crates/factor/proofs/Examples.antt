-- The lookup, worked out: the key found, a larger one met, the end of the keys. Keys that don't rise are not searched to their end. Assumes nothing.
use Prim.Native.Nat.{ℕ}
use Rattle.std.specs.Prelude.{Some, None}
use mathlib.Core.Path.{◌≡◌, refl}
use mathlib.Core.List.{List, [], ◌∷◌}
use Rattle.factor.specs.Counting.{sum}
use Rattle.factor.specs.Factor.{observation_of, first_column, below, looked, lookup, find}
use Rattle.factor.specs.declared.Factor.{Factor}

abbrev three : List ℕ
three = 2 ∷ 5 ∷ 9 ∷ []

first_key : lookup three 2 ≡ looked (Some 0) 1
unfolding lookup below
first_key = refl

last-key : lookup three 9 ≡ looked (Some 2) 3
unfolding lookup below
last-key = refl

larger_at_once : lookup three 0 ≡ looked None 1
unfolding lookup below
larger_at_once = refl

larger_between : lookup three 6 ≡ looked None 3
unfolding lookup below
larger_between = refl

past_all : lookup three 10 ≡ looked None 3
unfolding lookup below
past_all = refl

no_keys : lookup [] 5 ≡ looked None 0
unfolding lookup below
no_keys = refl

not-rising : lookup (5 ∷ 2 ∷ []) 2 ≡ looked None 1
unfolding lookup below
not-rising = refl

-- an observation of keys 1 and 3, where keys 0 to 3 have the sizes 4, 2, 5 and 3
abbrev pair : Factor
pair = observation_of (1 ∷ 3 ∷ []) 1

abbrev sizes : List ℕ
sizes = 4 ∷ 2 ∷ 5 ∷ 3 ∷ []

block-found : find sizes pair 3 ≡ record { found = Some (2, 3); read = 2 }
unfolding lookup below first_column sum
block-found = refl

block-absent : find sizes pair 2 ≡ record { found = None; read = 2 }
unfolding lookup below first_column sum
block-absent = refl
