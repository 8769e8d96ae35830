-- Plans worked out by computation. Assumes nothing.
use Prim.Native.Nat.{ℕ}
use mathlib.Core.Path.{◌≡◌, refl}
use mathlib.Core.List.{List, [], ◌∷◌, ◌++◌}
use Rattle.schedule.specs.Count.{joined, from}
use Rattle.schedule.specs.Pass.{original, closed}
use Rattle.schedule.specs.Plan.{Plan, plan}
use Rattle.schedule.proofs.Examples.{p4-keys}
use Rattle.text.specs.Decimals.{decimal_by, decimal, field_text}
use Rattle.solver.specs.Plan.{no_plan}
use Rattle.plan_text.specs.Text.{slot_text, named_text, list_text, content_text, message_text, key_text, numbered, plan_text}

-- the text of a plan, opened for computing
unfoldable text : Plan → List ℕ
unfolding plan_text numbered message_text key_text content_text list_text named_text slot_text field_text decimal decimal_by joined
text p = plan_text p

-- P4's plan, with its keys rising
unfoldable p4 : Plan
unfolding plan
p4 = plan 2 p4-keys (from 0 4) (0 ∷ 1 ∷ [])

-- `forward 0 step 1 content 0 3 2 1 kept 1 cleared 0`
abbrev p4-first : List ℕ
p4-first = 102 ∷ 111 ∷ 114 ∷ 119 ∷ 97 ∷ 114 ∷ 100 ∷ 32 ∷ 48 ∷ 32 ∷ 115 ∷ 116 ∷ 101 ∷ 112 ∷ 32 ∷ 49 ∷ 32 ∷ 99 ∷ 111 ∷ 110 ∷ 116 ∷ 101 ∷ 110 ∷ 116 ∷ 32
    ∷ 48 ∷ 32 ∷ 51 ∷ 32 ∷ 50 ∷ 32 ∷ 49 ∷ 32 ∷ 107 ∷ 101 ∷ 112 ∷ 116 ∷ 32 ∷ 49 ∷ 32 ∷ 99 ∷ 108 ∷ 101 ∷ 97 ∷ 114 ∷ 101 ∷ 100 ∷ 32 ∷ 48 ∷ 10 ∷ []

-- `backward 0 step 1 content 3 kept 0 cleared 1`
abbrev p4-second : List ℕ
p4-second = 98 ∷ 97 ∷ 99 ∷ 107 ∷ 119 ∷ 97 ∷ 114 ∷ 100 ∷ 32 ∷ 48 ∷ 32 ∷ 115 ∷ 116 ∷ 101 ∷ 112 ∷ 32 ∷ 49 ∷ 32 ∷ 99 ∷ 111 ∷ 110 ∷ 116 ∷ 101 ∷ 110 ∷ 116 ∷
    32 ∷ 51 ∷ 32 ∷ 107 ∷ 101 ∷ 112 ∷ 116 ∷ 32 ∷ 48 ∷ 32 ∷ 99 ∷ 108 ∷ 101 ∷ 97 ∷ 114 ∷ 101 ∷ 100 ∷ 32 ∷ 49 ∷ 10 ∷ []

-- `key 0 forward backward 0 originals 0 1 2 leaves 3 0 1 2 last`
abbrev p4-third : List ℕ
p4-third = 107 ∷ 101 ∷ 121 ∷ 32 ∷ 48 ∷ 32 ∷ 102 ∷ 111 ∷ 114 ∷ 119 ∷ 97 ∷ 114 ∷ 100 ∷ 32 ∷ 98 ∷ 97 ∷ 99 ∷ 107 ∷ 119 ∷ 97 ∷ 114 ∷ 100 ∷ 32 ∷ 48 ∷ 32 ∷
    111 ∷ 114 ∷ 105 ∷ 103 ∷ 105 ∷ 110 ∷ 97 ∷ 108 ∷ 115 ∷ 32 ∷ 48 ∷ 32 ∷ 49 ∷ 32 ∷ 50 ∷ 32 ∷ 108 ∷ 101 ∷ 97 ∷ 118 ∷ 101 ∷ 115 ∷ 32 ∷ 51 ∷ 32 ∷ 48 ∷ 32
    ∷ 49 ∷ 32 ∷ 50 ∷ 32 ∷ 108 ∷ 97 ∷ 115 ∷ 116 ∷ 10 ∷ []

-- `key 1 forward 0 backward originals leaves 0 3 2 1 last`
abbrev p4-last : List ℕ
p4-last = 107 ∷ 101 ∷ 121 ∷ 32 ∷ 49 ∷ 32 ∷ 102 ∷ 111 ∷ 114 ∷ 119 ∷ 97 ∷ 114 ∷ 100 ∷ 32 ∷ 48 ∷ 32 ∷ 98 ∷ 97 ∷ 99 ∷ 107 ∷ 119 ∷ 97 ∷ 114 ∷ 100 ∷ 32 ∷
    111 ∷ 114 ∷ 105 ∷ 103 ∷ 105 ∷ 110 ∷ 97 ∷ 108 ∷ 115 ∷ 32 ∷ 108 ∷ 101 ∷ 97 ∷ 118 ∷ 101 ∷ 115 ∷ 32 ∷ 48 ∷ 32 ∷ 51 ∷ 32 ∷ 50 ∷ 32 ∷ 49 ∷ 32 ∷ 108 ∷ 97
    ∷ 115 ∷ 116 ∷ 10 ∷ []

p4_text : text p4 ≡ p4-first ++ p4-second ++ p4-third ++ p4-last
unfolding text p4
p4_text = refl

-- no variables: no lines
no_text : text no_plan ≡ []
unfolding text
no_text = refl

-- a content of an original and a message, each with two digits: ` content 63 m31`
two_digits : content_text (original 63 ∷ closed 31 ∷ []) ≡ 32 ∷ 99 ∷ 111 ∷ 110 ∷ 116 ∷ 101 ∷ 110 ∷ 116 ∷ 32 ∷ 54 ∷ 51 ∷ 32 ∷ 109 ∷ 51 ∷ 49 ∷ []
unfolding text
two_digits = refl
