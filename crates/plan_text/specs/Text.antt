-- The text of a plan, byte by byte: a line for each message of both passes, and a line for each key. Definitions only.
use Rattle.std.specs.Prelude.{List, [], ◌∷◌, ◌++◌, ℕ, suc}
use Rattle.schedule.specs.Count.{joined}
use Rattle.schedule.specs.Pass.{Slot, original, closed, ClosedFactor}
use Rattle.schedule.specs.Gather.{Gathered}
use Rattle.schedule.specs.Plan.{Plan}
use Rattle.text.specs.Decimals.{space, feed, decimal, field_text}

-- ---- the words

-- the two passes and a key
abbrev pub forward_word : List ℕ
forward_word = 102 ∷ 111 ∷ 114 ∷ 119 ∷ 97 ∷ 114 ∷ 100 ∷ []

abbrev pub backward_word : List ℕ
backward_word = 98 ∷ 97 ∷ 99 ∷ 107 ∷ 119 ∷ 97 ∷ 114 ∷ 100 ∷ []

abbrev pub key_word : List ℕ
key_word = 107 ∷ 101 ∷ 121 ∷ []

-- what follows in a line, each word after a space
abbrev pub step_word : List ℕ
step_word = 32 ∷ 115 ∷ 116 ∷ 101 ∷ 112 ∷ []

abbrev pub content_word : List ℕ
content_word = 32 ∷ 99 ∷ 111 ∷ 110 ∷ 116 ∷ 101 ∷ 110 ∷ 116 ∷ []

abbrev pub kept_word : List ℕ
kept_word = 32 ∷ 107 ∷ 101 ∷ 112 ∷ 116 ∷ []

abbrev pub cleared_word : List ℕ
cleared_word = 32 ∷ 99 ∷ 108 ∷ 101 ∷ 97 ∷ 114 ∷ 101 ∷ 100 ∷ []

abbrev pub originals_word : List ℕ
originals_word = 32 ∷ 111 ∷ 114 ∷ 105 ∷ 103 ∷ 105 ∷ 110 ∷ 97 ∷ 108 ∷ 115 ∷ []

abbrev pub leaves_word : List ℕ
leaves_word = 32 ∷ 108 ∷ 101 ∷ 97 ∷ 118 ∷ 101 ∷ 115 ∷ []

abbrev pub last_word : List ℕ
last_word = 32 ∷ 108 ∷ 97 ∷ 115 ∷ 116 ∷ []

-- the letter `m` after a space, before the number of a message
abbrev pub message_mark : List ℕ
message_mark = space ∷ 109 ∷ []

-- ---- the parts of a line

-- a slot of a content: an original by its number, the message j as mj
unfoldable pub slot_text : Slot → List ℕ
slot_text (original i) = field_text i
slot_text (closed j) = message_mark ++ decimal j

-- a word and a number
unfoldable pub named_text : List ℕ → ℕ → List ℕ
named_text word n = word ++ field_text n

-- a word and the numbers of a list, which may have none
unfoldable pub list_text : (word numbers : List ℕ) → List ℕ
list_text word numbers = word ++ joined field_text numbers

unfoldable pub content_text : List Slot → List ℕ
content_text content = content_word ++ joined slot_text content

-- ---- the lines

-- the message j of a pass
unfoldable pub message_text : List ℕ → ℕ → ClosedFactor → List ℕ
message_text pass j m =
    named_text pass j ++ named_text step_word m.step ++ content_text m.content ++ list_text kept_word m.kept ++ list_text cleared_word m.cleared
    ++ (feed ∷ [])

-- the key k
unfoldable pub key_text : ℕ → Gathered → List ℕ
key_text k q =
    named_text key_word k ++ list_text (space ∷ forward_word) q.forward ++ list_text (space ∷ backward_word) q.backward ++ list_text originals_word q.originals
    ++ list_text leaves_word q.leaves ++ list_text last_word q.last ++ (feed ∷ [])

-- the line of each member of a list, with the places counted on from j
unfoldable pub numbered : {A : Type 0} → (ℕ → A → List ℕ) → ℕ → List A → List ℕ
numbered line j [] = []
numbered line j (x ∷ xs) = line j x ++ numbered line (suc j) xs

unfoldable pub plan_text : Plan → List ℕ
plan_text p = numbered (message_text forward_word) 0 p.forward ++ numbered (message_text backward_word) 0 p.backward ++ numbered key_text 0 p.at_key
