-- Inner: text put into a lent buffer byte by byte. What lies past the buffer's end is dropped, so that the same calls find a text's length and lay it.
use Rattle.std.specs.Prelude.{◌≡◌, cond, List, [], ◌∷◌, ℕ, ◌+◌, ltb, set}

-- places are counted up to the largest number of a machine word
abbrev pub last_place : ℕ
last_place = 18446744073709551615

unfoldable pub next_place : ℕ → ℕ
next_place at = cond (ltb at last_place) (at + 1) at

-- the buffer after the text, from a place on; `set` leaves a list as it is where the place lies past its end
unfoldable pub put : (out : List ℕ) (at : ℕ) (text : List ℕ) → List ℕ
put out at [] = out
put out at (x ∷ text) = put (set out at x) (next_place at) text

-- the place after the text
unfoldable pub past_text : ℕ → List ℕ → ℕ
past_text at [] = at
past_text at (x ∷ text) = past_text (next_place at) text

-- what a call did that puts text: the buffer at entry and at exit, the place, and the place that it answers
pub record Puts (out after : List ℕ) (at r : ℕ) (text : List ℕ) : Type 0 where
  pub buffer : after ≡ put out at text
  pub place : r ≡ past_text at text
