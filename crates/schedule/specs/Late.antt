-- Late originals (document 02, C-23): what one original more at the end leaves as it was in the forward pass, with keys rising.
-- Definitions only.
use Rattle.std.specs.Prelude.{◌≡◌, List, [], ◌∷◌, ◌++◌, ℕ, ◌≤◌, ◌<◌, length}
use Rattle.schedule.specs.Count.{count, In, from}
use Rattle.schedule.specs.Pass.{Slot, ClosedFactor, at}
use Rattle.schedule.specs.Gather.{originals_in, messages_in}
use Rattle.schedule.specs.Plan.{plan}

-- Two contents hold the same originals and the same messages: each number stands as often among those of the one as among those of the
-- other. Nothing is said of their order.
abbrev pub SameSlots : List Slot → List Slot → Type 0
SameSlots a b = (x : ℕ) → (count x (originals_in a) ≡ count x (originals_in b)) × (count x (messages_in a) ≡ count x (messages_in b))

-- Two messages are the same but for the order of their contents.
pub record Alike (m m' : ClosedFactor) : Type 0 where
  pub step : m.step ≡ m'.step
  pub kept : m.kept ≡ m'.kept
  pub cleared : m.cleared ≡ m'.cleared
  pub content : SameSlots m.content m'.content

-- The message at the place j of a pass is that of the step s.
abbrev pub Arises : List ClosedFactor → (s j : ℕ) → Type 0
Arises messages s j = (j < length messages) × ((at messages j).step ≡ s)

-- The steps that are spoken of: those below t, and t itself, because no step clears its own key.
abbrev pub Early : (t s : ℕ) → Type 0
Early t s = s ≤ t

-- In two passes the same messages arise at these steps, each at the same place.
pub record Agree (t : ℕ) (old new : List ClosedFactor) : Type 0 where
  pub arises : (s j : ℕ) → Early t s → Arises old s j → Arises new s j × Alike (at old j) (at new j)
  pub no_other : (s j : ℕ) → Early t s → Arises new s j → Arises old s j

-- Every key of the list is at least t; so it is, for every t, of a list without keys.
abbrev pub AtLeast : (t : ℕ) → List ℕ → Type 0
AtLeast t keys = (k : ℕ) → In k keys → t ≤ k

-- The claim: the original m is added to the originals N, whose keys stay what they are, and all keys of m are at least t.
abbrev pub Late : Type 0
Late = (n : ℕ) (K K' : ℕ → List ℕ) (N : List ℕ) (m t : ℕ) → ((i : ℕ) → In i N → K i ≡ K' i) → AtLeast t (K' m)
    → Agree t (plan n K N (from 0 n)).forward (plan n K' (N ++ (m ∷ [])) (from 0 n)).forward
