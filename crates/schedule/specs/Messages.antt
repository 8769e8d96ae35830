-- Inner: what whoever carries out a plan relies on in its messages and in what a key gathers. `proofs/Messages` shows it of every plan.
use mathlib.Core.List.{List, [], ◌∷◌, ◌++◌, reverse, Memᴰ}
use Rattle.std.specs.Prelude.{ℕ, zero, suc, ◌+◌, ◌≤◌, ◌<◌, length}
use Rattle.schedule.specs.Count.{count, In, sum_over, joined}
use Rattle.schedule.specs.Pass.{Slot, original, ClosedFactor, at, slot_keys}
use Rattle.schedule.specs.Gather.{Gathered, messages_in}

-- ---- what lies under a message

abbrev pub inner : List ClosedFactor → ℕ → List ℕ
inner ms j = messages_in (at ms j).content

-- a message contains older messages only
abbrev pub Older : List ClosedFactor → Type 0
Older ms = (j c : ℕ) → In c (inner ms j) → c < j

unfoldable pub grow : (ℕ → ClosedFactor → List ℕ) → List ClosedFactor → ℕ → ℕ → List ℕ
grow h ms zero j = []
grow h ms (suc d) j = h j (at ms j) ++ joined (grow h ms d) (reverse (inner ms j))

-- h of the message j and of all under it
unfoldable pub collected : (ℕ → ClosedFactor → List ℕ) → List ClosedFactor → ℕ → List ℕ
unfolding grow
collected h ms j = grow h ms (suc j) j

-- the message alone; so `heavy` counts the messages of a stack with all that lie under them
abbrev pub itself : ℕ → ClosedFactor → List ℕ
itself j m = j ∷ []

unfoldable pub heavy : List ClosedFactor → List ℕ → ℕ
heavy ms stack = sum_over (λ j. length (collected itself ms j)) stack

-- ---- a message

-- the cleared and the kept keys of a message m, and its slots, where ms are the messages of its pass
pub record Tidy (n : ℕ) (K : ℕ → List ℕ) (N : List ℕ) (ms : List ClosedFactor) (m : ClosedFactor) : Type 0 where
  -- no key stands twice in them
  pub apart : (x : ℕ) → count x m.cleared + count x m.kept ≤ 1
  -- they are registered
  pub low : (x : ℕ) → 1 ≤ count x m.cleared + count x m.kept → x < n
  -- every key of a slot is one of them
  pub keyed : (s : Slot) → Memᴰ s m.content → (x : ℕ) → In x (slot_keys K ms s) → 1 ≤ count x m.cleared + count x m.kept
  pub originals : (i : ℕ) → Memᴰ (original i) m.content → In i N

-- ---- what a key gathers

pub record Settled (n : ℕ) (K : ℕ → List ℕ) (N : List ℕ) (fw bw : List ClosedFactor) (k : ℕ) (g : Gathered) : Type 0 where
  -- the keys cleared last and k itself: none stands twice, all are registered
  pub apart : (x : ℕ) → count x g.last + count x (k ∷ []) ≤ 1
  pub low : (x : ℕ) → In x g.last → x < n
  -- the gathered messages have been made, and what is gathered has no other keys
  pub forward : (j : ℕ) → In j g.forward → (j < length fw) × ((x : ℕ) → In x (at fw j).kept → 1 ≤ count x g.last + count x (k ∷ []))
  pub backward : (j : ℕ) → In j g.backward → (j < length bw) × ((x : ℕ) → In x (at bw j).kept → 1 ≤ count x g.last + count x (k ∷ []))
  pub originals : (i : ℕ) → In i g.originals → In i N × ((x : ℕ) → In x (K i) → 1 ≤ count x g.last + count x (k ∷ []))
