-- What is claimed of a plan (demand 3): behind the marginal of a key stands the whole graph, once.
-- Assumes nothing.
use Rattle.std.specs.Prelude.{◌≡◌, List, [], ◌∷◌, ◌++◌, ℕ, ◌+◌, length}
use Rattle.schedule.specs.Count.{count, In, joined, from}
use Rattle.schedule.specs.Pass.{ClosedFactor, at}
use Rattle.schedule.specs.Gather.{popped, under, leaves, Gathered}

-- The messages behind a key, of one pass: those gathered, and all under them.
abbrev pub behind : List ClosedFactor → (gathered : List ℕ) → List ℕ
behind messages gathered = joined (under messages) gathered

-- `under` takes as many messages from the stack as there are in the pass. That is every message under j: with more turns none
-- follows.
abbrev pub AllUnder : List ClosedFactor → (behind : List ℕ) → Type 0
AllUnder messages behind = (j : ℕ) → In j behind → (more : ℕ) → popped messages (length messages + more) (j ∷ []) ≡ under messages j

-- The keys that the eliminations of these messages clear.
abbrev pub cleared_by : List ClosedFactor → List ℕ → List ℕ
cleared_by messages behind = joined (λ i. (at messages i).cleared) behind

-- Every original that touches a key which a message behind clears is a leaf under that message.
abbrev pub Covers : (K : ℕ → List ℕ) (N : List ℕ) → List ClosedFactor → (behind : List ℕ) → Type 0
Covers K N messages behind = (i : ℕ) → In i behind → (f : ℕ) → In f N → (j : ℕ) → In j (K f) → In j (at messages i).cleared → In f (leaves messages i)

-- The claim at the key k.
pub record Once (n : ℕ) (K : ℕ → List ℕ) (N : List ℕ) (k : ℕ) (fw bw : List ClosedFactor) (g : Gathered) : Type 0 where
  -- the leaves are those of all that was gathered, in that order, and all that lies under it was looked at
  pub leaves_of : g.leaves ≡ joined (leaves fw) g.forward ++ joined (leaves bw) g.backward ++ g.originals
  pub forward_under : AllUnder fw (behind fw g.forward)
  pub backward_under : AllUnder bw (behind bw g.backward)
  -- the leaves list every live original exactly once, and nothing else
  pub listed : (f : ℕ) → count f g.leaves ≡ count f N
  -- k, together with the keys that the eliminations behind k clear, is each registered key once: so every other key is cleared
  -- exactly once, k never, and nothing that is not registered
  pub cleared : (j : ℕ) → count j (k ∷ cleared_by fw (behind fw g.forward) ++ cleared_by bw (behind bw g.backward) ++ g.last) ≡ count j (from 0 n)
  -- a factor that touches a cleared key is a leaf under the elimination that clears it: a message of either pass, or the last one
  pub forward : Covers K N fw (behind fw g.forward)
  pub backward : Covers K N bw (behind bw g.backward)
  pub last : (f : ℕ) → In f N → (j : ℕ) → In j (K f) → In j g.last → In f g.leaves
