-- Inner: the lists of an elimination, out of a plan's arrays. A slot's number in them: an original has its own, the forward messages follow the
-- originals, and the backward ones follow the forward ones.
use Rattle.std.specs.Prelude.{◌≡◌, cond, List, [], ◌∷◌, ◌++◌, map, ℕ, ◌+◌, ◌≤◌, ltb, take}
use Rattle.factor.specs.Limits.{max_variables, max_factors}
use Rattle.schedule.specs.Pass.{Slot, original, closed, ClosedFactor}
use Rattle.schedule.specs.Gather.{Gathered}
use Rattle.plan.specs.Limits.{pass_slots}
use Rattle.slots.specs.Limits.{max_slots}
use Rattle.lists.specs.declared.Lists.{Lists}

-- how far the backward messages' numbers stand after the forward ones'
abbrev pub backward_shift : ℕ
backward_shift = max_variables

-- the number of the first backward message
abbrev pub first_backward : ℕ
first_backward = max_factors + backward_shift

abbrev pub message_number : (shift j : ℕ) → ℕ
message_number shift j = max_factors + shift + j

-- the number of a slot of a pass
unfoldable pub slot_number : ℕ → Slot → ℕ
slot_number shift (original i) = i
slot_number shift (closed j) = message_number shift j

-- `slot_number` from the number that the slot has in the pass
unfoldable pub raised : (shift s : ℕ) → ℕ
raised shift s = cond (ltb s max_factors) s (s + shift)

-- the lists hold the kept keys, the cleared keys and the slots of a message
pub record Holds (shift : ℕ) (m : ClosedFactor) (l : Lists) : Type 0 where
  pub kept : take l.keeps l.kept ≡ m.kept
  pub cleared : take l.clears l.cleared ≡ m.cleared
  pub slots : take l.count l.slots ≡ map (slot_number shift) m.content
  pub few_kept : l.keeps ≤ max_variables
  pub few_cleared : l.clears ≤ max_variables
  pub few : l.count ≤ pass_slots

-- the numbers of what a key gathers
abbrev pub gathered_numbers : Gathered → List ℕ
gathered_numbers q = map (message_number 0) q.forward ++ (map (message_number backward_shift) q.backward ++ q.originals)

-- the lists hold the key alone as kept, the keys cleared last, and the slots gathered
pub record HoldsGathered (k : ℕ) (q : Gathered) (l : Lists) : Type 0 where
  pub kept : take l.keeps l.kept ≡ k ∷ []
  pub cleared : take l.clears l.cleared ≡ q.last
  pub slots : take l.count l.slots ≡ gathered_numbers q
  pub few_cleared : l.clears ≤ max_variables
  pub few : l.count ≤ max_slots
