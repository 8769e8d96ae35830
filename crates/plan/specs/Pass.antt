-- Inner: what the arrays of a pass mean. Two things are kept apart: bounds (`Codes`, `BoardRoom`, `PassReady`), which the code requires, and
-- meaning (`Means` and what is said with it), which the code ensures for every table K of keys that the masks agree with.
-- Assumes nothing.
use Rattle.std.specs.Prelude.{◌≡◌, Bool, true, false, ◌&&◌, List, [], map, ℕ, ◌+◌, ◌-◌, ◌≤◌, ◌<◌, T, ltb, length, get_or, take, drop}
use Rattle.factor.specs.Limits.{max_variables, max_factors}
use Rattle.schedule.specs.Count.{any, from, mem}
use Rattle.schedule.specs.Pass.{Slot, original, closed, ClosedFactor, State, slot_keys, touches, Walked, walk, append, step, state_after, full_pass}
use Rattle.plan.specs.Limits.{pass_slots}
use Rattle.plan.specs.Mask.{has, keys_in, strays, meets}
use Rattle.plan.specs.declared.pass.Board.{Board}
use Rattle.plan.specs.declared.pass.Pass.{Pass}

-- A slot by its number: an original has its own, the messages follow all originals.
abbrev pub pick_slot : Bool → ℕ → Slot
pick_slot true x = original x
pick_slot false x = closed (x - max_factors)

unfoldable pub pass_slot : ℕ → Slot
pass_slot x = pick_slot (ltb x max_factors) x

-- the key set of a slot, in the array of all masks
unfoldable pub mask_at : (masks : List ℕ) → Slot → ℕ
mask_at masks (original i) = get_or (take max_factors masks) i 0
mask_at masks (closed j) = get_or (drop max_factors masks) j 0

-- the first `used` are numbers of slots
pub record Codes (used : ℕ) (slots : List ℕ) : Type 0 where
  pub long : length slots ≡ pass_slots
  pub few : used ≤ pass_slots
  pub low : (i : ℕ) → i < used → get_or slots i 0 < pass_slots

-- r is the set of the coupled keys, of the slots l
abbrev pub Coupled : (masks : List ℕ) (active : ℕ) (l : List ℕ) (r : ℕ) → Type 0
Coupled masks active l r = (j : ℕ) → has j r ≡ any (λ x. strays active (get_or masks x 0) && has j (get_or masks x 0)) l

-- ---- The walk
-- the active slots of a board
abbrev pub board_slots : Board → List Slot
board_slots b = take b.used (map pass_slot b.slots)

-- whatever is taken out finds a place in the content
pub record BoardRoom (b : Board) : Type 0 where
  pub active : Codes b.used b.slots
  pub contents : Codes b.filled b.content
  pub room : b.used + b.filled ≤ pass_slots

-- the walk of the definition, over a board's slots
abbrev pub walking : (masks : List ℕ) (cleared : ℕ) → Board → Walked
walking masks cleared b = walk (λ s. meets cleared (mask_at masks s)) (length (board_slots b)) (board_slots b)

-- The board r after the walk from b: the slots taken follow the contents so far, and those left are the active ones.
pub record Walks (masks : List ℕ) (cleared : ℕ) (b r : Board) : Type 0 where
  pub taken : drop b.filled (take r.filled (map pass_slot r.content)) ≡ (walking masks cleared b).taken
  pub left : board_slots r ≡ (walking masks cleared b).left
  pub before : take b.filled r.content ≡ take b.filled b.content
  pub more : b.filled ≤ r.filled
  pub sum : r.used + r.filled ≡ b.used + b.filled
  pub room : BoardRoom r

-- ---- A pass
-- the message j
unfoldable pub msg_at : Pass → ℕ → ClosedFactor
unfolding pass_slot keys_in
msg_at p j = record {
  step = get_or p.steps j 0;
  content = map pass_slot (drop (get_or p.starts j 0) (take (get_or p.ends j 0) p.board.content));
  kept = keys_in (get_or (drop max_factors p.masks) j 0);
  cleared = keys_in (get_or p.cleared j 0);
}

-- all messages of a pass
unfoldable pub messages_of : Pass → List ClosedFactor
unfolding msg_at from
messages_of p = map (msg_at p) (from 0 p.count)

-- Before the step t there is room for one more message. Each message was a slot less, so all slots and contents together are
-- the originals and the messages at most.
pub record PassReady (t : ℕ) (p : Pass) : Type 0 where
  pub room : BoardRoom p.board
  pub total : p.board.used + p.board.filled ≤ max_factors + p.count
  pub few : p.count ≤ t
  pub masks : length p.masks ≡ pass_slots
  pub cleared : length p.cleared ≡ max_variables
  pub steps : length p.steps ≡ max_variables
  pub starts : length p.starts ≡ max_variables
  pub ends : length p.ends ≡ max_variables
  pub closed : (j : ℕ) → j < p.count → get_or p.ends j 0 ≤ p.board.filled
  pub ordered : (j : ℕ) → j < p.count → get_or p.starts j 0 ≤ get_or p.ends j 0

-- The arrays mean the state of the definition.
pub record Means (n : ℕ) (K : ℕ → List ℕ) (p : Pass) (st : State) : Type 0 where
  pub few : n ≤ max_variables
  pub keys : (j : ℕ) → has j p.active ≡ mem j st.active_keys
  pub below : (j : ℕ) → T (has j p.active) → j < n
  pub slots : board_slots p.board ≡ st.active
  pub messages : messages_of p ≡ st.messages
  pub masks : (s : Slot) (j : ℕ) → has j (mask_at p.masks s) ≡ mem j (slot_keys K st.messages s)

-- the state after the message that clears the keys cl
abbrev pub state_sent : (n : ℕ) (K : ℕ → List ℕ) (t : ℕ) → State → (ak cl : List ℕ) → State
state_sent n K t st ak cl = append n K t st ak cl (walk (λ s. touches cl (slot_keys K st.messages s)) (length st.active) st.active)

-- r follows p by the message of the step t; by the whole step t, of the key k
abbrev pub Sends : (cleared t : ℕ) (p r : Pass) → Type 0
Sends cleared t p r =
    (n : ℕ) (K : ℕ → List ℕ) (st : State) → ((j : ℕ) → T (has j cleared) → j < n) → Means n K p st
    → Means n K r (state_sent n K t st st.active_keys (keys_in cleared))

abbrev pub Steps : (k t : ℕ) (p r : Pass) → Type 0
Steps k t p r = (n : ℕ) (K : ℕ → List ℕ) (st : State) → k < n → Means n K p st → Means n K r (step n K t k st)

-- ---- The whole pass
-- the first `count` are numbers of originals
pub record Live (live : List ℕ) (count : ℕ) : Type 0 where
  pub few : count ≤ max_factors
  pub low : (i : ℕ) → i < count → get_or live i 0 < max_factors

-- the first n are keys, of n
pub record Order (order : List ℕ) (n : ℕ) : Type 0 where
  pub few : n ≤ max_variables
  pub low : (i : ℕ) → i < n → get_or order i 0 < n

-- The masks agree with the table K: each is the set of the keys that K lists.
abbrev pub Agrees : (keys : List ℕ) (K : ℕ → List ℕ) → Type 0
Agrees keys K = (i j : ℕ) → has j (get_or keys i 0) ≡ mem j (K i)

abbrev pub Begins : (keys live : List ℕ) (count : ℕ) (r : Pass) → Type 0
Begins keys live count r = (n : ℕ) (K : ℕ → List ℕ) → n ≤ max_variables → Agrees keys K → Means n K r (state_after n K (take count live) [])

-- The messages of r are those of the definition, along the order, for every table that the masks agree with.
abbrev pub Passes : (keys N order : List ℕ) (n : ℕ) (r : Pass) → Type 0
Passes keys N order n r = (K : ℕ → List ℕ) → Agrees keys K → messages_of r ≡ full_pass n K N order
