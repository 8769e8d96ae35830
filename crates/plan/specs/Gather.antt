-- Inner: what the arrays of a gathering mean.
-- Assumes nothing.
use Rattle.std.specs.Prelude.{◌≡◌, not, ℕ, ◌+◌, ◌≤◌, ◌<◌, T, length, get_or, take, drop}
use mathlib.Core.List.{List, [], ◌∷◌, ◌++◌, map, reverse, reverse_aux}
use Rattle.factor.specs.Limits.{max_variables, max_factors}
use Rattle.schedule.specs.Count.{mem, keep, joined}
use Rattle.schedule.specs.Pass.{Slot, at}
use Rattle.schedule.specs.Gather.{originals_in, messages_in, alive_messages, leaves, gather_at}
use Rattle.schedule.specs.Gather as schedule
use Rattle.schedule.specs.Messages.{Older, heavy}
use Rattle.plan.specs.Mask.{has, keys_in, Set}
use Rattle.plan.specs.Pass.{pass_slot, Codes, messages_of, PassReady, Live, Agrees}
use Rattle.plan.specs.declared.pass.Pass.{Pass}
use Rattle.plan.specs.declared.gather.Listing.{Listing}
use Rattle.plan.specs.declared.gather.Gathered.{Gathered}

-- the slots from one place to another
abbrev pub content_part : (a b : ℕ) (content : List ℕ) → List Slot
content_part a b content = map pass_slot (drop a (take b content))

-- r is the set of the messages among them
abbrev pub Inner : (a b : ℕ) (content : List ℕ) (r : ℕ) → Type 0
Inner a b content r = Set (messages_in (content_part a b content)) r

-- r is the set of the messages alive after the step t
pub record Alive (t : ℕ) (p : Pass) (r : ℕ) : Type 0 where
  pub is : keys_in r ≡ alive_messages t (messages_of p)
  pub low : (j : ℕ) → T (has j r) → j < p.count

-- ---- A listing
-- the first `count` are numbers of originals
pub record Items (count : ℕ) (items : List ℕ) : Type 0 where
  pub long : length items ≡ max_factors
  pub few : count ≤ max_factors
  pub low : (i : ℕ) → i < count → get_or items i 0 < max_factors

abbrev pub items_of : Listing → List ℕ
items_of l = take l.count l.items

-- the stack, its top first
abbrev pub stack_of : Listing → List ℕ
stack_of l = reverse (take l.top l.stack)

pub record Space (l : Listing) : Type 0 where
  pub items : Items l.count l.items
  pub long : length l.stack ≡ max_variables
  pub few : l.top ≤ max_variables
  pub low : (i : ℕ) → i < l.top → get_or l.stack i 0 < max_variables

-- One message is opened: there is room for its originals and its messages; the originals are listed, the messages pushed.
pub record Visitable (content : List ℕ) (a b : ℕ) (l : Listing) : Type 0 where
  pub space : Space l
  pub codes : Codes b content
  pub ordered : a ≤ b
  pub room : l.count + length (originals_in (content_part a b content)) ≤ max_factors
  pub stack : l.top + length (messages_in (content_part a b content)) ≤ max_variables

pub record Visited (content : List ℕ) (a b : ℕ) (l r : Listing) : Type 0 where
  pub space : Space r
  pub items : items_of r ≡ items_of l ++ originals_in (content_part a b content)
  pub stack : stack_of r ≡ reverse_aux (messages_in (content_part a b content)) (stack_of l)

-- The messages form a forest: each contains older ones only, and no message lies under another twice.
pub record Forest (p : Pass) : Type 0 where
  pub older : Older (messages_of p)
  pub small : (j : ℕ) → j < p.count → heavy (messages_of p) (j ∷ []) ≤ p.count

-- The leaves under one message are listed.
pub record Openable (p : Pass) (j : ℕ) (l : Listing) : Type 0 where
  pub forest : Forest p
  pub here : j < p.count
  pub room : l.count + length (leaves (messages_of p) j) ≤ max_factors

pub record Opened (p : Pass) (j : ℕ) (l r : Listing) : Type 0 where
  pub space : Space r
  pub items : items_of r ≡ items_of l ++ leaves (messages_of p) j

-- The leaves under each message of a set are listed.
pub record Listable (p : Pass) (set : ℕ) (l : Listing) : Type 0 where
  pub forest : Forest p
  pub low : (j : ℕ) → T (has j set) → j < p.count
  pub room : l.count + length (joined (leaves (messages_of p)) (keys_in set)) ≤ max_factors

pub record SetListed (p : Pass) (set : ℕ) (l r : Listing) : Type 0 where
  pub space : Space r
  pub items : items_of r ≡ items_of l ++ joined (leaves (messages_of p)) (keys_in set)

-- The originals that are not listed yet are listed.
abbrev pub others : (live : List ℕ) (count : ℕ) → Listing → List ℕ
others live count l = keep (λ i. not (mem i (items_of l))) (take count live)

abbrev pub Coverable : (live : List ℕ) (count : ℕ) → Listing → Type 0
Coverable live count l = l.count + length (others live count l) ≤ max_factors

pub record OthersListed (live : List ℕ) (count : ℕ) (l r : Listing) : Type 0 where
  pub space : Space r
  pub items : items_of r ≡ items_of l ++ others live count l
  pub more : l.count ≤ r.count

-- r is the set of the kept keys of the messages of a set
abbrev pub Kept : Pass → (set r : ℕ) → Type 0
Kept p set r = ((j : ℕ) → T (has j set) → j < p.count) → (i : ℕ) → i < max_variables → has i r ≡ mem i (joined (λ j. (at (messages_of p) j).kept) (keys_in set))

-- ---- The whole gathering
-- the leaves under all gathered messages, and after them the uncovered originals
abbrev pub leaves_at : (fw bw : Pass) (r s : ℕ) → List ℕ
leaves_at fw bw r s = joined (leaves (messages_of fw)) (alive_messages r (messages_of fw)) ++ joined (leaves (messages_of bw)) (alive_messages s (messages_of bw))

abbrev pub listed_at : (fw bw : Pass) (N : List ℕ) (r s : ℕ) → List ℕ
listed_at fw bw N r s = leaves_at fw bw r s ++ keep (λ i. not (mem i (leaves_at fw bw r s))) N

-- What the gathering asks of the two passes; demand 3 gives it, since every original is then listed once.
pub record Gatherable (fw bw : Pass) (live : List ℕ) (count r s : ℕ) : Type 0 where
  pub forward : PassReady max_variables fw
  pub backward : PassReady max_variables bw
  pub forest : Forest fw
  pub forest' : Forest bw
  pub originals : Live live count
  pub room : length (listed_at fw bw (take count live) r s) ≤ max_factors

-- what the answer means
unfoldable pub gathered_of : Gathered → schedule.Gathered
unfolding keys_in
gathered_of g = record {
  forward = keys_in g.forward;
  backward = keys_in g.backward;
  originals = drop g.covered (take g.count g.items);
  leaves = take g.count g.items;
  last = keys_in g.last;
}

-- the arrays of an answer hold what its counts say
pub record Held (g : Gathered) : Type 0 where
  pub items : Items g.count g.items
  pub covered : g.covered ≤ g.count

-- every key is below n
pub record Keyed (n : ℕ) (K : ℕ → List ℕ) (fw bw : Pass) : Type 0 where
  pub few : n ≤ max_variables
  pub originals : (i j : ℕ) → T (mem j (K i)) → j < n
  pub forward : (i j : ℕ) → T (mem j (at (messages_of fw) i).kept) → j < n
  pub backward : (i j : ℕ) → T (mem j (at (messages_of bw) i).kept) → j < n

-- The answer g is the gathering of the definition.
abbrev pub Gathers : (fw bw : Pass) (keys N : List ℕ) (r s k : ℕ) (g : Gathered) → Type 0
Gathers fw bw keys N r s k g =
    (n : ℕ) (K : ℕ → List ℕ) → Agrees keys K → Keyed n K fw bw → gathered_of g ≡ gather_at n K N (messages_of fw) (messages_of bw) r s k
