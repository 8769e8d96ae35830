-- Inner: the heads and the keys of a graph's factors in the tables of an elimination.
use Rattle.std.specs.Prelude.{ℕ, ◌+◌, ◌*◌, ◌≤◌, ◌<◌, ◌≡◌, Bool, cond, List, [], ◌∷◌, length, get_or}
use Rattle.factor.specs.Limits.{max_factors, max_keys}
use Rattle.factor.specs.Factor.{key_at, width, lay}
use Rattle.graph.specs.Record.{factor_at, offset}
use Rattle.graph.specs.declared.Graph.{Graph}
use Rattle.slots.specs.Limits.{numbers_per_head}
use Rattle.slots.specs.Tables.{head_of}
use Rattle.slots.specs.declared.Head.{Head}
use Rattle.slots.specs.declared.Slot.TheVariants.{Original}
use Rattle.tables.specs.Originals.{width_of}

-- the numbers of a head: 1 for a prior, where its numbers begin, rows, width, where its keys begin, how many they are
abbrev pub head_numbers : (prior : Bool) (at rows width first count : ℕ) → List ℕ
head_numbers prior at rows width first count = cond prior 1 0 ∷ at ∷ rows ∷ width ∷ first ∷ count ∷ []

-- the table of heads with those of one slot written
unfoldable pub with_head : (heads : List ℕ) (number : ℕ) (prior : Bool) (at rows width first count : ℕ) → List ℕ
with_head heads number prior at rows width first count = lay heads (numbers_per_head * number) (head_numbers prior at rows width first count)

-- the head of the factor i of a graph, whose keys have the places of their own
abbrev pub original_head : Graph → ℕ → Head
original_head g i =
    record {
      slot = Original i;
      prior = (factor_at g i).prior;
      at = offset g i;
      rows = (factor_at g i).rows;
      width = width_of g.sizes (factor_at g i);
      first = max_keys * i;
      count = (factor_at g i).touched;
    }

-- the tables have the head and the keys of the factor i, entry by entry
pub record Entered (g : Graph) (keys heads : List ℕ) (i : ℕ) : Type 0 where
  pub head : head_of heads i ≡ original_head g i
  pub full : length (factor_at g i).keys ≡ max_keys
  pub key : (j : ℕ) → j < (factor_at g i).touched → get_or keys (max_keys * i + j) 0 ≡ key_at (factor_at g i) j

-- the tables have those of all factors; what stands past the places of originals does not matter
pub record Originals (g : Graph) (keys heads : List ℕ) : Type 0 where
  pub long_keys : max_keys * max_factors ≤ length keys
  pub long_heads : numbers_per_head * max_factors ≤ length heads
  pub entered : (i : ℕ) → i < g.count → Entered g keys heads i
