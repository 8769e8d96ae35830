use Rattle.std.proofs.Common.{◌≡◌, ℕ, ◌+◌, ◌<◌, ◌≤◌, List, ◌++◌, length, get_or}
use Rattle.factor.specs.Limits.{max_variables, max_total}
use Rattle.slots.specs.Layouts.{dim_of, column_in}
use Rattle.slots.proofs.layout.firsts.Given as goal

-- the keys still to come, and those that were passed
abbrev pub invariant-loop-key : goal.invariant-loop-key
invariant-loop-key l =
    goal.iterator-loop-key.can_next l.key-iterator
    × goal.iterator-loop-key.is_finite l.key-iterator
    × record {
      passed : List ℕ;
      list : l.key-iterator.iter.rest.now ++ passed ≡ l.list;
      column : l.column ≡ dim_of l.sizes l.key-iterator.iter.rest.now;
      low : l.column ≤ max_total;
      long : length l.r ≡ max_variables;
      placed : (key : ℕ) → key < max_variables → get_or l.r key 0 ≡ l.column + column_in l.sizes passed key;
    }
