use Rattle.std.proofs.Common.{◌≡◌, ℕ, ◌<◌, false, length, get_or, take}
use Rattle.factor.specs.Limits.{max_variables}
use Rattle.slots.specs.Layouts.{member}
use Rattle.slots.proofs.layout.marks.Given as goal

abbrev pub invariant-loop-key : goal.invariant-loop-key
invariant-loop-key l =
    record {
      long : length l.r ≡ max_variables;
      marked : (key : ℕ) → key < max_variables → get_or l.r key false ≡ member key (take l.key-index l.list);
    }
