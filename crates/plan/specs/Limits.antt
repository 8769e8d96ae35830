-- Inner: how many slots a pass has at most; `PASS_SLOTS` is the same number for the code.
use Rattle.std.specs.Prelude.{ℕ, ◌+◌}
use Rattle.factor.specs.Limits.{max_variables, max_factors}

-- all originals, and a message a key
abbrev pub pass_slots : ℕ
pass_slots = max_factors + max_variables
