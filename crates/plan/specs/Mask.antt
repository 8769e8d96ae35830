-- Inner: a set of numbers as the binary digits of a number.
-- Assumes nothing.
use Rattle.std.specs.Prelude.{◌≡◌, Bool, not, List, ℕ, zero, suc, ◌/◌, ◌%◌, ◌≤◌, ◌<◌, eqb, length, get_or, take, drop}
use Rattle.std.specs.Int.Bits.{bit_and}
use Rattle.factor.specs.Limits.{max_variables}
use Rattle.schedule.specs.Count.{mem, any, rising_where}

-- j is in the set m: the digit j of m is 1
unfoldable pub has : (j m : ℕ) → Bool
has zero m = eqb (m % 2) 1
has (suc j) m = has j (m / 2)

-- the members of a set of keys, rising
unfoldable pub keys_in : (m : ℕ) → List ℕ
unfolding rising_where has
keys_in m = rising_where max_variables (λ j. has j m)

-- r is the set of the numbers of a list
abbrev pub Set : List ℕ → (r : ℕ) → Type 0
Set l r = (j : ℕ) → has j r ≡ mem j l

-- some member of m is not in a; some member of m is in c
abbrev pub strays : (a m : ℕ) → Bool
strays a m = not (eqb (bit_and m a) m)

abbrev pub meets : (c m : ℕ) → Bool
meets c m = not (eqb (bit_and m c) 0)

-- the first `to` are numbers below a bound
pub record Numbers (bound to : ℕ) (numbers : List ℕ) : Type 0 where
  pub few : to ≤ length numbers
  pub low : (i : ℕ) → i < to → get_or numbers i 0 < bound

-- r is the set of all members of the sets whose numbers stand from a to b
abbrev pub Union : (sets : List ℕ) (a b : ℕ) (numbers : List ℕ) (r : ℕ) → Type 0
Union sets a b numbers r = (j : ℕ) → has j r ≡ any (λ x. has j (get_or sets x 0)) (drop a (take b numbers))
