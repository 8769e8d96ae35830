-- Inner: the keys of a graph's factors, and the key sets that hold them.
use Rattle.std.specs.Prelude.{◌≡◌, cond, List, [], ℕ, ◌≤◌, ◌<◌, ltb, get_or, take}
use Rattle.factor.specs.Limits.{max_variables, max_keys}
use Rattle.factor.specs.Factor.{absent}
use Rattle.factor.specs.declared.Factor.{Factor}
use Rattle.schedule.specs.Count.{rising_where}
use Rattle.plan.specs.Pass.{Live, Agrees}
use Rattle.plan.specs.declared.factors.Lives.{Lives}

-- the keys that a factor touches
abbrev pub touched_keys : Factor → List ℕ
touched_keys f = take f.touched f.keys

-- each of them can be a member of a set of keys
pub record Fits (f : Factor) : Type 0 where
  pub few : f.touched ≤ max_keys
  pub low : (i : ℕ) → i < f.touched → get_or f.keys i 0 < max_variables

abbrev pub AllFit : List Factor → (number : ℕ) → Type 0
AllFit factors number = (i : ℕ) → i < number → Fits (get_or factors i absent)

-- the keys of the factor i, of the first `number`; the others have none
abbrev pub keys_among : List Factor → (number i : ℕ) → List ℕ
keys_among factors number i = cond (ltb i number) (touched_keys (get_or factors i absent)) []

-- r holds the sets of these keys
abbrev pub Masked : List Factor → (number : ℕ) (r : List ℕ) → Type 0
Masked factors number r = Agrees r (keys_among factors number)

-- the numbers of the live factors among the first `number`, rising
abbrev pub live_among : List Factor → (number : ℕ) → List ℕ
live_among factors number = rising_where number (λ i. (get_or factors i absent).live)

-- r holds them
pub record Lists (factors : List Factor) (number : ℕ) (r : Lives) : Type 0 where
  pub originals : Live r.numbers r.count
  pub are : take r.count r.numbers ≡ live_among factors number
