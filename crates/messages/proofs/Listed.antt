-- Lists in the first places of arrays, lent as parts that begin at 0. Assumes nothing.
use mathlib.Core.Path.{◌≡◌}
use mathlib.Core.List.{List}
use Prim.Native.Nat.{ℕ, ◌-◌}
use native.Mathlib.Omega.{arith}
use lib.ListN.{take}
use Rattle.lists.specs.declared.Lists.{Lists}
use Rattle.messages.specs.Asked.{kept_of, cleared_of, listed_slots}

-- whatever holds of the three lists holds of the parts
module _ (l : Lists) (P : List ℕ → List ℕ → List ℕ → Type 0) where
  pub to_parts : P (kept_of l) (cleared_of l) (listed_slots l) → P (take (l.keeps - 0) l.kept) (take (l.clears - 0) l.cleared)
      (take (l.count - 0) l.slots)
  to_parts h =
      let a : l.keeps - 0 ≡ l.keeps = omega arith in
      let b : l.clears - 0 ≡ l.clears = omega arith in
      let c : l.count - 0 ≡ l.count = omega arith in
      rw (a, b, c) h
