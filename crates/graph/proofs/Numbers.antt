-- Which numbers refusals have, and that a number tells which refusal it is. Assumes nothing.
use Prim.Native.Nat.{ℕ, ◌≤◌}
use mathlib.Core.Path.{◌≡◌, refl, sym, ap, ◌∙◌}
use mathlib.Core.Logic.{◌≢◌}
use mathlib.Core.List.{[], ◌∷◌}
use native.Mathlib.Omega.{arith}
use lib.ListN.{get_or}
use Rattle.graph.specs.Refusals.{refusal_number}
use Rattle.graph.specs.declared.refusal.Refusal.{Refusal}
use Rattle.graph.specs.declared.refusal.Refusal.TheVariants.{NeitherKeptNorCleared, NotALetter, SizeOutside, KeysNotRising, CountOutside}
use Rattle.graph.specs.declared.refusal.Refusal.TheVariants.{LengthUnlike, NotFinite, VariancePivot, BadRecord, KeptAndCleared, NameTaken}
use Rattle.graph.specs.declared.refusal.Refusal.TheVariants.{NoSuchKey, PastLimit, FactorStoreShort, StoreShort, ClearedPivot, MarginalPivot}
use Rattle.graph.specs.declared.refusal.Refusal.TheVariants.{ResultNotFinite, NotLive, NotSymmetric, OrderUnlike, NoSuchGraph}

-- 18 is retired, and the greatest is 30
number-given : (why : Refusal) → (refusal_number why ≢ 18) × (refusal_number why ≤ 30)
number-given NeitherKeptNorCleared = (λ e. omega arith, omega arith)
number-given NotALetter = (λ e. omega arith, omega arith)
number-given SizeOutside = (λ e. omega arith, omega arith)
number-given KeysNotRising = (λ e. omega arith, omega arith)
number-given CountOutside = (λ e. omega arith, omega arith)
number-given LengthUnlike = (λ e. omega arith, omega arith)
number-given NotFinite = (λ e. omega arith, omega arith)
number-given VariancePivot = (λ e. omega arith, omega arith)
number-given BadRecord = (λ e. omega arith, omega arith)
number-given KeptAndCleared = (λ e. omega arith, omega arith)
number-given NameTaken = (λ e. omega arith, omega arith)
number-given NoSuchKey = (λ e. omega arith, omega arith)
number-given PastLimit = (λ e. omega arith, omega arith)
number-given FactorStoreShort = (λ e. omega arith, omega arith)
number-given StoreShort = (λ e. omega arith, omega arith)
number-given ClearedPivot = (λ e. omega arith, omega arith)
number-given MarginalPivot = (λ e. omega arith, omega arith)
number-given ResultNotFinite = (λ e. omega arith, omega arith)
number-given NotLive = (λ e. omega arith, omega arith)
number-given NotSymmetric = (λ e. omega arith, omega arith)
number-given OrderUnlike = (λ e. omega arith, omega arith)
number-given NoSuchGraph = (λ e. omega arith, omega arith)

pub never_18 : (why : Refusal) → refusal_number why ≢ 18
never_18 why = (number-given why).0

pub number-most : (why : Refusal) → refusal_number why ≤ 30
number-most why = (number-given why).1

-- the refusal of a number: 0 to 21 in their order, 18 being none, and 30 is past them
abbrev named : ℕ → Refusal
named n =
    get_or
    (NeitherKeptNorCleared
    ∷ NotALetter
    ∷ SizeOutside
    ∷ KeysNotRising
    ∷ CountOutside
    ∷ LengthUnlike
    ∷ NotFinite
    ∷ VariancePivot
    ∷ BadRecord
    ∷ KeptAndCleared
    ∷ NameTaken
    ∷ NoSuchKey
    ∷ PastLimit
    ∷ FactorStoreShort
    ∷ StoreShort
    ∷ ClearedPivot
    ∷ MarginalPivot
    ∷ ResultNotFinite
    ∷ NoSuchGraph
    ∷ NotLive
    ∷ NotSymmetric
    ∷ OrderUnlike
    ∷ [])
    n
    NoSuchGraph

back : (why : Refusal) → named (refusal_number why) ≡ why
back NeitherKeptNorCleared = refl
back NotALetter = refl
back SizeOutside = refl
back KeysNotRising = refl
back CountOutside = refl
back LengthUnlike = refl
back NotFinite = refl
back VariancePivot = refl
back BadRecord = refl
back KeptAndCleared = refl
back NameTaken = refl
back NoSuchKey = refl
back PastLimit = refl
back FactorStoreShort = refl
back StoreShort = refl
back ClearedPivot = refl
back MarginalPivot = refl
back ResultNotFinite = refl
back NotLive = refl
back NotSymmetric = refl
back OrderUnlike = refl
back NoSuchGraph = refl

pub same-refusal : (a b : Refusal) → refusal_number a ≡ refusal_number b → a ≡ b
same-refusal a b e = sym (back a) ∙ (ap named e ∙ back b)
