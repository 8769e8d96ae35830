-- The number of each refusal. Definitions only.
use Rattle.std.specs.Prelude.{ℕ}
use Rattle.graph.specs.declared.refusal.Refusal.{Refusal}
use Rattle.graph.specs.declared.refusal.Refusal.TheVariants.{NeitherKeptNorCleared, NotALetter, SizeOutside, KeysNotRising, CountOutside}
use Rattle.graph.specs.declared.refusal.Refusal.TheVariants.{LengthUnlike, NotFinite, VariancePivot, BadRecord, KeptAndCleared, NameTaken, NoSuchKey}
use Rattle.graph.specs.declared.refusal.Refusal.TheVariants.{PastLimit, FactorStoreShort, StoreShort, ClearedPivot, MarginalPivot}
use Rattle.graph.specs.declared.refusal.Refusal.TheVariants.{ResultNotFinite, NotLive, NotSymmetric, OrderUnlike, NoSuchGraph}

abbrev pub refusal_number : Refusal → ℕ
-- a direct elimination meets a key that is neither kept nor cleared
refusal_number NeitherKeptNorCleared = 0
-- turned back by what was sent: a letter that is not a Unicode scalar value; a size, an order of keys, a count or a length that is not right
refusal_number NotALetter = 1
refusal_number SizeOutside = 2
refusal_number KeysNotRising = 3
refusal_number CountOutside = 4
refusal_number LengthUnlike = 5
-- a number given, or computed for a factor; a variance whose Cholesky factor stops
refusal_number NotFinite = 6
refusal_number VariancePivot = 7
-- a job's record; the lists of an elimination
refusal_number BadRecord = 8
refusal_number KeptAndCleared = 9
-- turned back by what is already there: a name, a key or slot, a limit
refusal_number NameTaken = 10
refusal_number NoSuchKey = 11
refusal_number PastLimit = 12
-- the factor store; the message, work or marginal store
refusal_number FactorStoreShort = 13
refusal_number StoreShort = 14
-- the pivots and the numbers of an elimination and of a marginal
refusal_number ClearedPivot = 15
refusal_number MarginalPivot = 16
refusal_number ResultNotFinite = 17
-- 18 is retired: no refusal has it, and none may be given it
-- the factor to be superseded isn't there, or isn't live
refusal_number NotLive = 19
-- a variance whose triangles differ
refusal_number NotSymmetric = 20
-- a lent order that isn't each registered key exactly once
refusal_number OrderUnlike = 21
-- a record that no list of registering calls yields
refusal_number NoSuchGraph = 30
