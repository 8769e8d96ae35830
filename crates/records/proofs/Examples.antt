-- Small jobs read by computation: one variable with a prior or an observation of each flag, and records that are turned back. Assumes nothing.
use Prim.Native.Nat.{ℕ}
use mathlib.Core.Path.{◌≡◌, refl}
use mathlib.Core.Bool.{false}
use mathlib.Core.List.{List, [], ◌∷◌, ◌++◌}
use lib.Ieee.{Float, nan, binary64, of_bits}
use lib.ListN.{replicate}
use Rattle.std.specs.Prelude.{Result, Ok, Err}
use Rattle.matrix.specs.Sums.{plus_zero}
use Rattle.factor.specs.Factor.{no_factor, prior_of, with_live}
use Rattle.graph.specs.Record.{no_name, fresh}
use Rattle.graph.specs.declared.Graph.{Graph}
use Rattle.graph.specs.declared.refusal.Refusal.{Refusal}
use Rattle.graph.specs.declared.refusal.Refusal.TheVariants.{KeysNotRising, CountOutside, BadRecord, NoSuchKey, FactorStoreShort, NotLive}
use Rattle.records.specs.Records.{Reading, reading, read_from, read_all}
use Rattle.records.specs.declared.answer.Rejected.{Rejected}
use Rattle.records.proofs.Computing.{computed_reading}

-- 2.0 and 4.0 in a job, and the numbers 0.25, 0.5, 1, 2, 4, 8 and 16
abbrev two_bytes : List ℕ
two_bytes = 0 ∷ 0 ∷ 0 ∷ 0 ∷ 0 ∷ 0 ∷ 0 ∷ 0x40 ∷ []

abbrev four_bytes : List ℕ
four_bytes = 0 ∷ 0 ∷ 0 ∷ 0 ∷ 0 ∷ 0 ∷ 0x10 ∷ 0x40 ∷ []

abbrev half : Float
half = of_bits binary64 0x3FE0000000000000

abbrev quarter : Float
quarter = of_bits binary64 0x3FD0000000000000

abbrev unit : Float
unit = of_bits binary64 0x3FF0000000000000

abbrev two : Float
two = of_bits binary64 0x4000000000000000

abbrev four : Float
four = of_bits binary64 0x4010000000000000

abbrev eight : Float
eight = of_bits binary64 0x4020000000000000

abbrev sixteen : Float
sixteen = of_bits binary64 0x4030000000000000

-- a variable of size 1 whose name has the letter a
abbrev variable_bytes : ℕ → List ℕ
variable_bytes index = 0x56 ∷ 0x41 ∷ 0x61 ∷ 0 ∷ 0 ∷ 0 ∷ index ∷ 0 ∷ 0 ∷ 0 ∷ 1 ∷ []

-- a prior on key 0 with mean 2 and variance 4
abbrev prior_bytes : List ℕ
prior_bytes = 0x50 ∷ 0x52 ∷ 0 ∷ two_bytes ++ four_bytes

-- an observation of key 0 in one row, with this flag: A is 2 and the mean 4; and one in two rows: A is 4, 4 and the mean 2, 4
abbrev observation_bytes : ℕ → List ℕ
observation_bytes flag = 0x4F ∷ 0x42 ∷ 1 ∷ 1 ∷ flag ∷ 0 ∷ two_bytes ++ four_bytes

abbrev two-rows : ℕ → List ℕ
two-rows flag = 0x4F ∷ 0x42 ∷ 1 ∷ 2 ∷ flag ∷ 0 ∷ four_bytes ++ four_bytes ++ two_bytes ++ four_bytes

-- a job, read into a store of three numbers
abbrev job : List ℕ → Reading
job bytes = read_all bytes (nan ∷ nan ∷ nan ∷ [])

abbrev ended : List ℕ → Result (Unit {0}) Rejected
ended bytes = (job bytes).answer.ended

abbrev refused : Refusal → ℕ → Result (Unit {0}) Rejected
refused why place = Err (record { why = why; place = place })

-- a variable and a live prior on it
abbrev held : Graph
held =
    record {
      symbols = (0x61, 0) ∷ replicate 31 no_name;
      sizes = 1 ∷ replicate 31 0;
      variables = 1;
      factors = prior_of 0 1 ∷ replicate 63 no_factor;
      count = 1;
    }

-- nothing at all is a whole job
no_records : job [] ≡ reading fresh (Ok tt) (nan ∷ nan ∷ nan ∷ [])
unfolding computed_reading
no_records = refl

-- one variable and one prior, whose xi and W are stored
one-prior : job (variable_bytes 0 ++ prior_bytes) ≡ reading held (Ok tt) (half ∷ quarter ∷ nan ∷ [])
unfolding computed_reading
one-prior = refl

-- keys 1, 1: refusal 3, at the third record
equal_keys : ended (variable_bytes 0 ++ variable_bytes 1 ++ 0x4F ∷ 0x42 ∷ 2 ∷ 1 ∷ 1 ∷ 1 ∷ 1 ∷ []) ≡ refused KeysNotRising 2
unfolding computed_reading
equal_keys = refl

-- a mark cut at the end is a record of its own
cut-mark : ended (variable_bytes 0 ++ 0x50 ∷ []) ≡ refused BadRecord 1
unfolding computed_reading
cut-mark = refl

-- a prior on a key that isn't there, with its numbers cut: 11
no_key : ended (0x50 ∷ 0x52 ∷ 0 ∷ []) ≡ refused NoSuchKey 0
unfolding computed_reading
no_key = refl

-- Flag 0: the variance is a quarter, so xi is four times the mean and W is 4. Flag 2: it is 1, so xi is the mean and W is 1. A, xi and W are stored.
flag_zero : (job (variable_bytes 0 ++ observation_bytes 0)).store ≡ two ∷ sixteen ∷ four ∷ []
unfolding computed_reading
flag_zero = refl

flag_two : (job (variable_bytes 0 ++ observation_bytes 2)).store ≡ two ∷ four ∷ unit ∷ []
unfolding computed_reading
flag_two = refl

-- in two rows there are zeros beside the diagonal
zero_of_two-rows : (read_all (variable_bytes 0 ++ two-rows 0) (nan ∷ nan ∷ nan ∷ nan ∷ nan ∷ nan ∷ nan ∷ nan ∷ [])).store
    ≡ four ∷ four ∷ eight ∷ sixteen ∷ four ∷ plus_zero ∷ plus_zero ∷ four ∷ []
unfolding computed_reading
zero_of_two-rows = refl

two_of_two-rows : (read_all (variable_bytes 0 ++ two-rows 2) (nan ∷ nan ∷ nan ∷ nan ∷ nan ∷ nan ∷ nan ∷ nan ∷ [])).store
    ≡ four ∷ four ∷ two ∷ four ∷ unit ∷ plus_zero ∷ plus_zero ∷ unit ∷ []
unfolding computed_reading
two_of_two-rows = refl

-- the same record with flag 1 wants a variance, and with flag 3 or 255 it is none
flag_one : ended (variable_bytes 0 ++ observation_bytes 1) ≡ refused BadRecord 1
unfolding computed_reading
flag_one = refl

flag_three : ended (variable_bytes 0 ++ observation_bytes 3) ≡ refused BadRecord 1
unfolding computed_reading
flag_three = refl

flag_most : ended (variable_bytes 0 ++ observation_bytes 255) ≡ refused BadRecord 1
unfolding computed_reading
flag_most = refl

-- flag 3 with 5 keys: 8; 5 keys, all cut: 4; 4 keys, all cut: 8; so with 7 and 6 rows; keys 9, 9, which aren't there: 3
bad_flag : ended (0x4F ∷ 0x42 ∷ 5 ∷ 1 ∷ 3 ∷ []) ≡ refused BadRecord 0
unfolding computed_reading
bad_flag = refl

five_keys : ended (0x4F ∷ 0x42 ∷ 5 ∷ 1 ∷ 1 ∷ []) ≡ refused CountOutside 0
unfolding computed_reading
five_keys = refl

four-keys : ended (0x4F ∷ 0x42 ∷ 4 ∷ 1 ∷ 1 ∷ []) ≡ refused BadRecord 0
unfolding computed_reading
four-keys = refl

seven_rows : ended (0x4F ∷ 0x42 ∷ 0 ∷ 7 ∷ 1 ∷ []) ≡ refused CountOutside 0
unfolding computed_reading
seven_rows = refl

six_rows : ended (0x4F ∷ 0x42 ∷ 0 ∷ 6 ∷ 1 ∷ []) ≡ refused BadRecord 0
unfolding computed_reading
six_rows = refl

keys-not-there : ended (0x4F ∷ 0x42 ∷ 2 ∷ 1 ∷ 1 ∷ 9 ∷ 9 ∷ []) ≡ refused KeysNotRising 0
unfolding computed_reading
keys-not-there = refl

-- ---- records that supersede

-- a factor that isn't there: 19, though nothing follows its number; and a number that is cut: 8
not_there : ended (0x53 ∷ 0x55 ∷ 0 ∷ []) ≡ refused NotLive 0
unfolding computed_reading
not_there = refl

number_cut : ended (0x53 ∷ 0x55 ∷ []) ≡ refused BadRecord 0
unfolding computed_reading
number_cut = refl

-- a job with a variable, a prior and a record in place of that prior
abbrev replaced : List ℕ → List ℕ
replaced bytes = variable_bytes 0 ++ prior_bytes ++ 0x53 ∷ 0x55 ∷ 0 ∷ bytes

-- no mark, a variable and a superseding record within: 8
no-mark : ended (replaced []) ≡ refused BadRecord 2
unfolding computed_reading
no-mark = refl

variable-within : ended (replaced (variable_bytes 1)) ≡ refused BadRecord 2
unfolding computed_reading
variable-within = refl

superseding-within : ended (replaced (0x53 ∷ 0x55 ∷ 0 ∷ prior_bytes)) ≡ refused BadRecord 2
unfolding computed_reading
superseding-within = refl

-- a prior within, without room for the numbers of both: 13, and factor 0 stays live
no_room : job (replaced prior_bytes) ≡ reading held (refused FactorStoreShort 2) (half ∷ quarter ∷ nan ∷ [])
unfolding computed_reading
no_room = refl

-- with room, from there on: factor 0 is no longer live, factor 1 is, and both have their numbers
abbrev superseded : Graph
superseded =
    record {
      symbols = (0x61, 0) ∷ replicate 31 no_name;
      sizes = 1 ∷ replicate 31 0;
      variables = 1;
      factors = with_live (prior_of 0 1) false ∷ prior_of 0 1 ∷ replicate 62 no_factor;
      count = 2;
    }

prior-within : read_from 2 (0x53 ∷ 0x55 ∷ 0 ∷ prior_bytes) 0 2 held (half ∷ quarter ∷ nan ∷ nan ∷ [])
    ≡ reading superseded (Ok tt) (half ∷ quarter ∷ half ∷ quarter ∷ [])
unfolding computed_reading
prior-within = refl

-- factor 0 can't be superseded again: 19, though the mark within is cut
named_again : read_from 1 (0x53 ∷ 0x55 ∷ 0 ∷ []) 0 0 superseded [] ≡ reading superseded (refused NotLive 0) []
unfolding computed_reading
named_again = refl
