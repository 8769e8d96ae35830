-- The reading of a job, open to computing: a law that unfolds `computed_reading` unfolds all that it rests on. Assumes nothing.
use Prim.Native.Nat.{ℕ}
use mathlib.Core.List.{List}
use lib.Ieee.{Float}
use Rattle.matrix.specs.Stores.{block_column, block}
use Rattle.matrix.specs.Triangles.{diagonal_of}
use Rattle.graph.proofs.Computing.{computed_call}
use Rattle.records.specs.Bytes.{word_at, number_at, listed}
use Rattle.records.specs.Records.{variable_at, prior_numbers, prior_at, meaning, observed_numbers, observed, observation_at, mark_of, mark_at, within_at}
use Rattle.records.specs.Records.{superseding_at, record_at, Reading, read_from, read_all}

unfoldable pub computed_reading : List ℕ → List Float → Reading
unfolding read_all read_from record_at superseding_at within_at mark_at mark_of variable_at prior_at prior_numbers observation_at observed observed_numbers meaning word_at
    number_at listed diagonal_of block block_column computed_call
computed_reading bytes store = read_all bytes store
