-- What a request comes to, over plain values. Assumes nothing.
use Prim.Native.Nat.{ℕ, ◌+◌}
use mathlib.Core.Path.{◌≡◌, refl}
use mathlib.Core.Bool.{Bool, true, false, cond}
use mathlib.Core.List.{List}
use lib.Ieee.{Float}
use Rattle.std.specs.Prelude.{Result}
use Rattle.graph.specs.Record.{live_at}
use Rattle.graph.specs.declared.Graph.{Graph}
use Rattle.graph.specs.declared.refusal.Refusal.{Refusal}
use Rattle.graph.specs.declared.refusal.Refusal.TheVariants.{BadRecord, NotLive}
use Rattle.graph.specs.Reached.{variable}
use Rattle.records.specs.Bytes.{byte_at, cut, word_at}
use Rattle.records.specs.Records.{Request, ask, refuse, number_bytes, variable_at, within_at, ask_in_place, superseding_at, step_of, request_store}

-- what a function answers for a request, and how it leaves the graph and the store
abbrev pub Meets : Graph → List Float → Request → Result ℕ Refusal → Graph → List Float → Type 0
Meets g store q r h s = (r ≡ (step_of g q).next) × (h ≡ (step_of g q).graph) × (s ≡ request_store g store q)

-- a variable stores no numbers
pub as_it_was : (g : Graph) (store : List Float) (bytes : List ℕ) (at : ℕ) → store ≡ request_store g store (variable_at bytes at)
unfolding variable_at
as_it_was g store bytes at = go (cut bytes at 9)
  where
    go : (b : Bool) → store ≡ request_store g store (cond b (refuse BadRecord)
        (ask (variable (word_at bytes at, word_at bytes (at + 4)) (byte_at bytes (at + 8))) (at + 9)))
    go true = refl
    go false = refl

-- ---- a factor in place of another: by the number, whether that factor is live, and what is within

module _ (g : Graph) (store : List Float) (bytes : List ℕ) (at : ℕ) where
  pub superseding-cut : cut bytes at number_bytes ≡ true → superseding_at g store bytes at ≡ refuse BadRecord
  unfolding superseding_at
  superseding-cut h = rw h

  module _ (there : cut bytes at number_bytes ≡ false) where
    pub superseding-none : live_at g (byte_at bytes at) ≡ false → superseding_at g store bytes at ≡ refuse NotLive
    unfolding superseding_at
    superseding-none h = rw (there, h)

    pub superseding-live : live_at g (byte_at bytes at) ≡ true
        → superseding_at g store bytes at ≡ ask_in_place (byte_at bytes at) (within_at g store bytes (at + number_bytes))
    unfolding superseding_at
    superseding-live h = rw (there, h)
