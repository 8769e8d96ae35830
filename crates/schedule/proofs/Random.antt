-- 12 random graphs with their plans, made by tools/random_graphs.py: a transcription of the schedule in the original's
-- src/solver.rs into Python, run with a fixed seed. Half of the orders are shuffled, and in a third of the graphs some originals
-- are left out. The definitions compute to the same plans.
-- Assumes nothing.
use mathlib.Core.Path.{◌≡◌, refl}
use mathlib.Core.List.{List, [], ◌∷◌}
use Prim.Native.Nat.{ℕ}
use lib.ListN.{get_or}
use Rattle.schedule.specs.Pass.{Slot, original, closed, ClosedFactor}
use Rattle.schedule.specs.Gather.{Gathered}
use Rattle.schedule.specs.Plan.{plan}

-- a message by its step, content, kept and cleared keys
abbrev sent : (step : ℕ) (content : List Slot) (kept cleared : List ℕ) → ClosedFactor
sent step content kept cleared = record { step = step; content = content; kept = kept; cleared = cleared }

-- what a key gathers: forward and backward messages, uncovered originals, all leaves, the keys cleared last
abbrev got : (forward backward originals leaves last : List ℕ) → Gathered
got forward backward originals leaves last = record { forward = forward; backward = backward; originals = originals; leaves = leaves; last = last }

keys0 : ℕ → List ℕ
keys0 i = get_or ((2 ∷ 3 ∷ []) ∷ (0 ∷ 1 ∷ 2 ∷ []) ∷ []) i []

plan0 : plan 4 keys0 (0 ∷ 1 ∷ []) (0 ∷ 1 ∷ 2 ∷ 3 ∷ []) ≡ record {
  forward =
      sent 2 (original 1 ∷ []) (2 ∷ []) (0 ∷ 1 ∷ []) ∷
      sent 3 (original 0 ∷ closed 0 ∷ []) (3 ∷ []) (2 ∷ []) ∷
      [];
  backward =
      sent 1 (original 0 ∷ []) (2 ∷ []) (3 ∷ []) ∷
      sent 3 (original 1 ∷ closed 0 ∷ []) (0 ∷ []) (1 ∷ 2 ∷ []) ∷
      [];
  at_key =
      got [] (1 ∷ []) [] (1 ∷ 0 ∷ []) [] ∷
      got [] (0 ∷ []) (1 ∷ []) (0 ∷ 1 ∷ []) (0 ∷ 2 ∷ []) ∷
      got (0 ∷ []) (0 ∷ []) [] (1 ∷ 0 ∷ []) [] ∷
      got (1 ∷ []) [] [] (0 ∷ 1 ∷ []) [] ∷
      [];
}
unfolding plan keys0
plan0 = refl

keys1 : ℕ → List ℕ
keys1 i = get_or ((0 ∷ 3 ∷ 6 ∷ []) ∷ [] ∷ (0 ∷ 6 ∷ []) ∷ (1 ∷ []) ∷ (2 ∷ 3 ∷ 6 ∷ []) ∷ (2 ∷ []) ∷ (0 ∷ 6 ∷ []) ∷ [] ∷ (3 ∷ 4 ∷ []) ∷ []) i []

plan1 : plan 7 keys1 (0 ∷ 1 ∷ 2 ∷ 3 ∷ 4 ∷ 5 ∷ 6 ∷ 7 ∷ 8 ∷ []) (6 ∷ 1 ∷ 4 ∷ 0 ∷ 5 ∷ 3 ∷ 2 ∷ []) ≡ record {
  forward =
      sent 2 (original 3 ∷ []) [] (1 ∷ []) ∷
      sent 5 (original 0 ∷ original 2 ∷ original 8 ∷ original 6 ∷ []) (3 ∷ 6 ∷ []) (0 ∷ 4 ∷ 5 ∷ []) ∷
      sent 6 (original 4 ∷ closed 1 ∷ []) (2 ∷ []) (3 ∷ 6 ∷ []) ∷
      [];
  backward =
      sent 3 [] [] (5 ∷ []) ∷
      sent 5 (original 8 ∷ []) (3 ∷ []) (4 ∷ []) ∷
      sent 6 (original 0 ∷ closed 1 ∷ original 2 ∷ original 3 ∷ original 6 ∷ original 5 ∷ original 4 ∷ []) (6 ∷ []) (0 ∷ 1 ∷ 2 ∷ 3 ∷ []) ∷
      [];
  at_key =
      got (0 ∷ []) (0 ∷ []) (0 ∷ 1 ∷ 2 ∷ 4 ∷ 5 ∷ 6 ∷ 7 ∷ 8 ∷ []) (3 ∷ 0 ∷ 1 ∷ 2 ∷ 4 ∷ 5 ∷ 6 ∷ 7 ∷ 8 ∷ []) (2 ∷ 3 ∷ 4 ∷ 6 ∷ []) ∷
      got [] (0 ∷ 1 ∷ []) (0 ∷ 1 ∷ 2 ∷ 3 ∷ 4 ∷ 5 ∷ 6 ∷ 7 ∷ []) (8 ∷ 0 ∷ 1 ∷ 2 ∷ 3 ∷ 4 ∷ 5 ∷ 6 ∷ 7 ∷ []) (0 ∷ 2 ∷ 3 ∷ 6 ∷ []) ∷
      got (0 ∷ 2 ∷ []) [] (1 ∷ 5 ∷ 7 ∷ []) (3 ∷ 4 ∷ 0 ∷ 2 ∷ 8 ∷ 6 ∷ 1 ∷ 5 ∷ 7 ∷ []) [] ∷
      got (0 ∷ 1 ∷ []) [] (1 ∷ 4 ∷ 5 ∷ 7 ∷ []) (3 ∷ 0 ∷ 2 ∷ 8 ∷ 6 ∷ 1 ∷ 4 ∷ 5 ∷ 7 ∷ []) (2 ∷ 6 ∷ []) ∷
      got (0 ∷ []) (0 ∷ []) (0 ∷ 1 ∷ 2 ∷ 4 ∷ 5 ∷ 6 ∷ 7 ∷ 8 ∷ []) (3 ∷ 0 ∷ 1 ∷ 2 ∷ 4 ∷ 5 ∷ 6 ∷ 7 ∷ 8 ∷ []) (0 ∷ 2 ∷ 3 ∷ 6 ∷ []) ∷
      got (0 ∷ []) [] (0 ∷ 1 ∷ 2 ∷ 4 ∷ 5 ∷ 6 ∷ 7 ∷ 8 ∷ []) (3 ∷ 0 ∷ 1 ∷ 2 ∷ 4 ∷ 5 ∷ 6 ∷ 7 ∷ 8 ∷ []) (0 ∷ 2 ∷ 3 ∷ 4 ∷ 6 ∷ []) ∷
      got [] (0 ∷ 2 ∷ []) (1 ∷ 7 ∷ []) (0 ∷ 2 ∷ 3 ∷ 6 ∷ 5 ∷ 4 ∷ 8 ∷ 1 ∷ 7 ∷ []) [] ∷
      [];
}
unfolding plan keys1
plan1 = refl

keys2 : ℕ → List ℕ
keys2 i = get_or ((0 ∷ 4 ∷ []) ∷ (1 ∷ []) ∷ (2 ∷ []) ∷ []) i []

plan2 : plan 5 keys2 (0 ∷ 1 ∷ 2 ∷ []) (0 ∷ 1 ∷ 2 ∷ 3 ∷ 4 ∷ []) ≡ record {
  forward =
      sent 2 (original 1 ∷ []) [] (1 ∷ []) ∷
      sent 3 (original 2 ∷ []) [] (2 ∷ []) ∷
      sent 4 (original 0 ∷ []) (4 ∷ []) (0 ∷ 3 ∷ []) ∷
      [];
  backward =
      sent 2 [] [] (3 ∷ []) ∷
      sent 3 (original 2 ∷ []) [] (2 ∷ []) ∷
      sent 4 (original 0 ∷ original 1 ∷ []) (0 ∷ []) (1 ∷ 4 ∷ []) ∷
      [];
  at_key =
      got [] (0 ∷ 1 ∷ 2 ∷ []) [] (2 ∷ 0 ∷ 1 ∷ []) [] ∷
      got [] (0 ∷ 1 ∷ []) (0 ∷ 1 ∷ []) (2 ∷ 0 ∷ 1 ∷ []) (0 ∷ 4 ∷ []) ∷
      got (0 ∷ []) (0 ∷ []) (0 ∷ 2 ∷ []) (1 ∷ 0 ∷ 2 ∷ []) (0 ∷ 4 ∷ []) ∷
      got (0 ∷ 1 ∷ []) [] (0 ∷ []) (1 ∷ 2 ∷ 0 ∷ []) (0 ∷ 4 ∷ []) ∷
      got (0 ∷ 1 ∷ 2 ∷ []) [] [] (1 ∷ 2 ∷ 0 ∷ []) [] ∷
      [];
}
unfolding plan keys2
plan2 = refl

keys3 : ℕ → List ℕ
keys3 i = get_or ((0 ∷ 4 ∷ []) ∷ (0 ∷ 4 ∷ []) ∷ (2 ∷ []) ∷ (0 ∷ 2 ∷ []) ∷ (1 ∷ 4 ∷ []) ∷ [] ∷ (1 ∷ []) ∷ (0 ∷ 1 ∷ []) ∷ (1 ∷ 2 ∷ []) ∷ []) i []

plan3 : plan 5 keys3 (0 ∷ 1 ∷ 2 ∷ 3 ∷ 4 ∷ 5 ∷ 6 ∷ 7 ∷ 8 ∷ []) (3 ∷ 1 ∷ 4 ∷ 2 ∷ 0 ∷ []) ≡ record {
  forward =
      sent 1 [] [] (3 ∷ []) ∷
      sent 4 (original 0 ∷ original 1 ∷ original 8 ∷ original 7 ∷ original 6 ∷ original 2 ∷ original 4 ∷ original 3 ∷ []) (0 ∷ []) (1 ∷ 2 ∷ 4 ∷ []) ∷
      [];
  backward =
      sent 3 (original 0 ∷ original 8 ∷ original 7 ∷ original 1 ∷ original 2 ∷ original 4 ∷ original 3 ∷ []) (1 ∷ []) (0 ∷ 2 ∷ 4 ∷ []) ∷
      sent 4 (original 6 ∷ closed 0 ∷ []) [] (1 ∷ []) ∷
      [];
  at_key =
      got (0 ∷ 1 ∷ []) [] (5 ∷ []) (0 ∷ 1 ∷ 8 ∷ 7 ∷ 6 ∷ 2 ∷ 4 ∷ 3 ∷ 5 ∷ []) [] ∷
      got (0 ∷ []) (0 ∷ []) (5 ∷ 6 ∷ []) (0 ∷ 8 ∷ 7 ∷ 1 ∷ 2 ∷ 4 ∷ 3 ∷ 5 ∷ 6 ∷ []) [] ∷
      got (0 ∷ []) [] (0 ∷ 1 ∷ 2 ∷ 3 ∷ 4 ∷ 5 ∷ 6 ∷ 7 ∷ 8 ∷ []) (0 ∷ 1 ∷ 2 ∷ 3 ∷ 4 ∷ 5 ∷ 6 ∷ 7 ∷ 8 ∷ []) (0 ∷ 1 ∷ 4 ∷ []) ∷
      got [] (1 ∷ []) (5 ∷ []) (6 ∷ 0 ∷ 8 ∷ 7 ∷ 1 ∷ 2 ∷ 4 ∷ 3 ∷ 5 ∷ []) [] ∷
      got (0 ∷ []) [] (0 ∷ 1 ∷ 2 ∷ 3 ∷ 4 ∷ 5 ∷ 6 ∷ 7 ∷ 8 ∷ []) (0 ∷ 1 ∷ 2 ∷ 3 ∷ 4 ∷ 5 ∷ 6 ∷ 7 ∷ 8 ∷ []) (0 ∷ 1 ∷ 2 ∷ []) ∷
      [];
}
unfolding plan keys3
plan3 = refl

keys4 : ℕ → List ℕ
keys4 i = get_or ((1 ∷ 4 ∷ []) ∷ (1 ∷ 2 ∷ 4 ∷ []) ∷ (0 ∷ 2 ∷ 3 ∷ []) ∷ (4 ∷ []) ∷ [] ∷ (1 ∷ 2 ∷ []) ∷ (1 ∷ []) ∷ (0 ∷ 1 ∷ []) ∷ []) i []

plan4 : plan 5 keys4 (0 ∷ 1 ∷ 2 ∷ 3 ∷ 4 ∷ 5 ∷ 6 ∷ 7 ∷ []) (0 ∷ 1 ∷ 2 ∷ 3 ∷ 4 ∷ []) ≡ record {
  forward =
      sent 3 (original 2 ∷ original 7 ∷ []) (1 ∷ 2 ∷ 3 ∷ []) (0 ∷ []) ∷
      sent 4 (original 0 ∷ closed 0 ∷ original 5 ∷ original 1 ∷ original 6 ∷ []) (4 ∷ []) (1 ∷ 2 ∷ 3 ∷ []) ∷
      [];
  backward =
      sent 3 (original 0 ∷ original 1 ∷ original 3 ∷ []) (1 ∷ 2 ∷ []) (4 ∷ []) ∷
      sent 4 (original 7 ∷ closed 0 ∷ original 6 ∷ original 5 ∷ original 2 ∷ []) (0 ∷ []) (1 ∷ 2 ∷ 3 ∷ []) ∷
      [];
  at_key =
      got [] (1 ∷ []) (4 ∷ []) (7 ∷ 6 ∷ 5 ∷ 2 ∷ 0 ∷ 1 ∷ 3 ∷ 4 ∷ []) [] ∷
      got [] (0 ∷ []) (2 ∷ 4 ∷ 5 ∷ 6 ∷ 7 ∷ []) (0 ∷ 1 ∷ 3 ∷ 2 ∷ 4 ∷ 5 ∷ 6 ∷ 7 ∷ []) (0 ∷ 2 ∷ 3 ∷ []) ∷
      got [] [] (0 ∷ 1 ∷ 2 ∷ 3 ∷ 4 ∷ 5 ∷ 6 ∷ 7 ∷ []) (0 ∷ 1 ∷ 2 ∷ 3 ∷ 4 ∷ 5 ∷ 6 ∷ 7 ∷ []) (0 ∷ 1 ∷ 3 ∷ 4 ∷ []) ∷
      got (0 ∷ []) [] (0 ∷ 1 ∷ 3 ∷ 4 ∷ 5 ∷ 6 ∷ []) (2 ∷ 7 ∷ 0 ∷ 1 ∷ 3 ∷ 4 ∷ 5 ∷ 6 ∷ []) (1 ∷ 2 ∷ 4 ∷ []) ∷
      got (1 ∷ []) [] (3 ∷ 4 ∷ []) (0 ∷ 5 ∷ 1 ∷ 6 ∷ 2 ∷ 7 ∷ 3 ∷ 4 ∷ []) [] ∷
      [];
}
unfolding plan keys4
plan4 = refl

keys5 : ℕ → List ℕ
keys5 i = get_or ((1 ∷ []) ∷ [] ∷ (0 ∷ 2 ∷ 4 ∷ []) ∷ (1 ∷ []) ∷ (4 ∷ []) ∷ (0 ∷ 4 ∷ []) ∷ (2 ∷ 3 ∷ []) ∷ (1 ∷ 3 ∷ []) ∷ []) i []

plan5 : plan 5 keys5 (0 ∷ 1 ∷ 2 ∷ 3 ∷ 4 ∷ 5 ∷ 6 ∷ 7 ∷ []) (3 ∷ 1 ∷ 4 ∷ 2 ∷ 0 ∷ []) ≡ record {
  forward =
      sent 2 (original 0 ∷ original 7 ∷ original 3 ∷ []) (3 ∷ []) (1 ∷ []) ∷
      sent 3 (original 6 ∷ closed 0 ∷ []) (2 ∷ []) (3 ∷ []) ∷
      sent 4 (original 4 ∷ closed 1 ∷ original 5 ∷ original 2 ∷ []) (0 ∷ []) (2 ∷ 4 ∷ []) ∷
      [];
  backward =
      sent 2 (original 2 ∷ original 5 ∷ []) (2 ∷ 4 ∷ []) (0 ∷ []) ∷
      sent 3 (original 4 ∷ closed 0 ∷ []) (2 ∷ []) (4 ∷ []) ∷
      sent 4 (original 0 ∷ closed 1 ∷ original 6 ∷ original 3 ∷ original 7 ∷ []) (3 ∷ []) (1 ∷ 2 ∷ []) ∷
      [];
  at_key =
      got (2 ∷ []) [] (1 ∷ []) (4 ∷ 5 ∷ 2 ∷ 6 ∷ 0 ∷ 7 ∷ 3 ∷ 1 ∷ []) [] ∷
      got [] (1 ∷ []) (0 ∷ 1 ∷ 3 ∷ 6 ∷ 7 ∷ []) (4 ∷ 2 ∷ 5 ∷ 0 ∷ 1 ∷ 3 ∷ 6 ∷ 7 ∷ []) (2 ∷ 3 ∷ []) ∷
      got (1 ∷ []) [] (1 ∷ 2 ∷ 4 ∷ 5 ∷ []) (6 ∷ 0 ∷ 7 ∷ 3 ∷ 1 ∷ 2 ∷ 4 ∷ 5 ∷ []) (0 ∷ 4 ∷ []) ∷
      got [] (2 ∷ []) (1 ∷ []) (0 ∷ 6 ∷ 3 ∷ 7 ∷ 4 ∷ 2 ∷ 5 ∷ 1 ∷ []) [] ∷
      got (0 ∷ []) (0 ∷ []) (1 ∷ 4 ∷ 6 ∷ []) (0 ∷ 7 ∷ 3 ∷ 2 ∷ 5 ∷ 1 ∷ 4 ∷ 6 ∷ []) (2 ∷ 3 ∷ []) ∷
      [];
}
unfolding plan keys5
plan5 = refl

keys6 : ℕ → List ℕ
keys6 i = get_or ([] ∷ (0 ∷ 1 ∷ []) ∷ [] ∷ (1 ∷ []) ∷ (0 ∷ 1 ∷ []) ∷ (1 ∷ []) ∷ (1 ∷ []) ∷ (0 ∷ 1 ∷ []) ∷ [] ∷ []) i []

plan6 : plan 2 keys6 (0 ∷ 1 ∷ 2 ∷ 3 ∷ 4 ∷ 5 ∷ 6 ∷ 7 ∷ 8 ∷ []) (0 ∷ 1 ∷ []) ≡ record {
  forward =
      sent 1 (original 1 ∷ original 4 ∷ original 7 ∷ []) (1 ∷ []) (0 ∷ []) ∷
      [];
  backward =
      sent 1 (original 1 ∷ original 3 ∷ original 7 ∷ original 6 ∷ original 5 ∷ original 4 ∷ []) (0 ∷ []) (1 ∷ []) ∷
      [];
  at_key =
      got [] (0 ∷ []) (0 ∷ 2 ∷ 8 ∷ []) (1 ∷ 3 ∷ 7 ∷ 6 ∷ 5 ∷ 4 ∷ 0 ∷ 2 ∷ 8 ∷ []) [] ∷
      got (0 ∷ []) [] (0 ∷ 2 ∷ 3 ∷ 5 ∷ 6 ∷ 8 ∷ []) (1 ∷ 4 ∷ 7 ∷ 0 ∷ 2 ∷ 3 ∷ 5 ∷ 6 ∷ 8 ∷ []) [] ∷
      [];
}
unfolding plan keys6
plan6 = refl

keys7 : ℕ → List ℕ
keys7 i = get_or ((0 ∷ 1 ∷ 3 ∷ []) ∷ (1 ∷ 2 ∷ []) ∷ [] ∷ (3 ∷ []) ∷ (2 ∷ []) ∷ (0 ∷ []) ∷ (0 ∷ 1 ∷ 3 ∷ []) ∷ (1 ∷ 2 ∷ 3 ∷ []) ∷ (0 ∷ []) ∷ []) i []

plan7 : plan 4 keys7 (0 ∷ 1 ∷ 2 ∷ 3 ∷ 4 ∷ 5 ∷ 6 ∷ 7 ∷ 8 ∷ []) (1 ∷ 2 ∷ 3 ∷ 0 ∷ []) ≡ record {
  forward =
      sent 2 (original 1 ∷ original 4 ∷ original 7 ∷ []) (1 ∷ 3 ∷ []) (2 ∷ []) ∷
      sent 3 (original 0 ∷ closed 0 ∷ original 3 ∷ original 6 ∷ []) (0 ∷ []) (1 ∷ 3 ∷ []) ∷
      [];
  backward =
      sent 3 (original 0 ∷ original 8 ∷ original 7 ∷ original 6 ∷ original 5 ∷ original 4 ∷ original 3 ∷ original 1 ∷ []) (1 ∷ []) (0 ∷ 2 ∷ 3 ∷ []) ∷
      [];
  at_key =
      got (1 ∷ []) [] (2 ∷ 5 ∷ 8 ∷ []) (0 ∷ 3 ∷ 6 ∷ 1 ∷ 4 ∷ 7 ∷ 2 ∷ 5 ∷ 8 ∷ []) [] ∷
      got [] (0 ∷ []) (2 ∷ []) (0 ∷ 8 ∷ 7 ∷ 6 ∷ 5 ∷ 4 ∷ 3 ∷ 1 ∷ 2 ∷ []) [] ∷
      got [] [] (0 ∷ 1 ∷ 2 ∷ 3 ∷ 4 ∷ 5 ∷ 6 ∷ 7 ∷ 8 ∷ []) (0 ∷ 1 ∷ 2 ∷ 3 ∷ 4 ∷ 5 ∷ 6 ∷ 7 ∷ 8 ∷ []) (0 ∷ 1 ∷ 3 ∷ []) ∷
      got (0 ∷ []) [] (0 ∷ 2 ∷ 3 ∷ 5 ∷ 6 ∷ 8 ∷ []) (1 ∷ 4 ∷ 7 ∷ 0 ∷ 2 ∷ 3 ∷ 5 ∷ 6 ∷ 8 ∷ []) (0 ∷ 1 ∷ []) ∷
      [];
}
unfolding plan keys7
plan7 = refl

keys8 : ℕ → List ℕ
keys8 i = get_or ((0 ∷ 1 ∷ []) ∷ (0 ∷ []) ∷ (2 ∷ []) ∷ [] ∷ (0 ∷ 1 ∷ []) ∷ (0 ∷ 1 ∷ 2 ∷ []) ∷ (1 ∷ 2 ∷ []) ∷ []) i []

plan8 : plan 3 keys8 (0 ∷ 2 ∷ 3 ∷ 4 ∷ 5 ∷ []) (0 ∷ 1 ∷ 2 ∷ []) ≡ record {
  forward =
      sent 2 (original 0 ∷ original 5 ∷ original 4 ∷ []) (2 ∷ []) (0 ∷ 1 ∷ []) ∷
      [];
  backward =
      sent 2 (original 0 ∷ original 5 ∷ original 4 ∷ original 2 ∷ []) (0 ∷ []) (1 ∷ 2 ∷ []) ∷
      [];
  at_key =
      got [] (0 ∷ []) (3 ∷ []) (0 ∷ 5 ∷ 4 ∷ 2 ∷ 3 ∷ []) [] ∷
      got [] [] (0 ∷ 2 ∷ 3 ∷ 4 ∷ 5 ∷ []) (0 ∷ 2 ∷ 3 ∷ 4 ∷ 5 ∷ []) (0 ∷ 2 ∷ []) ∷
      got (0 ∷ []) [] (2 ∷ 3 ∷ []) (0 ∷ 5 ∷ 4 ∷ 2 ∷ 3 ∷ []) [] ∷
      [];
}
unfolding plan keys8
plan8 = refl

keys9 : ℕ → List ℕ
keys9 i = get_or ((6 ∷ []) ∷ (3 ∷ []) ∷ (2 ∷ 4 ∷ 6 ∷ []) ∷ (1 ∷ 2 ∷ 7 ∷ []) ∷ (0 ∷ []) ∷ (1 ∷ 3 ∷ 4 ∷ []) ∷ (5 ∷ []) ∷ (1 ∷ 7 ∷ []) ∷ [] ∷ []) i []

plan9 : plan 8 keys9 (0 ∷ 1 ∷ 2 ∷ 3 ∷ 4 ∷ 5 ∷ 6 ∷ 7 ∷ 8 ∷ []) (0 ∷ 3 ∷ 7 ∷ 1 ∷ 4 ∷ 2 ∷ 6 ∷ 5 ∷ []) ≡ record {
  forward =
      sent 1 (original 4 ∷ []) [] (0 ∷ []) ∷
      sent 4 (original 1 ∷ original 5 ∷ []) (1 ∷ 4 ∷ []) (3 ∷ []) ∷
      sent 5 (original 3 ∷ closed 1 ∷ original 7 ∷ []) (2 ∷ 4 ∷ []) (1 ∷ 7 ∷ []) ∷
      sent 6 (original 2 ∷ closed 2 ∷ []) (6 ∷ []) (2 ∷ 4 ∷ []) ∷
      sent 7 (original 0 ∷ closed 3 ∷ []) [] (6 ∷ []) ∷
      [];
  backward =
      sent 1 (original 6 ∷ []) [] (5 ∷ []) ∷
      sent 3 (original 0 ∷ original 2 ∷ []) (2 ∷ 4 ∷ []) (6 ∷ []) ∷
      sent 5 (original 3 ∷ closed 1 ∷ []) (1 ∷ 4 ∷ 7 ∷ []) (2 ∷ []) ∷
      sent 6 (original 7 ∷ closed 2 ∷ original 5 ∷ []) (3 ∷ []) (1 ∷ 4 ∷ 7 ∷ []) ∷
      sent 7 (original 1 ∷ closed 3 ∷ []) [] (3 ∷ []) ∷
      [];
  at_key =
      got [] (0 ∷ 4 ∷ []) (4 ∷ 8 ∷ []) (6 ∷ 1 ∷ 7 ∷ 5 ∷ 3 ∷ 0 ∷ 2 ∷ 4 ∷ 8 ∷ []) [] ∷
      got (0 ∷ []) (0 ∷ 1 ∷ []) (1 ∷ 3 ∷ 5 ∷ 7 ∷ 8 ∷ []) (4 ∷ 6 ∷ 0 ∷ 2 ∷ 1 ∷ 3 ∷ 5 ∷ 7 ∷ 8 ∷ []) (2 ∷ 3 ∷ 4 ∷ 7 ∷ []) ∷
      got (0 ∷ 2 ∷ []) (0 ∷ []) (0 ∷ 2 ∷ 8 ∷ []) (4 ∷ 3 ∷ 7 ∷ 1 ∷ 5 ∷ 6 ∷ 0 ∷ 2 ∷ 8 ∷ []) (4 ∷ 6 ∷ []) ∷
      got (0 ∷ []) (0 ∷ 3 ∷ []) (1 ∷ 8 ∷ []) (4 ∷ 6 ∷ 7 ∷ 5 ∷ 3 ∷ 0 ∷ 2 ∷ 1 ∷ 8 ∷ []) [] ∷
      got (0 ∷ 1 ∷ []) (0 ∷ 1 ∷ []) (3 ∷ 7 ∷ 8 ∷ []) (4 ∷ 1 ∷ 5 ∷ 6 ∷ 0 ∷ 2 ∷ 3 ∷ 7 ∷ 8 ∷ []) (1 ∷ 2 ∷ 7 ∷ []) ∷
      got (0 ∷ 4 ∷ []) [] (6 ∷ 8 ∷ []) (4 ∷ 0 ∷ 2 ∷ 3 ∷ 7 ∷ 1 ∷ 5 ∷ 6 ∷ 8 ∷ []) [] ∷
      got (0 ∷ 3 ∷ []) (0 ∷ []) (0 ∷ 8 ∷ []) (4 ∷ 2 ∷ 3 ∷ 7 ∷ 1 ∷ 5 ∷ 6 ∷ 0 ∷ 8 ∷ []) [] ∷
      got (0 ∷ []) (0 ∷ 2 ∷ []) (1 ∷ 5 ∷ 7 ∷ 8 ∷ []) (4 ∷ 6 ∷ 3 ∷ 0 ∷ 2 ∷ 1 ∷ 5 ∷ 7 ∷ 8 ∷ []) (1 ∷ 3 ∷ 4 ∷ []) ∷
      [];
}
unfolding plan keys9
plan9 = refl

keys10 : ℕ → List ℕ
keys10 i = get_or ((0 ∷ 4 ∷ 5 ∷ []) ∷ (4 ∷ []) ∷ (2 ∷ 4 ∷ []) ∷ (3 ∷ 5 ∷ []) ∷ (0 ∷ 3 ∷ []) ∷ (5 ∷ []) ∷ (1 ∷ 3 ∷ []) ∷ []) i []

plan10 : plan 6 keys10 (0 ∷ 1 ∷ 2 ∷ 3 ∷ 4 ∷ 5 ∷ 6 ∷ []) (0 ∷ 1 ∷ 2 ∷ 3 ∷ 4 ∷ 5 ∷ []) ≡ record {
  forward =
      sent 3 (original 6 ∷ []) (3 ∷ []) (1 ∷ []) ∷
      sent 4 (original 2 ∷ []) (4 ∷ []) (2 ∷ []) ∷
      sent 5 (original 0 ∷ closed 1 ∷ original 1 ∷ original 4 ∷ original 3 ∷ closed 0 ∷ []) (5 ∷ []) (0 ∷ 3 ∷ 4 ∷ []) ∷
      [];
  backward =
      sent 4 (original 2 ∷ []) (4 ∷ []) (2 ∷ []) ∷
      sent 5 (original 0 ∷ closed 0 ∷ original 5 ∷ original 4 ∷ original 3 ∷ original 6 ∷ original 1 ∷ []) (0 ∷ []) (1 ∷ 3 ∷ 4 ∷ 5 ∷ []) ∷
      [];
  at_key =
      got [] (1 ∷ []) [] (0 ∷ 5 ∷ 4 ∷ 3 ∷ 6 ∷ 1 ∷ 2 ∷ []) [] ∷
      got [] (0 ∷ []) (0 ∷ 1 ∷ 3 ∷ 4 ∷ 5 ∷ 6 ∷ []) (2 ∷ 0 ∷ 1 ∷ 3 ∷ 4 ∷ 5 ∷ 6 ∷ []) (0 ∷ 3 ∷ 4 ∷ 5 ∷ []) ∷
      got [] [] (0 ∷ 1 ∷ 2 ∷ 3 ∷ 4 ∷ 5 ∷ 6 ∷ []) (0 ∷ 1 ∷ 2 ∷ 3 ∷ 4 ∷ 5 ∷ 6 ∷ []) (0 ∷ 1 ∷ 3 ∷ 4 ∷ 5 ∷ []) ∷
      got (0 ∷ []) [] (0 ∷ 1 ∷ 2 ∷ 3 ∷ 4 ∷ 5 ∷ []) (6 ∷ 0 ∷ 1 ∷ 2 ∷ 3 ∷ 4 ∷ 5 ∷ []) (0 ∷ 2 ∷ 4 ∷ 5 ∷ []) ∷
      got (0 ∷ 1 ∷ []) [] (0 ∷ 1 ∷ 3 ∷ 4 ∷ 5 ∷ []) (6 ∷ 2 ∷ 0 ∷ 1 ∷ 3 ∷ 4 ∷ 5 ∷ []) (0 ∷ 3 ∷ 5 ∷ []) ∷
      got (2 ∷ []) [] (5 ∷ []) (0 ∷ 1 ∷ 4 ∷ 3 ∷ 6 ∷ 2 ∷ 5 ∷ []) [] ∷
      [];
}
unfolding plan keys10
plan10 = refl

keys11 : ℕ → List ℕ
keys11 i = get_or ((0 ∷ 1 ∷ []) ∷ [] ∷ (0 ∷ 2 ∷ []) ∷ [] ∷ (0 ∷ []) ∷ (0 ∷ 1 ∷ []) ∷ (0 ∷ 1 ∷ []) ∷ []) i []

plan11 : plan 4 keys11 (0 ∷ 1 ∷ 2 ∷ 3 ∷ 4 ∷ 5 ∷ 6 ∷ []) (3 ∷ 0 ∷ 1 ∷ 2 ∷ []) ≡ record {
  forward =
      sent 1 [] [] (3 ∷ []) ∷
      sent 3 (original 0 ∷ original 2 ∷ original 6 ∷ original 5 ∷ original 4 ∷ []) (2 ∷ []) (0 ∷ 1 ∷ []) ∷
      [];
  backward =
      sent 2 (original 0 ∷ original 6 ∷ original 5 ∷ original 2 ∷ []) (0 ∷ []) (1 ∷ 2 ∷ []) ∷
      sent 3 (original 4 ∷ closed 0 ∷ []) [] (0 ∷ []) ∷
      [];
  at_key =
      got (0 ∷ []) (0 ∷ []) (1 ∷ 3 ∷ 4 ∷ []) (0 ∷ 6 ∷ 5 ∷ 2 ∷ 1 ∷ 3 ∷ 4 ∷ []) [] ∷
      got (0 ∷ []) [] (0 ∷ 1 ∷ 2 ∷ 3 ∷ 4 ∷ 5 ∷ 6 ∷ []) (0 ∷ 1 ∷ 2 ∷ 3 ∷ 4 ∷ 5 ∷ 6 ∷ []) (0 ∷ 2 ∷ []) ∷
      got (0 ∷ 1 ∷ []) [] (1 ∷ 3 ∷ []) (0 ∷ 2 ∷ 6 ∷ 5 ∷ 4 ∷ 1 ∷ 3 ∷ []) [] ∷
      got [] (1 ∷ []) (1 ∷ 3 ∷ []) (4 ∷ 0 ∷ 6 ∷ 5 ∷ 2 ∷ 1 ∷ 3 ∷ []) [] ∷
      [];
}
unfolding plan keys11
plan11 = refl
