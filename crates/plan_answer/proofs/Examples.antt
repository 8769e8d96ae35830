-- P4, P5 and P6 of document 01: the answer of P4's plan, computed. Assumes nothing.
use mathlib.Core.Path.{◌≡◌, refl}
use mathlib.Core.List.{[], ◌∷◌, ◌++◌}
use lib.ListN.{replicate}
use Rattle.schedule.specs.Count.{from, sum_over}
use Rattle.schedule.specs.Pass.{original, closed}
use Rattle.schedule.specs.Plan.{plan}
use Rattle.schedule.proofs.Examples.{p4-keys}
use Rattle.plan_answer.specs.Answer.{padded, set_of, code, message_of, blank_message, message_table, key_plan_of, no_key_plan, key_table, answer_of}
use Rattle.plan_answer.specs.declared.Message.{Message}
use Rattle.plan_answer.specs.declared.Plan.{Plan}

-- the masks 1 and 2 are the keys 0 and 1, and as sets of messages 1 is the message 0
pub p4-answer : ◌≡◌ {A = Plan} (answer_of (plan 2 p4-keys (from 0 4) (0 ∷ 1 ∷ []))) (record {
  forward = record { step = 1; content = (0 ∷ 3 ∷ 2 ∷ 1 ∷ []) ++ replicate 92 0; slots = 4; kept = 2; cleared = 1 } ∷ replicate 31 blank_message;
  forwards = 1;
  backward = record { step = 1; content = 3 ∷ replicate 95 0; slots = 1; kept = 1; cleared = 2 } ∷ replicate 31 blank_message;
  backwards = 1;
  at =
      record { forward = 0; backward = 1; leaves = (3 ∷ 0 ∷ 1 ∷ 2 ∷ []) ++ replicate 60 0; covered = 1; count = 4; last = 0 }
      ∷ record { forward = 1; backward = 0; leaves = (0 ∷ 3 ∷ 2 ∷ 1 ∷ []) ++ replicate 60 0; covered = 4; count = 4; last = 0 }
      ∷ replicate 30 no_key_plan;
})
unfolding answer_of message_table key_table padded message_of key_plan_of code set_of sum_over plan
p4-answer = refl

-- a message in a content has the number of its place, after the 64 of the originals
pub content-message : ◌≡◌ {A = Message} (message_of (record { step = 3; content = original 0 ∷ closed 0 ∷ []; kept = 3 ∷ []; cleared = 0 ∷ 2 ∷ [] }))
    (record { step = 3; content = (0 ∷ 64 ∷ []) ++ replicate 94 0; slots = 2; kept = 8; cleared = 5 })
unfolding message_of padded code set_of sum_over
content-message = refl

-- the plan of no keys, which a refused call answers, is all zeros
pub no_plan_lem : answer_of (record { forward = []; backward = []; at_key = [] })
    ≡ record { forward = replicate 32 blank_message; forwards = 0; backward = replicate 32 blank_message; backwards = 0; at = replicate 32 no_key_plan }
unfolding answer_of message_table key_table padded
no_plan_lem = refl
