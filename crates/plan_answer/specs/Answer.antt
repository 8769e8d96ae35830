-- The plan as it is told: the plan over lists, in a struct of arrays of fixed length. Definitions only.
use Rattle.std.specs.Prelude.{List, ◌++◌, map, ℕ, ◌+◌, ◌-◌, ◌^◌, length, replicate}
use Rattle.factor.specs.Limits.{max_variables, max_factors}
use Rattle.schedule.specs.Count.{sum_over}
use Rattle.schedule.specs.Pass.{Slot, original, closed, ClosedFactor}
use Rattle.schedule.specs.Gather.{Gathered}
use Rattle.schedule.specs.Plan as schedule
use Rattle.plan_answer.specs.declared.Message.{Message}
use Rattle.plan_answer.specs.declared.KeyPlan.{KeyPlan}
use Rattle.plan_answer.specs.declared.Plan.{Plan}

-- a list, and after it blank places up to n
unfoldable pub padded : {A : Type 0} (blank : A) (n : ℕ) → List A → List A
padded blank n l = l ++ replicate (n - length l) blank

-- a set of numbers, none twice, as a mask: the bit j for the member j
unfoldable pub set_of : List ℕ → ℕ
set_of l = sum_over (λ j. 2 ^ j) l

-- a slot's number: an original has its own, the messages of the pass follow the originals
unfoldable pub code : Slot → ℕ
code (original i) = i
code (closed j) = max_factors + j

-- how many slots a pass has at most
abbrev pub pass_places : ℕ
pass_places = max_factors + max_variables

-- ---- messages

-- the slots of the content by their numbers, the kept and the cleared keys as sets
unfoldable pub message_of : ClosedFactor → Message
message_of m = record {
  step = m.step;
  content = padded 0 pass_places (map code m.content);
  slots = length m.content;
  kept = set_of m.kept;
  cleared = set_of m.cleared;
}

-- what an unused place holds
abbrev pub blank_message : Message
blank_message = record { step = 0; content = replicate pass_places 0; slots = 0; kept = 0; cleared = 0 }

-- the messages of a pass in their order
unfoldable pub message_table : List ClosedFactor → List Message
message_table messages = padded blank_message max_variables (map message_of messages)

-- ---- keys

-- The originals gathered are the last of the leaves, those before them are covered by the messages gathered.
unfoldable pub key_plan_of : Gathered → KeyPlan
key_plan_of q = record {
  forward = set_of q.forward;
  backward = set_of q.backward;
  leaves = padded 0 max_factors q.leaves;
  covered = length q.leaves - length q.originals;
  count = length q.leaves;
  last = set_of q.last;
}

-- what an unused place holds
abbrev pub no_key_plan : KeyPlan
no_key_plan = record { forward = 0; backward = 0; leaves = replicate max_factors 0; covered = 0; count = 0; last = 0 }

-- what each key gathers, keys rising
unfoldable pub key_table : List Gathered → List KeyPlan
key_table keys = padded no_key_plan max_variables (map key_plan_of keys)

-- ---- the whole

unfoldable pub answer_of : schedule.Plan → Plan
answer_of p = record {
  forward = message_table p.forward;
  forwards = length p.forward;
  backward = message_table p.backward;
  backwards = length p.backward;
  at = key_table p.at_key;
}
