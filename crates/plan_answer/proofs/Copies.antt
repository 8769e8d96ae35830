-- What is copied out of the arrays is the definition's. Assumes nothing.
use mathlib.Core.Path.{◌≡◌, refl, sym, ap, ◌∙◌}
use mathlib.Core.Bool.{Bool, true, false}
use mathlib.Core.List.{List, [], ◌∷◌, ◌++◌, map}
use Prim.Native.Nat.{ℕ, ◌+◌, ◌-◌, ◌^◌, ◌≤◌, ◌<◌}
use native.Mathlib.Omega.{arith}
use borrow.Author.Tests.{ltb-false}
use lib.Dec.{ltb}
use lib.ListN.{length, get_or, take, drop, replicate, length-map, length-drop, get_or-map}
use lib.Seq.{get_or-drop, get_or-take, length-take-le, length-slice}
use Rattle.factor.specs.Limits.{max_variables, max_factors}
use Rattle.schedule.specs.Pass.{at}
use Rattle.plan.specs.Limits.{pass_slots}
use Rattle.plan.specs.Pass.{pick_slot, pass_slot, msg_at, messages_of, PassReady}
use Rattle.plan.specs.Gather.{gathered_of, Held}
use Rattle.plan.specs.Plan.{plan_in, no_gathered}
use Rattle.plan.specs.declared.pass.Pass.{Pass}
use Rattle.plan.specs.declared.gather.Gathered.{Gathered}
use Rattle.plan.specs.declared.plan.Plan as arrays
use Rattle.plan.proofs.Prefixes.{part-is}
use Rattle.plan.proofs.Unions.{at_msg}
use Rattle.plan.proofs.Sending.{messages-length}
use Rattle.plan_answer.specs.Answer as spec
use Rattle.plan_answer.specs.Answer.{code, message_of, key_plan_of, answer_of}
use Rattle.plan_answer.specs.declared.Message.{Message}
use Rattle.plan_answer.specs.declared.KeyPlan.{KeyPlan}
use Rattle.plan_answer.specs.declared.Plan.{Plan}
use Rattle.plan_answer.proofs.Filling.{padded-is}
use Rattle.plan_answer.proofs.Members.{set_members}

-- a slot's number is the one that the arrays have for it
code_slot : (x : ℕ) → code (pass_slot x) ≡ x
unfolding code pass_slot
code_slot x = go (ltb x max_factors) refl
  where
    go : (b : Bool) → ltb x max_factors ≡ b → code (pick_slot b x) ≡ x
    go true e = refl
    go false e = omega (arith, ltb-false x max_factors e)

codes : (l : List ℕ) → map code (map pass_slot l) ≡ l
codes [] = refl
codes (x ∷ l) = rw (code_slot x, codes l) refl

-- the message j of a pass, from its laid content and its masks
pub message-is : (p : Pass) (j : ℕ) → PassReady max_variables p → j < p.count
    → get_or p.masks (max_factors + j) 0 < 2 ^ 32 → get_or p.cleared j 0 < 2 ^ 32
    → ◌≡◌ {A = Message} (record {
      step = get_or p.steps j 0;
      content = take (get_or p.ends j 0 - get_or p.starts j 0) (drop (get_or p.starts j 0) p.board.content)
          ++ drop (get_or p.ends j 0 - get_or p.starts j 0) (replicate pass_slots 0);
      slots = get_or p.ends j 0 - get_or p.starts j 0;
      kept = get_or p.masks (max_factors + j) 0;
      cleared = get_or p.cleared j 0;
    }) (message_of (at (messages_of p) j))
unfolding message_of msg_at
message-is p j ready h hk hc =
    let a = get_or p.starts j 0 in
    let b = get_or p.ends j 0 in
    let l = drop a (take b p.board.content) in
    let n : length l ≡ b - a = length-slice a b p.board.content
    (omega (arith, ready.closed j h, ready.room.contents.few, ready.room.contents.long)) in
    rw (
      at_msg p j h,
      part-is a b p.board.content (ready.ordered j h),
      padded-is 0 pass_slots (b - a) l n,
      codes l,
      length-map l pass_slot,
      n,
      get_or-drop max_factors p.masks j 0,
      set_members (get_or p.masks (max_factors + j) 0) hk,
      set_members (get_or p.cleared j 0) hc,
    )

-- what a key gathers, from its laid leaves
pub key-plan-is : (q : Gathered) → Held q → q.forward < 2 ^ 32 → q.backward < 2 ^ 32 → q.last < 2 ^ 32
    → ◌≡◌ {A = KeyPlan} (record {
      forward = q.forward;
      backward = q.backward;
      leaves = take q.count q.items ++ drop q.count (replicate max_factors 0);
      covered = q.covered;
      count = q.count;
      last = q.last;
    }) (key_plan_of (gathered_of q))
unfolding key_plan_of gathered_of
key-plan-is q held f b l =
    let all = take q.count q.items in
    let n : length all ≡ q.count = length-take-le q.count q.items (omega (arith, held.items.few, held.items.long)) in
    let m : length all - length (drop q.covered all) ≡ q.covered = omega (arith, length-drop q.covered all, held.covered) in
    rw (padded-is 0 max_factors q.count all n, m, n, set_members q.forward f, set_members q.backward b, set_members q.last l)

-- what the first n keys gather
pub keys_length : (at : List Gathered) (n : ℕ) → n ≤ length at → length (map gathered_of (take n at)) ≡ n
keys_length at n h = length-map (take n at) gathered_of ∙ length-take-le n at h

pub key-at : (at : List Gathered) (n k : ℕ) → k < n → gathered_of (get_or at k no_gathered) ≡ get_or (map gathered_of (take n at)) k (gathered_of no_gathered)
key-at at n k h = ap gathered_of (sym (get_or-take n at k no_gathered h)) ∙ sym (get_or-map gathered_of (take n at) k no_gathered)

-- the whole plan, from the tables of both passes and of the keys
pub answer-is : (n : ℕ) (p : arrays.Plan) (forward backward : List Message) (at : List KeyPlan)
    → forward ≡ spec.message_table (messages_of p.forward) → backward ≡ spec.message_table (messages_of p.backward) → at
    ≡ spec.key_table (map gathered_of (take n p.at))
    → ◌≡◌ {A = Plan} (record { forward = forward; forwards = p.forward.count; backward = backward; backwards = p.backward.count; at = at })
    (answer_of (plan_in n p))
unfolding answer_of plan_in
answer-is n p forward backward at ef eb ea = rw (ef, eb, ea, messages-length p.forward, messages-length p.backward)
