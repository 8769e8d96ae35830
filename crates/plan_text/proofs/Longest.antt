-- How long the text of a plan can be, so that a caller can lend a buffer that is never too short. Assumes nothing.
use Prim.Native.Nat.{ℕ, zero, suc, ◌+◌, ◌-◌, ◌*◌, ◌^◌, ◌≤◌, ◌<◌}
use mathlib.Core.Path.{◌≡◌, refl, sym, ap, ◌∙◌}
use mathlib.Core.Bool.{Bool, true, false}
use mathlib.Core.List.{List, [], ◌∷◌, ◌++◌, map}
use native.Mathlib.Omega.{arith}
use native.Mathlib.Numerals.{add-one}
use borrow.Author.Tests.{ltb-true, ltb-false}
use lib.Dec.{ltb}
use Rattle.std.specs.Prelude.{Result, Ok, Err, IfOk}
use lib.ListN.{length, get_or, take, drop, length-append, length-map}
use Rattle.factor.specs.Limits.{max_variables, max_factors}
use Rattle.graph.specs.Record.{valid}
use Rattle.graph.specs.Refusals.{refusal_number}
use Rattle.graph.specs.declared.Graph.{Graph}
use Rattle.graph.specs.declared.refusal.Refusal.{Refusal}
use Rattle.graph.proofs.Numbers.{number-most}
use Rattle.graph.proofs.Validity.{valid-variables}
use Rattle.schedule.specs.Count.{joined, put_if, from, rising_where}
use Rattle.schedule.specs.Pass.{ClosedFactor, at}
use Rattle.schedule.proofs.Sums.{length_from}
use Rattle.plan.specs.Limits.{pass_slots}
use Rattle.plan.specs.Mask.{has, keys_in}
use Rattle.plan.specs.Pass.{pass_slot, msg_at, messages_of, Codes, PassReady}
use Rattle.plan.specs.Gather.{Items, Held, gathered_of}
use Rattle.plan.specs.Plan.{no_gathered, Bounded, plan_in}
use Rattle.plan.specs.declared.pass.Pass.{Pass}
use Rattle.plan.specs.declared.gather.Gathered.{Gathered}
use Rattle.plan.specs.declared.plan.Plan.{Plan}
use Rattle.plan.proofs.Stepping.{ready_later}
use Rattle.plan.proofs.Unions.{slot_low, slot_high, at_msg, joined-zero}
use Rattle.solver.specs.Plan.{Answer, planned, plan_along, planned_along}
use Rattle.solver.specs.Plan as plans
use Rattle.solver.proofs.Answers.{made_of}
use Rattle.solver.proofs.Carriable.{along-runnable}
use Rattle.solver.proofs.Rising.{rising-plan}
use Rattle.solver.specs.declared.Arranged.{Arranged}
use Rattle.text.specs.Decimals.{space, field_text}
use Rattle.lines.specs.Lines.{refusal_text, written, laid_in}
use Rattle.lines.specs.declared.TooShort.{TooShort}
use Rattle.lines.proofs.Longest.{refusal-most}
use Rattle.text.proofs.Decimals.{few_digits, field_length}
use Rattle.plan_text.specs.Lent.{Shows}
use Rattle.plan_text.specs.Shown.{text_room, made_text}
use Rattle.plan_text.specs.Text.{forward_word, backward_word, key_word, step_word, content_word, kept_word, cleared_word, originals_word, leaves_word}
use Rattle.plan_text.specs.Text.{last_word, slot_text, named_text, list_text, content_text, message_text, key_text, numbered, plan_text}
use Rattle.plan_text.proofs.Growing.{joined-nil, joined-one, joined-map, member-more, part_none, part-more, given-none, given-more, taken_none}
use Rattle.plan_text.proofs.Growing.{taken_more}
use Rattle.solver.specs.Stages.{read}

-- a text that grows by a piece a turn
grown_most : (t s : ℕ → List ℕ) (most n : ℕ) → [] ≡ t 0 → ((k : ℕ) → k < n → t k ++ s k ≡ t (k + 1)) → ((k : ℕ) → k < n → length (s k) ≤ most)
    → length (t n) ≤ most * n
grown_most t s most zero e more few = omega (arith, ap length e)
grown_most t s most (suc n) e more few =
    omega (
      arith,
      ap length (more n (omega arith)),
      length-append (t n) (s n),
      few n (omega arith),
      grown_most t s most n e (λ k l. more k (omega arith)) (λ k l. few k (omega arith)),
      ap (λ (k : ℕ). length (t k)) (add-one n),
    )

-- ---- the parts of a line

-- a number of two digits behind a space
field_most : (x : ℕ) → x < 100 → length (field_text x) ≤ 3
field_most x l = omega (arith, field_length x, few_digits 1 x (omega arith))

slot_most : (s : ℕ) → s < pass_slots → length (slot_text (pass_slot s)) ≤ 4
unfolding slot_text
slot_most s l = by (ltb s max_factors) refl
  where
    by : (b : Bool) → ltb s max_factors ≡ b → length (slot_text (pass_slot s)) ≤ 4
    by true e = rw (slot_low s (ltb-true s max_factors e)) (omega (arith, field_most s (omega arith)))
    by false e = rw (slot_high s (ltb-false s max_factors e)) (omega (arith, few_digits 1 (s - max_factors) (omega arith)))

-- entries of an array, from one place to another
part-most : (f : ℕ → List ℕ) (l : List ℕ) (most a b : ℕ) → a ≤ b → b ≤ length l → ((i : ℕ) → i < b → length (f (get_or l i 0)) ≤ most)
    → length (joined f (drop a (take b l))) ≤ most * (b - a)
part-most f l most a b o h few =
    let e : a + (b - a) ≡ b = omega arith in
    let z : a ≡ a + 0 = omega arith in
    rw e at (grown_most (λ k. joined f (drop a (take (a + k) l))) (λ k. f (get_or l (a + k) 0)) most (b - a)
    (part_none f l a ∙ ap (λ (k : ℕ). joined f (drop a (take k l))) z)
    (λ k i. let y : a + k + 1 ≡ a + (k + 1) = omega arith in part-more f l a (a + k) (omega arith) (omega arith)
    ∙ ap (λ (j : ℕ). joined f (drop a (take j l))) y)
    (λ k i. few (a + k) (omega arith)))

member-most : (b : Bool) (k : ℕ) → k < 100 → length (joined field_text (put_if b k [])) ≤ 3
member-most true k l = rw (joined-one field_text k) (field_most k l)
member-most false k l = rw (joined-nil field_text) (omega arith)

set-most : (word : List ℕ) (set : ℕ) → length (list_text word (keys_in set)) ≤ length word + 3 * max_variables
unfolding list_text keys_in
set-most word set =
    omega (
      arith,
      length-append word (joined field_text (rising_where max_variables (λ i. has i set))),
      grown_most (λ k. joined field_text (rising_where k (λ i. has i set))) (λ k. joined field_text (put_if (has k set) k [])) 3 max_variables
          (sym (joined-zero field_text (λ i. has i set))) (λ k l. member-more field_text (λ i. has i set) k) (λ k l. member-most (has k set) k (omega arith)),
    )

named-most : (word : List ℕ) (x : ℕ) → x < 100 → length (named_text word x) ≤ length word + 3
unfolding named_text
named-most word x l = omega (arith, length-append word (field_text x), field_most x l)

items-most : (word items : List ℕ) (a b : ℕ) → a ≤ b → Items b items → length (list_text word (drop a (take b items))) ≤ length word + 192
unfolding list_text
items-most word items a b o h =
    omega (
      arith,
      length-append word (joined field_text (drop a (take b items))),
      h.few,
      part-most field_text items 3 a b o (omega (arith, h.few, h.long)) (λ i l. field_most (get_or items i 0) (omega (arith, h.low i l))),
    )

content-most : (content : List ℕ) (a b used : ℕ) → a ≤ b → b ≤ used → Codes used content → length (content_text (map pass_slot (drop a (take b content)))) ≤ 392
unfolding content_text
content-most content a b used o u h =
    let e = joined-map slot_text pass_slot (drop a (take b content)) in
    omega (
      arith,
      length-append content_word (joined slot_text (map pass_slot (drop a (take b content)))),
      ap length e,
      h.few,
      part-most (λ s. slot_text (pass_slot s)) content 4 a b o (omega (arith, h.few, h.long)) (λ i l. slot_most (get_or content i 0) (h.low i (omega arith))),
    )

-- ---- the lines

-- the steps of a pass are those of its keys
abbrev pub LowSteps : Pass → Type 0
LowSteps p = (j : ℕ) → j < p.count → get_or p.steps j 0 < 100

message-most : (name : List ℕ) (p : Pass) (j : ℕ) → length name ≤ 8 → PassReady max_variables p → LowSteps p → j < p.count
    → length (message_text name j (msg_at p j)) ≤ 617
unfolding message_text msg_at
message-most name p j few ready low l =
    simp length-append (omega (
      arith,
      named-most name j (omega (arith, ready.few)),
      named-most step_word (get_or p.steps j 0) (low j l),
      content-most p.board.content (get_or p.starts j 0) (get_or p.ends j 0) p.board.filled (ready.ordered j l) (ready.closed j l)
          ready.room.contents,
      set-most kept_word (get_or (drop max_factors p.masks) j 0),
      set-most cleared_word (get_or p.cleared j 0),
    ))

pass_most : (name : List ℕ) (p : Pass) → length name ≤ 8 → PassReady max_variables p → LowSteps p
    → length (numbered (message_text name) 0 (messages_of p)) ≤ 617 * p.count
unfolding messages_of
pass_most name p few ready low =
    grown_most (λ j. numbered (message_text name) 0 (map (msg_at p) (from 0 j))) (λ j. message_text name j (msg_at p j)) 617 p.count
    (given-none (message_text name) (msg_at p)) (λ j l. given-more (message_text name) (msg_at p) j) (λ j l. message-most name p j few ready low l)

key-most : (k : ℕ) (q : Gathered) → k < max_variables → Held q → length (key_text k (gathered_of q)) ≤ 718
unfolding key_text gathered_of
key-most k q l held =
    simp length-append (omega (
      arith,
      named-most key_word k (omega arith),
      set-most (space ∷ forward_word) q.forward,
      set-most (space ∷ backward_word) q.backward,
      items-most originals_word q.items q.covered q.count held.covered held.items,
      items-most leaves_word q.items 0 q.count (omega arith) held.items,
      set-most last_word q.last,
    ))

keys-most : (n : ℕ) (p : Plan) → n ≤ max_variables → Bounded n p → length (numbered key_text 0 (map gathered_of (take n p.at))) ≤ 718 * n
keys-most n p few b =
    grown_most (λ k. numbered key_text 0 (map gathered_of (take k p.at))) (λ k. key_text k (gathered_of (get_or p.at k no_gathered))) 718 n
    (taken_none key_text gathered_of p.at) (λ k l. taken_more key_text gathered_of p.at k no_gathered (omega (arith, b.long)))
    (λ k l. key-most k (get_or p.at k no_gathered) (omega arith) (b.held k l))

-- 32 messages a pass and 32 keys
pub plan-most : (n : ℕ) (p : Plan) → n ≤ max_variables → Bounded n p → LowSteps p.forward → LowSteps p.backward
    → length (plan_text (plan_in n p)) ≤ text_room
unfolding plan_text plan_in
plan-most n p few b fw bw =
    let f : PassReady max_variables p.forward = ready_later n max_variables p.forward p.forward.active few b.forward in
    let g : PassReady max_variables p.backward = ready_later n max_variables p.backward p.backward.active few b.backward in
    simp length-append (omega (
      arith,
      f.few,
      g.few,
      pass_most forward_word p.forward (omega arith) f fw,
      pass_most backward_word p.backward (omega arith) g bw,
      keys-most n p few b,
    ))

-- ---- the plan of a graph

low-steps : (p : Pass) (ms : List ClosedFactor) (most : ℕ) → messages_of p ≡ ms → most ≤ max_variables
    → ((j : ℕ) → j < length ms → (at ms j).step < most) → LowSteps p
unfolding msg_at messages_of
low-steps p ms most e few low j l =
    let n : length ms ≡ p.count = sym (ap length e) ∙ length-map (from 0 p.count) (msg_at p) ∙ length_from 0 p.count in
    let s : (at ms j).step ≡ get_or p.steps j 0 = sym (ap (λ x. (at x j).step) e) ∙ ap (λ (m : ClosedFactor). m.step) (at_msg p j l) in
    omega (arith, low j (omega arith))

-- what an arranging answers
abbrev Holds : Result Arranged Refusal → Type 0
Holds made = IfOk made (λ a. (a.keys ≤ max_variables) × Bounded a.keys a.plan)

same_answer : (x y : Answer) → ◌≡◌ {A = Result Answer Refusal} (Ok x) (Ok y) → x ≡ y
same_answer x y e = cc

arranged_most : (g : Graph) (order : List ℕ) (made : Arranged) → read (Ok made) ≡ planned_along g order → Bounded made.keys made.plan
    → length (plan_text (plan_in made.keys made.plan)) ≤ text_room
unfolding read plan_in planned_along
arranged_most g order made is b =
    let n = g.variables in
    let of = made_of g order made is in
    let few : n ≤ max_variables = valid-variables g of.0 in
    let a : _ ≡ _ = same_answer (record { keys = made.keys; plan = plan_in made.keys made.plan }) (record { keys = n; plan = plan_along g order })
    (is ∙ rw (of.0, of.1) refl) in
    let k : made.keys ≡ n = ap (λ (x : Answer). x.keys) a in
    let can = along-runnable g order of.0 of.1 in
    plan-most made.keys made.plan (omega arith) b
    (low-steps made.plan.forward _ n (ap (λ (x : Answer). x.plan.forward) a) few can.forward_steps)
    (low-steps made.plan.backward _ n (ap (λ (x : Answer). x.plan.backward) a) few can.backward_steps)

pub refusal-within : (why : Refusal) (stage place : ℕ) → stage < 2 ^ 64 → place < 2 ^ 64 → length (refusal_text (refusal_number why) stage place) ≤ text_room
refusal-within why stage place k l = omega (arith, refusal-most (refusal_number why) stage place (omega (arith, number-most why)) k l)

-- made or refused
along-most : (g : Graph) (order : List ℕ) (r : Result Arranged Refusal) → read r ≡ planned_along g order → Holds r → length (made_text (read r)) ≤ text_room
unfolding read
along-most g order (Ok made) is b = arranged_most g order made is b.1
along-most g order (Err why) is b = refusal-within why 1 0 (omega arith) (omega arith)

-- ---- what is laid

-- an equal text is laid alike, and is as long
pub shows_same : (s t out after : List ℕ) (r : Result ℕ TooShort) → s ≡ t → Shows s out after r → Shows t out after r
shows_same s t out after r e p = rw e at p

-- the text of a plan that was asked for, or of its refusal
module _ (g : Graph) (made : Result Arranged Refusal) (held : Holds made) (out after : List ℕ) (r : Result ℕ TooShort) (value : r ≡ written out (made_text (read made)))
    (left : after ≡ laid_in out (made_text (read made))) where
  pub along-shows : (order : List ℕ) → read made ≡ planned_along g order → Shows (made_text (planned_along g order)) out after r
  along-shows order is =
      shows_same _ _ out after r (ap made_text is) (record { value = value; out_after = left; within = along-most g order made is held })

  pub rising-shows : read made ≡ planned g → Shows (made_text (planned g)) out after r
  rising-shows is = shows_same _ _ out after r (ap made_text (rising-plan g)) (along-shows (from 0 g.variables) (is ∙ sym (rising-plan g)))
