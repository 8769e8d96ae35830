-- The stages of a run come to what the definition says. Assumes nothing.
use mathlib.Core.Path.{◌≡◌, refl, sym, ap, ◌∙◌, subst}
use mathlib.Core.Bool.{Bool, true, false, not, cond}
use mathlib.Core.List.{List, [], ◌∷◌, ◌++◌, append_assoc}
use Prim.Native.Nat.{ℕ, zero, suc, ◌+◌, ◌*◌, ◌-◌, ◌≤◌, ◌<◌}
use native.Mathlib.Nat.{mul-le-mul}
use native.Mathlib.Omega.{arith}
use lib.Ieee.{Float}
use lib.ListN.{length, get_or, take, drop, length-take}
use lib.Seq.{take_at, drop-drop, get_or-take}
use lib.Dec.{leb}
use borrow.Author.Tests.{leb-true, le-leb}
use Rattle.matrix.specs.Views.{part, splice}
use Rattle.factor.specs.Limits.{max_variables}
use Rattle.workspace.specs.Frames.{work_numbers}
use Rattle.workspace.proofs.Parts.{part-below}
use Rattle.factor.specs.Counting.{every}
use Rattle.factor.specs.Factor.{size_of, lay}
use Rattle.factor.proofs.Counting.{every-at}
use Rattle.graph.specs.Record.{offset, valid}
use Rattle.graph.specs.declared.Graph.{Graph}
use Rattle.graph.specs.declared.refusal.Refusal.{Refusal}
use Rattle.graph.specs.declared.refusal.Refusal.TheVariants.{FactorStoreShort, StoreShort}
use Rattle.graph.proofs.Validity.{valid-variables}
use Rattle.schedule.specs.Count.{each_once}
use Rattle.schedule.specs.Pass.{ClosedFactor, at}
use Rattle.schedule.specs.Plan as schedule
use Rattle.plan.specs.Pass.{messages_of, msg_at}
use Rattle.plan.specs.declared.pass.Pass.{Pass}
use Rattle.plan.proofs.Unions.{at_msg}
use Rattle.plan.specs.Gather.{gathered_of}
use Rattle.plan.specs.Plan.{plan_in, no_gathered, Bounded}
use Rattle.lists.specs.Lists.{message_number, backward_shift}
use Rattle.plan.specs.declared.gather.Gathered as arrays
use Rattle.plan.specs.declared.plan.Plan.{Plan}
use Rattle.plan.specs.Pass as pass
use Rattle.plan.proofs.Sending.{messages-length}
use Rattle.plan.proofs.Stepping.{ready_later}
use Rattle.gaussian.specs.Elimination.{Outcome, pivot, not_finite, message}
use Rattle.messages.specs.Values.{FirstRefusal, values, none, refusal_from, finished_numbers, overlaid}
use Rattle.messages.specs.declared.Undone.{Undone}
use Rattle.std.proofs.Common.{Result, Ok, Err}
use Rattle.messages.specs.Figure.{rows_at, width_at, need_to, need}
use Rattle.messages.proofs.Members.{at_map}
use Rattle.messages.proofs.Rows.{products}
use Rattle.messages.proofs.Slots.{message-rows-most, message-kept, message-few}
use Rattle.messages.proofs.Reading.{values_length}
use Rattle.messages.proofs.Carrying.{stored-stays}
use Rattle.messages.specs.Tables.{Carriable, AllStored, Tables, PlacedTo, Before, keys_length, heads_length, first_key}
use Rattle.messages.specs.Asked.{most_start}
use Rattle.graph.specs.Moments.{start_of}
use Rattle.graph.proofs.Moments.{start_none, start_more}
use Rattle.marginals.specs.Asked.{Findable, PlanCarried, Finds, FindsPlanned}
use Rattle.marginals.specs.Marginals.{marginal_numbers, planned_marginals, missing_from, marginals_in}
use Rattle.marginals.proofs.Rooms.{numbers-most}
use Rattle.marginals.proofs.Gathering.{findable}
use Rattle.factor.proofs.Laying.{lay-lay}
use Rattle.solver.specs.Plan.{plan_along, planned_along}
use Rattle.solver.specs.Plan as spec
use Rattle.solver.specs.declared.Arranged as calls
use Rattle.solver.specs.Run.{RunVerdict, refusal, refuse, first, second, third, carried, checked, figure_of, key_at, run_along, run_verdict}
use Rattle.solver.specs.Stages.{Planned, RunReady, Enough, stores_of, ran, ThirdPlanned, read}
use Rattle.solver.specs.declared.run.Places.{Places}
use Rattle.solver.specs.declared.run.Stopped.{Stopped}
use Rattle.solver.proofs.Answers.{made_of}
use Rattle.solver.proofs.Carriable.{along-runnable}
use Rattle.tables.specs.Heads.{Originals}

-- ---- leaves

pub square : (s : ℕ) → s < 256 → s * s ≤ 65025
square s h = let k : s ≤ 255 = omega arith in mul-le-mul k k

pub no_place : (sizes : List ℕ) → 0 ≡ start_of sizes 0
no_place sizes = sym (start_none sizes)

pub place-next : (sizes : List ℕ) (k sum s : ℕ) → sum ≡ start_of sizes k → s ≡ size_of sizes k → sum + (s + s * s) ≡ start_of sizes (k + 1)
place-next sizes k sum s e es = rw (e, es) (sym (start_more sizes k))

pub numbers-told : (g : Graph) → valid g ≡ true → (sum k : ℕ) → sum ≡ start_of g.sizes k → k ≡ max_variables → (sum ≡ marginal_numbers g) × (sum ≤ 224)
numbers-told g v sum k e ek =
    let t : sum ≡ marginal_numbers g = e ∙ ap (start_of g.sizes) ek in
    (t, omega (arith, numbers-most g v))

pub step-told : (p : Pass) (j : ℕ) → j < p.count → get_or p.steps j 0 ≡ (at (messages_of p) j).step
unfolding msg_at
step-told p j l = sym (ap (λ (m : ClosedFactor). m.step) (at_msg p j l))

-- ---- stage 3

-- the results have room for any graph's marginals
pub with_room : {g : Graph} {at : List arrays.Gathered} {factors messages : List Float} {work : ℕ} {keys heads : List ℕ} {marginals : ℕ}
    → Findable g at factors messages work keys heads marginals
    → (results : ℕ) → 224 ≤ results → Findable g at factors messages work keys heads results
with_room {g} f results h = record { sound = f.sound; long = f.long; held = f.held; asked = f.asked; room = omega (arith, numbers-most g f.sound) }

module _ (g : Graph) (at : List arrays.Gathered) (figure : ℕ) (factors messages : List Float) (keys heads : List ℕ) (marginals : List Float)
    (r : FirstRefusal) (before after : List Float)
    (finds : FindsPlanned g at factors messages keys heads r before after) where
  pub third-refused : (u : Undone) → r ≡ Err u
      → ThirdPlanned g at figure factors messages keys heads marginals (Err (record { why = u.why; stage = 3; key = u.at })) marginals
  unfolding third
  third-refused u e q ga =
      let s : missing_from 0 (planned_marginals g factors q) ≡ Err u = sym (finds q ga).tells ∙ e in
      rw s refl

  pub third-done : (n : ℕ) (t marginals' : List Float) → r ≡ none → n ≡ marginal_numbers g → t ≡ take n after → marginals'
      ≡ t ++ drop n marginals
      → ThirdPlanned g at figure factors messages keys heads marginals (Ok tt) marginals'
  unfolding third
  third-done n t marginals' e en et em q ga =
      let found : Finds (planned_marginals g factors q) (marginal_numbers g) r before after = finds q ga in
      let l : List Float = marginals_in (planned_marginals g factors q) in
      let s : missing_from 0 (planned_marginals g factors q) ≡ none = sym found.tells ∙ e in
      let k : length l ≡ n = found.count e ∙ sym en in
      let el : t ≡ l = et ∙ ap (take n) (found.stand e) ∙ take_at l (drop (length l) before) n k in
      let em' : marginals' ≡ overlaid marginals l = em ∙ ap (λ (x : List Float). x ++ drop n marginals) el
      ∙ ap (λ (i : ℕ). l ++ drop i marginals) (sym k) in
      rw (s, em') refl

-- ---- stores

laid-first : (m l : List Float) → lay m 0 l ≡ overlaid m l
laid-first m l = let e : 0 + length l ≡ length l = omega arith in ap (λ (n : ℕ). l ++ drop n m) e

-- what stands before a list that is laid stays
part_stays : (m l after : List Float) (to a b : ℕ) → after ≡ lay m to l → to + length l ≤ length m → b ≤ to → part after a b ≡ part m a b
part_stays m l after to a b e room h =
    let n : to + length l - to ≡ length l = omega arith in
    let s : lay m to l ≡ splice m to (to + length l) l = append_assoc (take to m) l (drop (to + length l) m)
    ∙ ap (λ (x : List Float). take to m ++ (l ++ x)) (sym (drop-drop (length l) to m) ∙ ap (λ (i : ℕ). drop i (drop to m)) (sym n)) in
    ap (λ (x : List Float). part x a b) (e ∙ s) ∙ part-below m to (to + length l) l (omega arith) room (sym n) a b h

-- ---- the passes

need_to_most : (g : Graph) (ms : List ClosedFactor) → Carriable g ms → (j : ℕ) → j ≤ length ms → need_to g ms j ≤ 2080 * j
unfolding need_to
need_to_most g ms c zero h = omega arith
need_to_most g ms c (suc j) h =
    let small = products (rows_at g ms j) (width_at g ms j) (message-rows-most g ms c j (omega arith)) (message-kept g ms c j (omega arith)).total in
    omega (arith, need_to_most g ms c j (omega arith), small.0, small.1, message-rows-most g ms c j (omega arith))

pub need-most : (g : Graph) (ms : List ClosedFactor) → Carriable g ms → need g ms ≤ 66560
unfolding need
need-most g ms c = omega (arith, need_to_most g ms c (length ms) (omega arith), c.few)

-- where a pass was stopped is one of its messages
pub stop-from : (i : ℕ) (vs : List Outcome) (u : Undone) → refusal_from i vs ≡ Err u → u.at < i + length vs
unfolding refusal_from
stop-from i [] u e = absurd (cc)
stop-from i (pivot ∷ vs) u e = let z : i ≡ u.at = cc in omega arith
stop-from i (not_finite ∷ vs) u e = let z : i ≡ u.at = cc in omega arith
stop-from i (message r a xi w ∷ vs) u e = omega (arith, stop-from (i + 1) vs u e)

pub stop-low : (g : Graph) (factors : List Float) (p : Pass) (u : Undone) → Err u ≡ refusal_from 0 (values g factors (messages_of p)) → u.at < p.count
unfolding values
stop-low g factors p u e =
    omega (
      arith,
      stop-from 0 (values g factors (messages_of p)) u (sym e),
      values_length g factors (messages_of p) (length (messages_of p)),
      messages-length p,
    )

-- what a pass asks for, over tables and stores of these lengths
abbrev Asks : Graph → Pass → (shift start : ℕ) (keys heads : List ℕ) (factors messages work : ℕ) → Type 0
Asks g ps shift start keys heads factors messages work =
    (pass.PassReady max_variables ps × Carriable g (messages_of ps) × (shift ≤ backward_shift) × (start ≤ most_start))
    × ((Tables g keys heads × PlacedTo g (messages_of ps) shift start keys heads (length (messages_of ps)))
    × ((offset g g.count ≤ factors) × (start + need g (messages_of ps) ≤ messages) × (work_numbers ≤ work)))

pass_ready : {g : Graph} {ps : Pass} → Carriable g (messages_of ps) → pass.PassReady g.variables ps
    → pass.PassReady max_variables ps × Carriable g (messages_of ps)
pass_ready {g} {ps} c r = (ready_later g.variables max_variables ps ps.active (valid-variables g c.sound) r, c)

-- what a pass of a plan is placed and carried with
module _ (g : Graph) (p : Plan) (pl : Planned g p (plan_in g.variables p)) where
  pub forwards : pass.PassReady max_variables p.forward × Carriable g (messages_of p.forward)
  unfolding plan_in
  forwards = pass_ready pl.runnable.forward pl.bounded.forward

  pub backwards : pass.PassReady max_variables p.backward × Carriable g (messages_of p.backward)
  unfolding plan_in
  backwards = pass_ready pl.runnable.backward pl.bounded.backward

  pub forward-most : need g (messages_of p.forward) ≤ 66560
  forward-most = need-most g (messages_of p.forward) forwards.1

  -- a refused message has a step
  pub step-forward : (factors : List Float) (u : Undone) → Err u ≡ refusal_from 0 (values g factors (messages_of p.forward))
      → (at (messages_of p.forward) u.at).step < g.variables
  unfolding plan_in
  step-forward factors u e = pl.runnable.forward_steps u.at (omega (arith, stop-low g factors p.forward u e, messages-length p.forward))

  pub step_fits : (factors : List Float) (u : Undone) → Err u ≡ refusal_from 0 (values g factors (messages_of p.backward))
      → (at (messages_of p.backward) u.at).step < g.variables
  unfolding plan_in
  step_fits factors u e = pl.runnable.backward_steps u.at (omega (arith, stop-low g factors p.backward u e, messages-length p.backward))

  -- ---- with their places
  module _ (places : Places) (keys heads : List ℕ) (ready : RunReady g (plan_in g.variables p) places keys heads) where
    forward_need_is : places.forward ≡ need g (messages_of p.forward)
    unfolding plan_in
    forward_need_is = ready.forward_need_is

    figure_is : places.figure ≡ places.forward + need g (messages_of p.backward)
    unfolding plan_in
    figure_is = ready.figure_is

    pub first_asks : (factors messages work marginals : ℕ) → Enough g places.figure factors messages work marginals
        → Asks g p.forward 0 0 keys heads factors messages work
    unfolding plan_in
    first_asks factors messages work marginals enough = (
      (forwards.0, forwards.1, omega arith, omega arith),
      (
        (ready.tables, ready.placed),
        (enough.of_factors, omega (arith, forward_need_is, figure_is, enough.of_messages), enough.of_work),
      ),
    )

    pub second_asks : (factors messages work marginals : ℕ) → Enough g places.figure factors messages work marginals
        → Asks g p.backward backward_shift places.forward keys heads factors messages work
    unfolding plan_in
    second_asks factors messages work marginals enough = (
      (backwards.0, backwards.1, omega arith, omega (arith, forward_need_is, forward-most)),
      ((ready.tables, ready.placed'), (enough.of_factors, omega (arith, figure_is, enough.of_messages), enough.of_work)),
    )

    module _ (factors messages : List Float) (work marginals : ℕ) (enough : Enough g places.figure (length factors) (length messages) work marginals) where
      -- the forward messages end where the backward ones begin
      pub forward-ends : (after : List Float) → AllStored g factors (messages_of p.forward) 0 after
          → places.forward ≡ 0 + length (finished_numbers (values g factors (messages_of p.forward)))
      forward-ends after fw = omega (arith, forward_need_is, fw.long)

      -- the forward messages stand where they stood
      pub forward-stays : (after : List Float) → after ≡ lay messages places.forward (finished_numbers (values g factors (messages_of p.backward)))
          → AllStored g factors (messages_of p.forward) 0 messages
          → AllStored g factors (messages_of p.backward) places.forward after → AllStored g factors (messages_of p.forward) 0 after
      unfolding need
      forward-stays after ea fw bw =
          record {
            each = λ j h.
                stored-stays g factors (messages_of p.forward) 0 messages after j (length (messages_of p.forward)) places.forward h
                (omega (arith, forward_need_is))
                (λ a b l. part_stays messages (finished_numbers (values g factors (messages_of p.backward))) after places.forward a b ea
                (omega (arith, figure_is, enough.of_messages, bw.long)) l) (fw.each j h);
            long = fw.long;
          }

      -- ---- stage 3, where all messages have been made
      module _ (fw : AllStored g factors (messages_of p.forward) 0 messages)
          (bw : AllStored g factors (messages_of p.backward) places.forward messages) where
        -- what a key gathers, in the plan and in the arrays
        gathered_is : (k : ℕ) → k < g.variables → get_or (plan_in g.variables p).at_key k (gathered_of no_gathered) ≡ gathered_of (get_or p.at k no_gathered)
        unfolding plan_in
        gathered_is k l =
            let long : k < length (take g.variables p.at) = omega (
              arith,
              length-take g.variables p.at,
              pl.bounded.long,
              valid-variables g forwards.1.sound,
            ) in
            at_map gathered_of (take g.variables p.at) k no_gathered (gathered_of no_gathered) long
            ∙ ap gathered_of (get_or-take g.variables p.at k no_gathered l)

        pub gatherable : PlanCarried g (plan_in g.variables p) p.at factors messages keys heads
        unfolding plan_in
        gatherable =
            record {
              forward = pl.runnable.forward;
              backward = pl.runnable.backward;
              tables = ready.tables;
              placed = ready.placed;
              placed' = rw (← ready.forward_need_is) ready.placed';
              stored = fw.each;
              stored' = rw (← ready.forward_need_is) bw.each;
              long = omega (arith, pl.bounded.long, valid-variables g forwards.1.sound);
              gathers = refl;
              held = pl.bounded.held;
              settled = λ k l. rw (← gathered_is k l) (pl.runnable.settled k l (gathered_of no_gathered));
              enough = enough.of_factors;
              enough' = omega (arith, forward_need_is, figure_is, enough.of_messages);
            }

        pub third_asks : Findable g p.at factors messages work keys heads marginals
        third_asks = findable g (plan_in g.variables p) p.at factors messages keys heads gatherable work marginals enough.of_work enough.of_marginals

-- ---- the stages in turn

module _ (g : Graph) (key : ℕ → ℕ) (q : schedule.Plan) (figure : ℕ) (factors messages marginals : List Float) where
  abbrev fw : List Outcome
  fw = values g factors q.forward

  abbrev bw : List Outcome
  bw = values g factors q.backward

  pub first-refused : (after : List Float) (u : Undone) (k : ℕ) → Err u ≡ refusal_from 0 fw → after ≡ lay messages 0 (finished_numbers fw)
      → k ≡ key (at q.forward u.at).step → run_verdict (refusal figure u.why 1 k) after marginals ≡ carried g key q figure factors messages marginals
  unfolding carried first
  first-refused after u k e ea es = rw (← e, es, ea, laid-first messages (finished_numbers fw)) refl

  -- the forward pass is through
  module _ (forward-need : ℕ) (after₁ after₂ : List Float) (through : none ≡ refusal_from 0 fw)
      (ea₁ : after₁ ≡ lay messages 0 (finished_numbers fw)) (ea₂ : after₂ ≡ lay after₁ forward-need (finished_numbers bw))
      (eh : forward-need ≡ 0 + length (finished_numbers fw)) where
    both : after₂ ≡ overlaid messages (finished_numbers fw ++ finished_numbers bw)
    both = ea₂ ∙ rw ea₁ (lay-lay messages (finished_numbers fw) 0 (omega arith) (finished_numbers bw) _ eh)
        ∙ laid-first messages (finished_numbers fw ++ finished_numbers bw)

    pub second-refused : (u : Undone) (k : ℕ) → Err u ≡ refusal_from 0 bw → k ≡ key (g.variables - 1 - (at q.backward u.at).step)
        → run_verdict (refusal figure u.why 2 k) after₂ marginals ≡ carried g key q figure factors messages marginals
    unfolding carried first second
    second-refused u k e es = rw (← through, ← e, es, both) refl

    pub third-told : (r : Result (Unit {0}) Stopped) (marginals' : List Float) → none ≡ refusal_from 0 bw → run_verdict (ran figure r) after₂ marginals'
        ≡ third figure after₂ marginals (planned_marginals g factors q) (missing_from 0 (planned_marginals g factors q))
        → run_verdict (ran figure r) after₂ marginals' ≡ carried g key q figure factors messages marginals
    unfolding carried first second
    third-told r marginals' e et = et ∙ rw (← through, ← e, both) refl

-- the lengths of the stores stay
pub enough_later : {g : Graph} {figure factors messages messages' work work' marginals : ℕ} → Enough g figure factors messages work marginals
    → messages' ≡ messages → work' ≡ work → Enough g figure factors messages' work' marginals
enough_later e em ew = rw (em, ew) e

-- ---- the tests of the stores

-- long enough as the test has it, and in numbers
pub enough-told : (g : Graph) (figure factors messages work marginals : ℕ) → stores_of g figure factors messages work marginals ≡ Ok tt
    → Enough g figure factors messages work marginals
unfolding stores_of
enough-told g figure factors messages work marginals e = go (leb (offset g g.count) factors)
    (every (leb figure messages ∷ leb work_numbers work ∷ leb (marginal_numbers g) marginals ∷ [])) refl refl e
  where
    go : (a b : Bool) → leb (offset g g.count) factors ≡ a → every (leb figure messages ∷ leb work_numbers work ∷ leb (marginal_numbers g) marginals ∷ []) ≡ b
        → cond (not a) (Err FactorStoreShort) (cond (not b) (Err StoreShort) (Ok (tt {0}))) ≡ Ok (tt {0})
        → Enough g figure factors messages work marginals
    go true true ea eb z =
        let l : List Bool = leb figure messages ∷ leb work_numbers work ∷ leb (marginal_numbers g) marginals ∷ [] in
        record {
          of_factors = leb-true _ _ ea;
          of_messages = leb-true _ _ (every-at l 0 eb);
          of_work = leb-true _ _ (every-at l 1 eb);
          of_marginals =
              leb-true _ _ (every-at l 2 eb);
        }
    go true false ea eb z = absurd (cc)
    go false b ea eb z = absurd (cc)

-- the test is the definition's
module _ (g : Graph) (key : ℕ → ℕ) (q : schedule.Plan) (figure : ℕ) (factors messages marginals : List Float) (work : ℕ) where
  pub short-checked : (why : Refusal) → stores_of g figure (length factors) (length messages) work (length marginals) ≡ Err why
      → run_verdict (refusal figure why 1 0) messages marginals ≡ checked g key q figure factors messages work marginals
  unfolding stores_of checked
  short-checked why e = go (leb (offset g g.count) (length factors))
      (every (leb figure (length messages) ∷ leb work_numbers work ∷ leb (marginal_numbers g) (length marginals) ∷ [])) e
    where
      go : (a b : Bool) → cond (not a) (Err FactorStoreShort) (cond (not b) (Err StoreShort) (Ok (tt {0}))) ≡ Err why
          → run_verdict (refusal figure why 1 0) messages marginals
          ≡ cond (not a) (refuse figure FactorStoreShort 1 0 messages marginals)
          (cond (not b) (refuse figure StoreShort 1 0 messages marginals) (carried g key q figure factors messages marginals))
      go false b z = let x : why ≡ FactorStoreShort = cc in rw x
      go true false z = let x : why ≡ StoreShort = cc in rw x
      go true true z = absurd (cc)

  pub enough-checked : Enough g figure (length factors) (length messages) work (length marginals) → carried g key q figure factors messages marginals
      ≡ checked g key q figure factors messages work marginals
  unfolding checked every
  enough-checked e =
      rw (
        le-leb (offset g g.count) (length factors) e.of_factors,
        le-leb figure (length messages) e.of_messages,
        le-leb work_numbers work e.of_work,
        le-leb (marginal_numbers g) (length marginals) e.of_marginals,
      ) refl

-- ---- the places of the messages

pub tables-filled : (g : Graph) (keys heads : List ℕ) → length keys ≡ keys_length → length heads ≡ heads_length → Originals g keys heads → Tables g keys heads
tables-filled g keys heads ek eh o = record { long_keys = ek; long_heads = eh; originals = o }

-- the forward messages keep theirs
placed-stays : (g : Graph) (ms : List ClosedFactor) (keys heads keys' heads' : List ℕ) → Carriable g ms → Before backward_shift keys heads keys' heads'
    → PlacedTo g ms 0 0 keys heads (length ms) → PlacedTo g ms 0 0 keys' heads' (length ms)
placed-stays g ms keys heads keys' heads' c b placed j h =
    record {
      head = b.of_heads (message_number 0 j) (omega (arith, c.few)) ∙ (placed j h).head;
      key = λ i l. b.of_keys (first_key 0 j + i) (omega (arith, c.few, message-few g ms c j h)) ∙ (placed j h).key i l;
    }

pub all-ready : (g : Graph) (p : Plan) (forward-need figure : ℕ) (keys heads keys' heads' : List ℕ) → Planned g p (plan_in g.variables p) → forward-need
    ≡ 0 + need g (messages_of p.forward) → figure ≡ forward-need + need g (messages_of p.backward)
    → PlacedTo g (messages_of p.forward) 0 0 keys heads (length (messages_of p.forward)) → Before backward_shift keys heads keys' heads'
    → Tables g keys' heads'
    → PlacedTo g (messages_of p.backward) backward_shift forward-need keys' heads' (length (messages_of p.backward))
    → RunReady g (plan_in g.variables p) (record { forward = forward-need; figure = figure }) keys' heads'
unfolding plan_in
all-ready g p forward-need figure keys heads keys' heads' pl eh ef fw b t bw =
    record {
      tables = t;
      placed = placed-stays g (messages_of p.forward) keys heads keys' heads' pl.runnable.forward b fw;
      placed' = bw;
      forward_need_is = eh ∙ omega arith;
      figure_is = ef;
    }

-- ---- the run

pub made-planned : (r : calls.Arranged) (g : Graph) (order : List ℕ) → read (Ok r) ≡ planned_along g order → Bounded r.keys r.plan
    → Planned g r.plan (plan_along g order)
unfolding read planned_along
made-planned r g order e h =
    let of : (valid g ≡ true) × (each_once g.variables order ≡ true) = made_of g order r e in
    let a : read (Ok r) ≡ spec.made g (plan_along g order) = e ∙ rw (of.0, of.1) refl in
    let b : ◌≡◌ {A = spec.Answer} (record { keys = r.keys; plan = plan_in r.keys r.plan }) (record { keys = g.variables; plan = plan_along g order }) = cc in
    let k : r.keys ≡ g.variables = ap (λ (x : spec.Answer). x.keys) b in
    let q : plan_in r.keys r.plan ≡ plan_along g order = ap (λ (x : spec.Answer). x.plan) b in
    record {
      bounded = subst (λ (n : ℕ). Bounded n r.plan) k h;
      is = ap (λ (n : ℕ). plan_in n r.plan) (sym k) ∙ q;
      runnable = along-runnable g order of.0 of.1;
    }

-- what the arrays hold is what they are said to hold
pub as_held : (g : Graph) (p : Plan) (q : schedule.Plan) → Planned g p q → Planned g p (plan_in g.variables p)
as_held g p q pl = record { bounded = pl.bounded; is = refl; runnable = rw pl.is pl.runnable }

-- the plan is the graph's, and the figure that of its messages
module _ (g : Graph) (order : List ℕ) (p : Plan) (places : Places) (keys heads : List ℕ) (factors messages marginals : List Float) (work : ℕ)
    (o : each_once g.variables order ≡ true) (pl : Planned g p (plan_along g order)) (ready : RunReady g (plan_in g.variables p) places keys heads) where
  pub run-made : (v : RunVerdict) → v ≡ checked g (key_at order) (plan_in g.variables p) places.figure factors messages work marginals → v
      ≡ run_along g order factors messages work marginals
  unfolding run_along figure_of
  run-made v e =
      let f : places.figure ≡ need g (plan_in g.variables p).forward + need g (plan_in g.variables p).backward = omega
      (arith, ready.forward_need_is, ready.figure_is) in
      e ∙ rw (f, pl.is, pl.runnable.forward.sound, o) refl
