-- `messages::carry_pass` meets its contract. The loop's invariant, `Carrying`: the messages passed are made and stored; a refused one ends the list
-- of values. Assumes nothing.
use mathlib.Core.Path.{◌≡◌, refl, ap, ◌∙◌}
use Prim.Native.Nat.{◌+◌, ◌*◌, ◌≤◌, ◌<◌}
use lib.ListN.{length}
use Rattle.factor.specs.Limits.{max_variables}
use Rattle.plan.specs.Pass.{messages_of}
use Rattle.plan.proofs.Sending.{messages-length}
use Rattle.messages.specs.Figure.{rows_at, width_at}
use Rattle.messages.specs.Values.{refused_at}
use Rattle.messages.proofs.Telling.{carried-tells}
use Rattle.messages.proofs.Carrying.{carrying_none, asked_lists, roomy_lists, carrying_more, refused_for, carried, head-tells, next-told}
use native.Mathlib.Omega.{arith}
use borrow.Author.Rules.{rules}
use Rattle.messages.proofs.carry_pass.Goals as goal
use Rattle.messages.proofs.carry_pass.Goals.{After-head_at-h}

pub loop-j-init : goal.loop-j-init
loop-j-init c =
    let args = c.args in
    (carrying_none args.g args.factors.now (messages_of args.p) args.start args.messages.now (omega arith), refl, omega arith)

-- what the head of the message tells
module _ (c : After-head_at-h) where
  low : c.loop-j.j < length (messages_of c.args.p)
  low = omega (arith, messages-length c.args.p, c.loop-j-test.true)

  sized : length c.args.g.sizes ≡ max_variables
  sized = search rules

  few : c.loop-j.j < max_variables
  few = omega (arith, low, c.requires.pass_ready.1.few)

  told : (c.head_at-h.result.rows ≡ rows_at c.args.g (messages_of c.args.p) c.loop-j.j)
      × (c.head_at-h.result.width ≡ width_at c.args.g (messages_of c.args.p) c.loop-j.j)
      × (c.head_at-h.result.rows ≤ 32) × (c.head_at-h.result.width ≤ 32)
      × (c.head_at-h.result.rows * c.head_at-h.result.width ≤ 1024) × (c.head_at-h.result.rows * c.head_at-h.result.rows ≤ 1024)
  told =
      head-tells c.args.g (messages_of c.args.p) c.requires.pass_ready.1 c.args.shift c.args.start c.loop-j.j c.args.tables.keys.now c.args.tables.heads.now _ low
      c.requires.tables.1 c.head_at-h.ensures

  -- where the next message begins is a machine word
  small : c.loop-j.to + (c.head_at-h.result.rows * c.head_at-h.result.width + c.head_at-h.result.rows + c.head_at-h.result.rows * c.head_at-h.result.rows)
      ≤ c.args.start + 2080 * (c.loop-j.j + 1)
  small = omega (arith, told.2, told.4, told.5, c.loop-j.invariant.2)

  within : c.args.start + 2080 * (c.loop-j.j + 1) ≤ 1000000
  within = omega (arith, few, c.requires.pass_ready.3)

pub eliminate_slots-requires : goal.eliminate_slots-requires
eliminate_slots-requires c =
    let args = c.args in
    let loop = c.loop-j in
    let h = (goal.at.eliminate_slots-requires c).After-head_at-h in
    record {
      asked = asked_lists args.g args.factors.now (messages_of args.p) c.requires.pass_ready.1 args.shift args.start args.tables.keys.now args.tables.heads.now
          args.messages.now loop.messages loop.to loop.j (length loop.work) c.requires.pass_ready.2 (low h) c.requires.tables.0 c.requires.tables.1 (sized h)
          c.requires.count_in_bounds.0 c.requires.count_in_bounds.1 (omega (arith, c.requires.count_in_bounds.2, loop.invariant.1)) loop.invariant.0 _
          c.message_lists-l.ensures;
      roomy = roomy_lists args.g args.factors.now (messages_of args.p) c.requires.pass_ready.1 args.shift args.start args.tables.keys.now args.tables.heads.now
          args.messages.now loop.messages loop.to loop.j (length loop.work) c.requires.pass_ready.2 (low h) c.requires.tables.0 c.requires.tables.1 (sized h)
          c.requires.count_in_bounds.0 c.requires.count_in_bounds.1 (omega (arith, c.requires.count_in_bounds.2, loop.invariant.1)) loop.invariant.0 _
          c.message_lists-l.ensures;
    }

pub returns-in-Err : goal.returns-in-Err
returns-in-Err c =
    let args = c.args in
    let loop = c.loop-j in
    let h = (goal.at.returns-in-Err c).After-head_at-h in
    let r = refused_for args.g args.factors.now (messages_of args.p) c.requires.pass_ready.1 args.shift args.start args.tables.keys.now
    args.tables.heads.now args.messages.now loop.messages loop.to loop.j (length loop.work) c.requires.pass_ready.2 (low h) c.requires.tables.0 c.requires.tables.1
    (sized h) c.requires.count_in_bounds.0 c.requires.count_in_bounds.1 (omega (arith, c.requires.count_in_bounds.2, loop.invariant.1)) loop.invariant.0 _
    c.message_lists-l.ensures _ _ c.eliminate_slots.ensures.value c.eliminate_slots.ensures.messages_after c.in-Err.fault c.in-Err.is in
    let e = ap (refused_at loop.j) c.refusal_of.ensures ∙ r.0 in
    record { result_value = e; messages_after = r.1; all_stored = λ e. absurd (cc); result_value_2 = carried-tells _ _ e }

pub overflow_mul-to : goal.overflow_mul-to
overflow_mul-to c =
    let h = (goal.at.overflow_mul-to c).After-head_at-h in record { fits = omega (arith, small h, within h) }

pub overflow_add-to : goal.overflow_add-to
overflow_add-to c =
    let h = (goal.at.overflow_add-to c).After-head_at-h in record { fits = omega (arith, small h, within h) }

pub overflow_mul-to-in-loop-j : goal.overflow_mul-to-in-loop-j
overflow_mul-to-in-loop-j c =
    let h = (goal.at.overflow_mul-to-in-loop-j c).After-head_at-h in record { fits = omega (arith, small h, within h) }

pub overflow_add-to-in-loop-j : goal.overflow_add-to-in-loop-j
overflow_add-to-in-loop-j c =
    let h = (goal.at.overflow_add-to-in-loop-j c).After-head_at-h in record { fits = omega (arith, small h, within h) }

pub overflow_add-to-in-loop-j-2 : goal.overflow_add-to-in-loop-j-2
overflow_add-to-in-loop-j-2 c =
    let h = (goal.at.overflow_add-to-in-loop-j-2 c).After-head_at-h in record { fits = omega (arith, small h, within h) }

pub loop-j-preserved : goal.loop-j-preserved
loop-j-preserved c =
    let args = c.args in
    let loop = c.loop-j in
    let h = (goal.at.loop-j-preserved c).After-head_at-h in (
      carrying_more args.g args.factors.now (messages_of args.p) c.requires.pass_ready.1 args.shift args.start args.tables.keys.now args.tables.heads.now
          args.messages.now loop.messages loop.to loop.j (length loop.work) c.requires.pass_ready.2 (low h) c.requires.tables.0 c.requires.tables.1 (sized h)
          c.requires.count_in_bounds.0 c.requires.count_in_bounds.1 (omega (arith, c.requires.count_in_bounds.2, loop.invariant.1)) loop.invariant.0 _
          c.message_lists-l.ensures _ _ c.eliminate_slots.ensures.value c.eliminate_slots.ensures.messages_after _ c.in_default.is _
          (next-told args.g (messages_of args.p) loop.to _ _ loop.j (told h).0 (told h).1),
      c.eliminate_slots.auto.work ∙ loop.invariant.1,
      small h,
    )

pub returns : goal.returns
returns c =
    let args = c.args in
    let loop = c.loop-j in
    let r = carried args.g args.factors.now (messages_of args.p) args.start args.messages.now loop.messages loop.to loop.j
    loop.invariant.0 (omega (arith, messages-length args.p, loop.invariant.0.few)) in
    record { result_value = r.0; messages_after = r.1; all_stored = λ e. r.2; result_value_2 = carried-tells _ _ r.0 }
