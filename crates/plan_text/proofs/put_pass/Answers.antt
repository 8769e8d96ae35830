-- `plan_text::put_pass` meets its contract. The loop's invariant: the lines of the messages passed are put. Assumes nothing.
use Prim.Native.Nat.{ℕ}
use mathlib.Core.Path.{◌≡◌, refl, ap}
use mathlib.Core.List.{map}
use native.Mathlib.Omega.{arith}
use Rattle.schedule.specs.Count.{from}
use Rattle.plan.specs.Pass.{msg_at, messages_of}
use Rattle.plan_text.specs.Text.{message_text, numbered}
use Rattle.text.proofs.Putting.{none, both, same, long}
use Rattle.plan_text.proofs.Growing.{given-none, given-more}
use Rattle.plan_text.proofs.put_pass.Goals as goal

pub loop-j-init : goal.loop-j-init
loop-j-init c =
    let args = c.args in
    (refl, omega arith, same (given-none (message_text args.name.now) (msg_at args.messages)) none)

pub put_message-to-requires : goal.put_message-to-requires
put_message-to-requires c = record { pass_ready = c.requires; j_lt_count = omega (arith, c.loop-j-test.true) }

pub overflow_step-j : goal.overflow_step-j
overflow_step-j c = record { fits = omega (arith, c.requires.few) }

pub loop-j-smaller : goal.loop-j-smaller
loop-j-smaller c = omega arith

pub loop-j-preserved : goal.loop-j-preserved
loop-j-preserved c =
    let args = c.args in
    let loop = c.loop-j in (
      loop.invariant.0,
      omega arith,
      same (given-more (message_text args.name.now) (msg_at args.messages) loop.j)
          (both loop.invariant.2 c.put_message-to.ensures),
    )

pub shape_of-out : goal.shape_of-out
shape_of-out c = long c.loop-j.invariant.2

pub returns : goal.returns
unfolding messages_of
returns c =
    let args = c.args in
    let loop = c.loop-j in
    let e : loop.j ≡ args.messages.count = omega arith in
    same (ap (λ (j : ℕ). numbered (message_text args.name.now) 0 (map (msg_at args.messages) (from 0 j))) e) loop.invariant.2
