-- Before each turn `upto` is the set of the messages below i of step at most t, and `within` that of the messages they contain (`Alive`).
-- Assumes nothing.
use mathlib.Core.Path.{subst₂}
use native.Mathlib.Omega.{arith}
use Rattle.plan.specs.Gather.{Inner}
use Rattle.plan.proofs.Alive.{start, more, same, done}
use Rattle.plan.proofs.gather.alive_messages.Goals as goal
use Rattle.plan.proofs.gather.alive_messages.Goals.{then-at-t, else-at-t}

pub loop-i-init : goal.loop-i-init
loop-i-init c = start c.args.t c.args.messages

pub loop-i-preserved : goal.loop-i-preserved
loop-i-preserved c =
    let args = c.args in
    let loop = c.loop-i in
    elim c.if-at-t.branch [
      | then-at-t w ↦ rw (w.upto-is, w.within-is)
          (more args.t args.messages loop.upto loop.within loop.i loop.invariant c.loop-i-test.true w.single-upto.result w.messages_in-within.result
          (omega arith) w.single-upto.ensures
          (subst₂ (λ a b. Inner a b args.messages.board.content w.messages_in-within.result) w.from-from.ensures w.from-to.ensures w.messages_in-within.ensures))
      | else-at-t w ↦ rw (w.upto-is, w.within-is)
          (same args.t args.messages loop.upto loop.within loop.i loop.invariant c.loop-i-test.true (omega arith))
    ]

pub returns : goal.returns
returns c =
    let loop = c.loop-i in
    done c.args.t c.args.messages loop.upto loop.within loop.i loop.invariant c.loop-i-test.false (omega (arith, c.requires.few))
