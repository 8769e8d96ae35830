-- Before the step t the pass means the state after the first t keys of the order, so at the end its messages are those of the
-- definition (`Begins`).
-- Assumes nothing.
use borrow.Author.Rules.{rules}
use mathlib.Core.Path.{◌≡◌}
use native.Mathlib.Omega.{arith}
use Rattle.plan.proofs.Begins.{along-more, along-done}
use Rattle.plan.proofs.pass.full_pass.Goals as goal

pub loop-t-preserved : goal.loop-t-preserved
loop-t-preserved c =
    let args = c.args in
    let loop = c.loop-t in (
      c.step-p.ensures.pass_ready_2,
      along-more args.order args.n c.begin-p.result loop.t loop.p c.step-p.result (search rules) c.requires.order
          c.loop-t-test.true loop.invariant.1 (rw c.from.ensures at c.step-p.ensures.steps),
    )

pub returns-clause-passes : goal.returns-clause-passes
returns-clause-passes c =
    let loop = c.loop-t in
    let args = c.args in
    let e : loop.t ≡ args.n = omega arith in
    along-done args.keys args.live args.order args.count args.n c.begin-p.result loop.p c.requires.order.few c.begin-p.ensures.begins (rw e at loop.invariant.1)
