-- The plan key by key: before the key k, the first k gatherings are those of the definition (`Planning`). Both passes are those of
-- the definition, so demand 3 gives the room that each gathering asks.
-- Assumes nothing.
use borrow.Author.Rules.{rules}
use mathlib.Core.Path.{refl}
use Prim.Native.Nat.{◌-◌}
use native.Mathlib.Omega.{arith}
use Rattle.plan.proofs.KeyByKey.{in_order, in_back, placed, may_gather, start, more, done}
use Rattle.plan.proofs.plan.make_plan.Goals as goal

pub full_pass-fw-requires-clause-order : goal.full_pass-fw-requires-clause-order
full_pass-fw-requires-clause-order c =
    let args = c.args in
    in_order args.keys args.live args.order args.count args.n c.requires (search rules) (search rules)

pub full_pass-bw-requires-clause-order : goal.full_pass-bw-requires-clause-order
full_pass-bw-requires-clause-order c =
    let args = c.args in
    in_back args.keys args.live args.order args.count args.n c.requires (search rules) (search rules) c.reversed-back.result c.reversed-back.ensures

pub loop-k-init : goal.loop-k-init
loop-k-init c =
    let args = c.args in (
      record {
        sound = c.requires;
        long = search rules;
        long' = search rules;
        ready = c.full_pass-fw.ensures.pass_ready;
        ready' = c.full_pass-bw.ensures.pass_ready;
        forward = c.full_pass-fw.ensures.passes;
        backward = rw c.reversed-back.ensures at c.full_pass-bw.ensures.passes;
      },
      start args.keys args.live args.order args.count args.n _ refl,
    )

pub overflow_sub-s-in-loop-k : goal.overflow_sub-s-in-loop-k
overflow_sub-s-in-loop-k c =
    let args = c.args in
    omega (
      arith,
      c.place-r.ensures,
      placed args.keys args.live args.order args.count args.n c.requires (search rules) (search rules) c.loop-k.k c.loop-k-test.true,
    )

pub gather-requires-clause-gatherable : goal.gather-requires-clause-gatherable
gather-requires-clause-gatherable c =
    let args = c.args in
    may_gather args.keys args.live args.order args.count args.n c.full_pass-fw.result c.full_pass-bw.result c.loop-k.invariant.0 c.loop-k.k
    c.place-r.result (args.n - 1 - c.place-r.result) c.loop-k-test.true c.place-r.ensures refl

pub loop-k-preserved : goal.loop-k-preserved
loop-k-preserved c =
    let args = c.args in
    let loop = c.loop-k in (
      loop.invariant.0,
      more args.keys args.live args.order args.count args.n c.full_pass-fw.result c.full_pass-bw.result loop.invariant.0 loop.at loop.k c.place-r.result
          (args.n - 1 - c.place-r.result) c.gather.result loop.invariant.1 c.loop-k-test.true c.place-r.ensures refl c.gather.ensures.gathers
          c.gather.ensures.held,
    )

pub returns-clause-plans : goal.returns-clause-plans
returns-clause-plans c =
    let args = c.args in
    let loop = c.loop-k in
    done args.keys args.live args.order args.count args.n c.full_pass-fw.result c.full_pass-bw.result loop.invariant.0 loop.at loop.k loop.invariant.1
    c.loop-k-test.false
