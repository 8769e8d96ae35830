-- `lists::put_set` meets its contract. The loop's invariant: the members below j stand behind the first places. Assumes nothing.
use native.Mathlib.Omega.{arith}
use mathlib.Core.Path.{◌≡◌, refl}
use mathlib.Core.List.{append-nil}
use Prim.Native.Nat.{◌+◌}
use lib.ListN.{take}
use Rattle.factor.specs.Limits.{max_variables}
use Rattle.plan.specs.Mask.{has, keys_in}
use Rattle.plan.proofs.Unions.{in_set, off_set, rising-zero}
use Rattle.lists.proofs.Writing.{put_in, put_off}
use Rattle.lists.proofs.put_set.Goals as goal
use Rattle.lists.proofs.put_set.Goals.{then-set-single-ne0, else-set-single-ne0}

pub loop-j-init : goal.loop-j-init
loop-j-init c =
    let args = c.args in
    rw (rising-zero (λ i. has i args.set), append-nil (take args.at args.list.now)) (omega arith, refl)

pub loop-j-preserved : goal.loop-j-preserved
loop-j-preserved c =
    let args = c.args in
    let loop = c.loop-j in
    elim c.if-set-single-ne0.branch [
      | then-set-single-ne0 w ↦ put_in (λ i. args.shift + i) (λ i. has i args.set) args.list.now loop.list _ args.at loop.to loop.j (omega arith)
          loop.invariant _ (in_set args.set loop.j c.single.result c.single.ensures w.if-set-single-ne0.true) w.list-is w.to-is
      | else-set-single-ne0 w ↦ put_off (λ i. args.shift + i) (λ i. has i args.set) args.list.now loop.list _ args.at loop.to loop.j (omega arith)
          loop.invariant _ (off_set args.set loop.j c.single.result c.single.ensures w.if-set-single-ne0.false) w.list-is w.to-is
    ]

pub returns-clause-list_after : goal.returns-clause-list_after
unfolding keys_in
returns-clause-list_after c = let e : c.loop-j.j ≡ max_variables = omega arith in rw e at c.loop-j.invariant.1
