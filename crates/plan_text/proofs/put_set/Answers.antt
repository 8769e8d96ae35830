-- `plan_text::put_set` meets its contract. The loop's invariant: the members below k are put behind the word. Assumes nothing.
use Prim.Native.Nat.{ℕ}
use mathlib.Core.Path.{◌≡◌, sym, ap}
use native.Mathlib.Omega.{arith}
use Rattle.factor.specs.Limits.{max_variables}
use Rattle.schedule.specs.Count.{joined, rising_where}
use Rattle.plan.specs.Mask.{has, keys_in}
use Rattle.plan.proofs.Unions.{joined-zero}
use Rattle.text.specs.Decimals.{field_text}
use Rattle.plan_text.specs.Text.{list_text}
use Rattle.text.proofs.Putting.{none, both, same, long}
use Rattle.plan_text.proofs.Growing.{member-more}
use Rattle.plan_text.proofs.put_set.Goals as goal

pub loop-k-init : goal.loop-k-init
loop-k-init c = (omega arith, same (sym (joined-zero field_text (λ i. has i c.args.set))) none)

pub loop-k-preserved : goal.loop-k-preserved
loop-k-preserved c =
    let args = c.args in
    let loop = c.loop-k in
    (omega arith, same (member-more field_text (λ i. has i args.set) loop.k) (both loop.invariant.1 c.put_member-to.ensures))

pub shape_of-out : goal.shape_of-out
shape_of-out c = long (both c.put_word-to.ensures c.loop-k.invariant.1)

pub returns : goal.returns
unfolding list_text keys_in
returns c =
    let args = c.args in
    let loop = c.loop-k in
    let e : loop.k ≡ max_variables = omega arith in
    both c.put_word-to.ensures (same (ap (λ (k : ℕ). joined field_text (rising_where k (λ i. has i args.set))) e)
    loop.invariant.1)
