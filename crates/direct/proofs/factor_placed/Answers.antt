-- `direct::factor_placed` meets its contract: each key that the factor touches is tested. Assumes nothing.
use Rattle.std.proofs.Common.{◌≡◌, ◌≤◌, length, arith, rules, ◌||◌}
use Rattle.factor.proofs.Chains.{all_first}
use Rattle.slots.specs.Layouts.{member}
use Rattle.direct.specs.Direct.{factor_placed}
use Rattle.direct.proofs.factor_placed.Goals as goal

pub returns : goal.returns
unfolding factor_placed
returns c =
    let args = c.args in
    let n : length args.f.keys ≡ 4 = search rules in
    let l : args.f.touched ≤ length args.f.keys = omega arith in
    all_first (λ k. member k args.cleared.now || member k args.kept.now) 0 args.f.keys args.f.touched c.all.ensures.ran (cc) l (λ x b q k. search rules)
