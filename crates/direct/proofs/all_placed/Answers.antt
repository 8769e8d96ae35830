-- `direct::all_placed` meets its contract: each key of each factor passed is cleared or kept. Assumes nothing.
use Rattle.std.proofs.Common.{◌≡◌, ◌<◌, sym, length, get_or, arith}
use Rattle.factor.proofs.Counting.{all_fail, all_more, all_none, tells}
use Rattle.graph.proofs.Validity.{valid-count, valid_touched}
use Rattle.graph.specs.Record.{factor_at}
use Rattle.tables.proofs.Dimensions.{known-below}
use Rattle.direct.specs.Direct.{all_placed, factor_placed}
use Rattle.direct.proofs.all_placed.Goals as goal
use Rattle.direct.proofs.all_placed.Goals.{In-loop-number}

-- the number at hand is that of a factor
number_below : (c : In-loop-number) → get_or c.args.slots.now c.loop-number.number-index 0 < c.args.g.count
number_below c = known-below _ c.args.slots.now c.requires.1 c.loop-number.number-index c.loop-number-test.true

pub loop-number-init : goal.loop-number-init
loop-number-init c = all_none _

pub loop-number-preserved : goal.loop-number-preserved
loop-number-preserved c = all_more _ _ c.loop-number.invariant (tells c.factor_placed.ensures c.if-not-factor_placed.false)

pub returns : goal.returns
unfolding all_placed
returns c =
    let e : c.loop-number.number-index ≡ length c.args.slots.now = omega arith in
    sym (rw e at c.loop-number.invariant)

pub offset_bounds-g-number : goal.offset_bounds-g-number
offset_bounds-g-number c = omega (arith, number_below (goal.at.offset_bounds-g-number c).In-loop-number, valid-count c.args.g c.requires.0)

pub bounds-g-number : goal.bounds-g-number
bounds-g-number c = omega (arith, number_below (goal.at.bounds-g-number c).In-loop-number, valid-count c.args.g c.requires.0)

pub factor_placed-requires : goal.factor_placed-requires
factor_placed-requires c = valid_touched c.args.g c.requires.0 _ (number_below (goal.at.factor_placed-requires c).In-loop-number)

pub returns-then-not-factor_placed : goal.returns-then-not-factor_placed
unfolding all_placed
returns-then-not-factor_placed c =
    let args = c.args in
    sym (all_fail (λ i. factor_placed args.kept.now args.cleared.now (factor_at args.g (get_or args.slots.now i 0))) _ c.loop-number.number-index
    c.loop-number-test.true (tells c.factor_placed.ensures c.if-not-factor_placed.true))
