-- `graph::Graph::factors_fit` meets its contract. The loop's invariant: the places passed are right, and their keys have room. Assumes nothing.
use mathlib.Core.Bool.{false≢true}
use mathlib.Core.Path.{◌≡◌, sym}
use borrow.Author.Count.{below_more, below_none}
use Rattle.factor.proofs.Counting.{all_fail, all_more, all_none, tells}
use Rattle.factor.specs.Limits.{max_factors}
use Rattle.graph.specs.Record.{factor_place, factors_fit}
use native.Mathlib.Omega.{arith}
use borrow.Author.Rules.{rules}
use Rattle.graph.proofs.Graph.factors_fit.Goals as goal

pub loop-number-init : goal.loop-number-init
loop-number-init c = (search rules, all_none _, below_none _)

pub returns-then-not-factor_place : goal.returns-then-not-factor_place
unfolding factors_fit
returns-then-not-factor_place c =
    let args = c.args in
    let loop = c.loop-number in
    record {
      value = sym (all_fail (λ i. factor_place args.self.now i) max_factors loop.number (search rules)
          (tells c.factor_place.ensures.0 c.if-not-factor_place.true));
      i_len = λ x. absurd (false≢true x);
    }

pub loop-number-preserved : goal.loop-number-preserved
loop-number-preserved c =
    let loop = c.loop-number in (
      search rules,
      all_more _ _ loop.invariant.1 (tells c.factor_place.ensures.0 c.if-not-factor_place.false),
      below_more _ _ loop.invariant.2 c.factor_place.ensures.1,
    )

pub returns : goal.returns
unfolding factors_fit
returns c =
    let e : c.loop-number.number ≡ max_factors = omega arith in
    record { value = sym (rw e at c.loop-number.invariant.1); i_len = λ _ i l. c.loop-number.invariant.2 i (omega arith) }
