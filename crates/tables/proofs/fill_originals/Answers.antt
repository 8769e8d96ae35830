-- `tables::fill_originals` meets its contract. The loop's invariant: the factors passed are entered, and the place is where the next one's numbers
-- begin. Assumes nothing.
use mathlib.Core.Path.{◌∙◌, refl}
use native.Mathlib.Omega.{arith}
use borrow.Author.Rules.{rules}
use Rattle.graph.proofs.Validity.{valid-count, valid_touched}
use Rattle.graph.specs.Record.{factor_at}
use Rattle.tables.proofs.Filling.{entered-more, next-offset, none-entered, no_offset}
use Rattle.tables.proofs.fill_originals.Goals as goal

pub loop-number-init : goal.loop-number-init
loop-number-init c = (search rules, refl, refl, search rules, no_offset _, refl, refl, none-entered _ _ _)

pub offset_bounds-g-number : goal.offset_bounds-g-number
offset_bounds-g-number c =
    omega (arith, valid-count c.args.g c.requires.g_value)

pub bounds-g-number : goal.bounds-g-number
bounds-g-number c =
    omega (arith, valid-count c.args.g c.requires.g_value)

pub put_original-requires : goal.put_original-requires
put_original-requires c =
    let args = c.args in
    let loop = c.loop-number in
    record { number_lt_max_factors = (omega (arith, loop.invariant.1, valid-count args.g c.requires.g_value), valid_touched args.g c.requires.g_value loop.number (omega (arith, loop.invariant.1))); max_factors_in_bounds = (omega (arith, loop.invariant.5, c.requires.max_factors_in_bounds.0), omega (arith, loop.invariant.6, c.requires.max_factors_in_bounds.1)) }

pub numbers-at-requires : goal.numbers-at-requires
numbers-at-requires c =
    let loop = c.loop-number in
    valid_touched c.args.g c.requires.g_value loop.number (omega (arith, loop.invariant.1))

pub overflow_add-at : goal.overflow_add-at
overflow_add-at c =
    let loop = c.loop-number in
    omega (arith, c.numbers-at.ensures.1, loop.invariant.3, loop.invariant.1, valid-count c.args.g c.requires.g_value)

pub loop-number-preserved : goal.loop-number-preserved
loop-number-preserved c =
    let args = c.args in
    let loop = c.loop-number in (
      omega arith,
      loop.invariant.1,
      loop.invariant.2,
      omega (arith, c.numbers-at.ensures.1, loop.invariant.3),
      next-offset args.g loop.number loop.at _ (factor_at args.g loop.number) refl loop.invariant.4 c.numbers-at.ensures.0,
      c.put_original.auto.keys ∙ loop.invariant.5,
      c.put_original.auto.heads ∙ loop.invariant.6,
      entered-more args.g c.requires.g_value loop.keys loop.heads (omega (arith, loop.invariant.5, c.requires.max_factors_in_bounds.0)) (omega (arith, loop.invariant.6, c.requires.max_factors_in_bounds.1))
          loop.number loop.at (factor_at args.g loop.number) _ _ (omega (arith, loop.invariant.1)) loop.invariant.4 refl
          c.put_original.ensures.keys_after c.put_original.ensures.heads_after loop.invariant.7,
    )

pub shape_of-keys : goal.shape_of-keys
shape_of-keys c = c.loop-number.invariant.5

pub shape_of-heads : goal.shape_of-heads
shape_of-heads c = c.loop-number.invariant.6

pub returns : goal.returns
returns c =
    let loop = c.loop-number in
    record {
      long_keys = omega (arith, loop.invariant.5, c.requires.max_factors_in_bounds.0);
      long_heads = omega (arith, loop.invariant.6, c.requires.max_factors_in_bounds.1);
      entered = λ i l. loop.invariant.7 i
          (omega (arith, loop.invariant.1));
    }
