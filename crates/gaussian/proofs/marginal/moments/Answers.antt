-- `gaussian::marginal::moments` meets its contract: A'xi and A'WA are added to zeros. Assumes nothing.
use Prim.Native.Nat.{◌*◌}
use mathlib.Core.Path.{ap, ◌∙◌, sym}
use native.Mathlib.Omega.{arith}
use lib.ListN.{length, length-replicate}
use Rattle.matrix.specs.Sums.{plus_zero}
use Rattle.matrix.proofs.Dense.{dense}
use Rattle.gaussian.specs.Marginals.{moments_of}
use Rattle.gaussian.proofs.Telling.{solved-tells}
use Rattle.gaussian.proofs.marginal.moments.Goals as goal

pub gemv_tr-requires : goal.gemv_tr-requires
gemv_tr-requires c =
    let args = c.args in
    record {
      shape = (c.new-tall.ensures.2 ∙ sym c.new-vector.ensures.2, c.new-vector.ensures.3);
      inside = rw c.new-tall.ensures.3 (λ i j hi hj. dense args.s 1 _
          (omega (arith, ap length c.requires.mean_value.0, length-replicate args.s plus_zero)) i j hi hj);
    }

pub quadform-requires : goal.quadform-requires
quadform-requires c =
    let args = c.args in
    record {
      shape = (c.new-weight.ensures.2 ∙ sym c.new-tall.ensures.2, c.new-weight.ensures.3 ∙ sym c.new-tall.ensures.2);
      inside = rw c.new-tall.ensures.3 (λ i j hi hj. dense args.s args.s _
          (omega (arith, ap length c.requires.mean_value.1, length-replicate (args.s * args.s) plus_zero)) i j hi hj);
      in_bounds = rw (c.new-tall.ensures.2, c.new-tall.ensures.3) c.requires.s_in_bounds.3;
    }

pub exchange-requires : goal.exchange-requires
exchange-requires c =
    let args = c.args in
    record {
      of_x = c.gemv_tr.auto.c
          ∙ ap length c.requires.mean_value.0 ∙ length-replicate args.s plus_zero;
      of_l =
          c.quadform.auto.c ∙ ap length c.requires.mean_value.1
          ∙ length-replicate (args.s * args.s) plus_zero;
      of_y = c.requires.mean_value.2;
    }

pub returns : goal.returns
unfolding moments_of
returns c = let all = solved-tells _ _ _ _ (rw (
  ← c.requires.mean_value.0,
  ← c.requires.mean_value.1,
  ← (rw (
    c.new-tall.ensures.0,
    c.new-tall.ensures.1,
    c.new-tall.ensures.2,
    c.new-tall.ensures.3,
    c.new-vector.ensures.0,
    c.new-vector.ensures.1,
  ) at c.gemv_tr.ensures),
  ← (rw (c.new-weight.ensures.0, c.new-weight.ensures.1, c.new-tall.ensures.0, c.new-tall.ensures.1, c.new-tall.ensures.2, c.new-tall.ensures.3)
      at c.quadform.ensures),
) c.exchange.ensures) in record { w_value = all.0; result_value = all.1 }
