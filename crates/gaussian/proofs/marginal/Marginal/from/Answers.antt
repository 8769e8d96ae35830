-- `gaussian::marginal::Marginal::from` meets its contract: the parts of the message are A, xi and W, and the moments stand at the start of their
-- arrays. Assumes nothing.
use Rattle.std.proofs.Common.{◌*◌, ◌∙◌, ap, Err}
use Rattle.std.proofs.lemmas.List.{take-replicate}
use lib.Ieee.{of_bits}
use Rattle.matrix.specs.Sums.{plus_zero}
use Rattle.factor.specs.Limits.{max_size}
use Rattle.gaussian.proofs.Moments.{zeros-long, small, from-done, from-pivot, from_unbounded}
use Rattle.gaussian.proofs.Telling.{from-tells}
use Rattle.gaussian.proofs.marginal.Marginal.from.Goals as goal

pub moments-requires-clause-mean_value : goal.moments-requires-clause-mean_value
unfolding of_bits
moments-requires-clause-mean_value c =
    let s = small c.args.rows c.args.size c.args.message.now c.requires in (
      take-replicate c.args.size max_size plus_zero c.requires.0,
      take-replicate (c.args.size * c.args.size) (max_size * max_size) plus_zero s,
      take-replicate (c.args.size * c.args.size) (max_size * max_size) plus_zero s,
    )

pub returns-in-Ok : goal.returns-in-Ok
unfolding of_bits
returns-in-Ok c =
    let args = c.args in
    let all = from-tells _ _ _ _ _ (from-done args.key args.size args.rows args.message.now _ _ _ c.moments.ensures.w_value
    (c.moments.auto.mean ∙ zeros-long max_size args.size c.requires.0)
    (c.moments.auto.covariance ∙ zeros-long (max_size * max_size) (args.size * args.size) (small args.rows args.size args.message.now c.requires)) c.in-Ok.is) in
    record { value = all.0; told_value = all.1 }

pub returns-in-Err-Pivot : goal.returns-in-Err-Pivot
returns-in-Err-Pivot c =
    let args = c.args in
    let all = from-tells _ _ _ _ _ (from-pivot args.key args.size args.rows args.message.now _ _ _ c.moments.ensures.w_value
    (c.in-Err-Pivot.is ∙ ap Err c.in-Err-Pivot.field-0-is)) in
    record { value = all.0; told_value = all.1 }

pub returns-in-Err-NotFinite : goal.returns-in-Err-NotFinite
returns-in-Err-NotFinite c =
    let args = c.args in
    let all = from-tells _ _ _ _ _ (from_unbounded args.key args.size args.rows args.message.now _ _ _ c.moments.ensures.w_value
    (c.in-Err-NotFinite.is ∙ ap Err c.in-Err-NotFinite.field-0-is)) in
    record { value = all.0; told_value = all.1 }
