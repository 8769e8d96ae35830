-- `factor::weighing::store_by` meets its contract: the slices hold the mean and the variance when they are exchanged, and A, xi and W are laid one after the
-- other. Assumes nothing.
use mathlib.Core.Path.{◌≡◌, ◌∙◌, sym}
use native.Mathlib.Omega.{arith}
use borrow.Author.Rules.{rules}
use Rattle.std.specs.Prelude.{Err}
use Rattle.factor.proofs.Storing.{stopped, when_done}
use Rattle.factor.proofs.weighing.store_by.Goals as goal

pub returns-in_err-exchange : goal.returns-in_err-exchange
returns-in_err-exchange c =
    let args = c.args in
    let why = c.in_err-exchange.field-0.0 in
    let same : c.from_residual.result ≡ Err why = search rules in
    let all = stopped args.n args.at args.a.now args.mean.now args.variance.now args.store.now _ _ _ _ c.exchange.result c.copy_from_slice.ensures.after
    c.copy_from_slice-2.ensures.after c.exchange.ensures why c.in_err-exchange.was in
    record { value = same ∙ sym c.in_err-exchange.was ∙ all.0; store_after = all.1 }

pub returns : goal.returns
returns c =
    let args = c.args in
    let all = when_done args.n args.at args.a.now args.mean.now args.variance.now args.store.now _ _ _ _ c.exchange.result c.copy_from_slice.ensures.after
    c.copy_from_slice-2.ensures.after c.exchange.ensures _ c.in_ok-exchange.was _ _ _ (omega (arith, c.requires.factor_room.room))
    (omega (arith, c.exchange.auto.x, c.copy_from_slice-2.ensures.len, c.requires.form_lent.of_x)) c.copy_in.ensures c.copy_in-2.ensures c.copy_in-3.ensures in
    record { value = all.0; store_after = all.1 }
