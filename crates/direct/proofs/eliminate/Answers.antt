-- `direct::eliminate` meets its contract: a stop of the early checks is the verdict, and otherwise the tables are filled for the rest. Assumes nothing.
use native.Mathlib.Omega.{arith}
use lib.ListN.{length}
use Rattle.std.proofs.lemmas.Result.{err_from_is_err_and}
use Rattle.factor.proofs.Counting.{tells}
use Rattle.direct.proofs.Sending.{turned_back_lem}
use Rattle.direct.proofs.Telling.{verdict_tells}
use Rattle.direct.proofs.Verdicts.{admitted, stopped}
use Rattle.direct.proofs.eliminate.Goals as goal

pub returns-in_err-check : goal.returns-in_err-check
returns-in_err-check c =
    let args = c.args in
    let why = err_from_is_err_and c.from_residual.result c.from_residual.ensures.1 in
    let all = verdict_tells _ _ _ _ (turned_back_lem _ _ args.messages.now (stopped args.g args.slots.now args.kept.now args.cleared.now args.factors.now
    (length args.messages.now) (length args.work.now) _ (tells c.in_err-check.was c.check.ensures))) in
    rw (why.1, why.2) record { value = all.0; messages_after = all.1.0; result_value = all.1.1 }

pub fill_originals-requires : goal.fill_originals-requires
fill_originals-requires c =
    let args = c.args in
    record {
      g_value = (admitted args.g args.slots.now args.kept.now args.cleared.now args.factors.now
          (tells c.in_ok-check.was c.check.ensures)).reached;
      max_factors_in_bounds = (omega arith, omega arith);
    }

pub eliminate_from-requires : goal.eliminate_from-requires
eliminate_from-requires c =
    let args = c.args in
    record {
      admitted = admitted args.g args.slots.now args.kept.now args.cleared.now args.factors.now
          (tells c.in_ok-check.was
          c.check.ensures);
      originals = c.fill_originals.ensures;
    }

pub returns : goal.returns
returns c = let all = verdict_tells _ _ _ _ (c.eliminate_from.ensures.value, c.eliminate_from.ensures.messages_after) in record { value = all.0; messages_after = all.1.0; result_value = all.1.1 }
