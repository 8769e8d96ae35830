-- `gaussian::finish` meets its contract: the factor of S, and with it the rest, or a refused pivot. Assumes nothing.
use Rattle.std.proofs.Common.{sym}
use Rattle.std.proofs.lemmas.Result.{err_from_is_err_and}
use Rattle.gaussian.proofs.Ending.{finish-done, finish-stopped}
use Rattle.gaussian.proofs.finish.Goals as goal

pub returns : goal.returns
returns c =
    let all = finish-done _ _ _ _ _ (sym c.in_ok-cholesky_at.ensures.value) c.in_ok-cholesky_at.ensures.work_after c.lose.ensures in
    record { value = all.0; work_after = all.1 }

pub returns-in_err-cholesky_at : goal.returns-in_err-cholesky_at
returns-in_err-cholesky_at c =
    let why = err_from_is_err_and c.from_residual.result c.from_residual.ensures.1 in
    let all = finish-stopped c.args.branch c.args.f _ _ _ (sym c.in_err-cholesky_at.ensures.value) in
    rw (why.1, why.2) record { value = all.0; work_after = all.1 }
