-- `cholesky::exchange::exchange` meets its contract: the factor, the solve and the inverse, and a look at each number. Assumes nothing.
use native.Mathlib.Omega.{arith}
use Rattle.matrix.proofs.Dense.{dense}
use Rattle.std.proofs.lemmas.Result.{err_from_is_err_and}
use Rattle.cholesky.proofs.Forms.{pivot-refused, vector_refused, matrix_refused, exchange-done}
use Rattle.cholesky.proofs.exchange.exchange.Goals as goal

pub cholesky-requires : goal.cholesky-requires
cholesky-requires c =
    let args = c.args in
    dense args.n args.n _ (omega (arith, c.requires.of_l))

pub returns-in_err-cholesky : goal.returns-in_err-cholesky
returns-in_err-cholesky c =
    let p = err_from_is_err_and c.from_residual.result c.from_residual.ensures.1 in
    rw (p.1, p.2) (pivot-refused c.args.n c.args.x.now c.args.l.now _ _ _ c.cholesky.ensures.value _ c.in_err-cholesky.was)

pub returns-then-not-finite : goal.returns-then-not-finite
returns-then-not-finite c =
    vector_refused c.args.n c.args.x.now c.args.l.now _ _ _ c.cholesky.ensures.value _ _ c.cholesky.ensures.s_after
    _ c.in_ok-cholesky.was c.requires.of_y c.solve.ensures
    c.inverse.ensures _ c.finite.ensures c.if-not-finite.true

pub returns-then-not-finite-2 : goal.returns-then-not-finite-2
returns-then-not-finite-2 c =
    matrix_refused c.args.n c.args.x.now c.args.l.now _ _ _ c.cholesky.ensures.value _ _ c.cholesky.ensures.s_after
    _ c.in_ok-cholesky.was c.requires.of_y c.solve.ensures c.inverse.ensures _
    c.finite.ensures c.if-not-finite.false _ c.finite-2.ensures
    c.if-not-finite-2.true

pub returns : goal.returns
returns c =
    exchange-done c.args.n c.args.x.now c.args.l.now _ _ _ c.cholesky.ensures.value _ _ c.cholesky.ensures.s_after
    _ c.in_ok-cholesky.was c.requires.of_y c.solve.ensures c.inverse.ensures _
    c.finite.ensures c.if-not-finite.false _ c.finite-2.ensures
    c.if-not-finite-2.false
