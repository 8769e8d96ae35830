-- `cholesky::cholesky` meets its contract. The inner loop's invariant: the rows of column j that were passed are the definition's; the outer one's:
-- so are the columns.
-- The turns are in `proofs/Turns.antt`. Assumes nothing.
use mathlib.Core.Path.{◌≡◌, refl}
use native.Mathlib.Omega.{arith}
use Rattle.cholesky.specs.Factor.{factor}
use Rattle.cholesky.proofs.Turns.{first_turn, next_turn, no_turn, column_done}
use Rattle.cholesky.specs.Answers.{factored_as, list_of}
use Rattle.std.proofs.lemmas.Result.{err_from_is_err_and}
use Rattle.cholesky.proofs.cholesky.Goals as goal
use Rattle.cholesky.proofs.cholesky.Goals.{then-i-j+in_ok-y, else-i-j}

pub loop-j-init : goal.loop-j-init
unfolding factor
loop-j-init c = refl

-- the way out by a refused pivot
refused : (c : goal.After-from_residual) → (c.from_residual.result ≡ factored_as (factor c.args.v c.args.n c.args.s.now c.args.n))
    × (c.loop-i.s ≡ list_of (factor c.args.v c.args.n c.args.s.now c.args.n))
refused c =
    let p = err_from_is_err_and c.from_residual.result c.from_residual.ensures.1 in
    rw (p.1, p.2) (no_turn _ _ _ _ _ _ _ _ _ _ _ (omega arith) c.loop-j.invariant c.if-i-j.true (c.loop-i.invariant.0 c.if-i-j.true)
    c.reduced-x.ensures c.get-d.ensures c.pivot.ensures c.in_err-y.ensures.ok_part c.in_err-y.ensures.value)

pub returns-in_err-y-clause-value : goal.returns-in_err-y-clause-value
returns-in_err-y-clause-value c = (refused c).0

pub returns-in_err-y-clause-s_after : goal.returns-in_err-y-clause-s_after
returns-in_err-y-clause-s_after c = (refused c).1

pub loop-i-preserved : goal.loop-i-preserved
loop-i-preserved c =
    let l = c.loop-i in
    let x = c.reduced-x.ensures in
    let d = c.get-d.ensures in
    elim c.if-i-j.branch [
      | then-i-j+in_ok-y w ↦ (
        λ e. absurd (omega arith),
        λ _. first_turn _ _ _ _ _ _ _ _ _ _ w.if-i-j.true (l.invariant.0 w.if-i-j.true) x d w.pivot.ensures w.in_ok-y.ensures.ok_part
            (rw (← w.y-is) c.put.ensures),
      )
      | else-i-j w ↦ (
        λ e. absurd (omega arith),
        λ _. next_turn _ _ _ _ _ _ _ _ (omega arith) (l.invariant.1 (omega arith)) x d (rw (← w.y-is) c.put.ensures),
      )
    ]

pub loop-j-preserved : goal.loop-j-preserved
loop-j-preserved c =
    let e : c.loop-i.i ≡ c.args.n = omega arith in
    column_done _ _ _ _ _ _ _ e c.loop-j.invariant (c.loop-i.invariant.1 (omega arith))
