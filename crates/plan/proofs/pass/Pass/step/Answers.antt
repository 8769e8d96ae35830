-- The masks are the lists of the definition: active, coupled, staying and cleared keys (`Stepping`). No message arises if nothing is
-- cleared, and `send` makes it otherwise.
-- Assumes nothing.
use Rattle.plan.proofs.Stepping.{silent, spoken}
use Rattle.plan.proofs.pass.Pass.step.Goals as goal

pub returns-then-cleared-eq0-clause-steps : goal.returns-then-cleared-eq0-clause-steps
returns-then-cleared-eq0-clause-steps c =
    let args = c.args in
    λ n K st kn m. silent args.self args.k args.t c.single-one.result c.coupled-cp.result c.single-one.ensures c.coupled-cp.ensures n K st kn m
    c.if-cleared-eq0.true

pub returns-clause-steps : goal.returns-clause-steps
returns-clause-steps c =
    let args = c.args in
    λ n K st kn m. spoken args.self args.k args.t c.single-one.result c.coupled-cp.result c.single-one.ensures c.coupled-cp.ensures n K st kn m
    c.send.result c.if-cleared-eq0.false c.send.ensures.sends
