-- The walk gives the content, the union its keys; what is stored means the state with one message more (`Sending`).
-- Assumes nothing.
use Rattle.plan.proofs.Sending.{sends}
use Rattle.plan.proofs.pass.Pass.send.Goals as goal

pub returns-clause-sends : goal.returns-clause-sends
returns-clause-sends c =
    let args = c.args in
    sends args.self c.walk-w.result c.union-keys.result args.cleared args.t c.requires.pass_ready c.requires.t_lt_max_variables c.walk-w.ensures
    c.union-keys.ensures
