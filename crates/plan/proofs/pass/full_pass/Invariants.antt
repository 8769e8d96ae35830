use Rattle.plan.specs.Pass.{PassReady}
use Rattle.plan.proofs.Begins.{Along}
use Rattle.plan.proofs.pass.full_pass.Given as goal

abbrev pub invariant-loop-t : goal.invariant-loop-t
invariant-loop-t l = PassReady l.t l.p × Along l.order l.n l.initial.p l.t l.p
