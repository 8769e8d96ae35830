use mathlib.Core.Path.{◌≡◌}
use mathlib.Core.List.{◌++◌, map}
use lib.ListN.{take, drop}
use Rattle.plan.specs.Gather.{gathered_of}
use Rattle.plan_answer.specs.Answer.{key_plan_of}
use Rattle.plan_answer.proofs.key_table.Given as goal

abbrev pub invariant-loop-k : goal.invariant-loop-k
invariant-loop-k l = l.keys ≡ map key_plan_of (take l.k (map gathered_of (take l.n l.at))) ++ drop l.k l.initial.keys
