use Rattle.std.proofs.Common.{◌≡◌, true, get_or}
use Rattle.factor.specs.Counting.{all}
use Rattle.graph.specs.Record.{factor_at}
use Rattle.direct.specs.Direct.{factor_placed}
use Rattle.direct.proofs.all_placed.Given as goal

abbrev pub invariant-loop-number : goal.invariant-loop-number
invariant-loop-number l = all (λ i. factor_placed l.kept l.cleared (factor_at l.g (get_or l.slots i 0))) l.number-index ≡ true
