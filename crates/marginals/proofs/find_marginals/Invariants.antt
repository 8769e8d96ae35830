use mathlib.Core.Path.{◌≡◌}
use lib.ListN.{length}
use Rattle.marginals.proofs.KeyByKey.{Walked}
use Rattle.marginals.proofs.Searching.{entries}
use Rattle.marginals.proofs.find_marginals.Given as goal

abbrev pub invariant-loop-key : goal.invariant-loop-key
invariant-loop-key l = (length l.work ≡ length l.initial.work) × Walked l.g.sizes l.s.factors.now
    l.s.messages.now l.s.tables.keys.now l.s.tables.heads.now (entries l.at l.g.variables) l.initial.results l.results l.to l.key
