use Rattle.std.proofs.Common.{◌≡◌, ◌+◌, drop}
use Rattle.slots.specs.Layouts.{dim_of}
use Rattle.slots.proofs.layout.dim_of.Given as goal

abbrev pub invariant-loop-key : goal.invariant-loop-key
invariant-loop-key l = l.sum + dim_of l.sizes (drop l.key-index l.list) ≡ dim_of l.sizes l.list
