use Prim.Native.Nat.{◌*◌}
use mathlib.Core.Path.{◌≡◌}
use Rattle.matrix.specs.Products.{product_entry}
use Rattle.matrix.specs.Stores.{block_column}
use Rattle.matrix.proofs.gemm_column.Given as goal

abbrev pub invariant-loop-q : goal.invariant-loop-q
invariant-loop-q l = l.c ≡ block_column l.cv (product_entry l.how l.a.s.now l.a.v l.b.s.now l.b.v l.a.columns) l.j l.initial.c (l.q * 4)
