use Rattle.matrix.specs.Products.{product_entry}
use Rattle.matrix.specs.Stores.{Continued}
use Rattle.matrix.proofs.gemm_rows.Given as goal

abbrev pub invariant-loop-i : goal.invariant-loop-i
invariant-loop-i l = Continued l.cv (product_entry l.how l.a.s.now l.a.v l.b.s.now l.b.v l.a.columns) l.j l.initial.c l.from l.c l.i
