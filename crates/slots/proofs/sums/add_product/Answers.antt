-- `slots::sums::add_product` meets its contract: the target tells the matrix and the block, which is inside. Assumes nothing.
use native.Mathlib.Omega.{arith}
use lib.ListN.{length}
use mathlib.Core.Path.{◌∙◌, sym}
use Rattle.slots.proofs.Adding.{small, goes_inside, no_product, product-at-target}
use Rattle.slots.proofs.sums.add_product.Goals as goal

pub target_of-requires : goal.target_of-requires
target_of-requires c =
    let args = c.args in
    let l = c.requires.frame_laid in (
      omega arith,
      omega arith,
      omega (arith, small args.f (length args.work.now) args.k c.requires.frame_laid c.requires.rows_value.1),
      omega (arith, small args.f (length args.work.now) args.o c.requires.frame_laid c.requires.rows_value.2),
    )

pub returns-in_default : goal.returns-in_default
returns-in_default c =
    let args = c.args in
    no_product args.branch args.f args.k args.o _ args.k.size args.t.now args.y args.b.now args.o.size _
    c.target_of.ensures c.in_default.is

pub gemm_at-requires : goal.gemm_at-requires
gemm_at-requires c =
    let args = c.args in
    record {
      frame_laid = c.requires.frame_laid;
      shape = c.new-left.ensures.3 ∙ sym c.new-right.ensures.2;
      inside = rw (c.new-left.ensures.2, c.new-right.ensures.3) (goes_inside args.branch args.f (length args.work.now) args.k args.o _ _ _
          c.requires.frame_laid c.requires.rows_value.0 c.requires.rows_value.1 c.requires.rows_value.2 c.target_of.ensures c.in-Some.is);
    }

pub returns : goal.returns
returns c =
    let args = c.args in
    product-at-target args.branch args.f args.k args.o _ _ _ args.k.size args.t.now args.y args.b.now args.o.size _ _
    c.target_of.ensures c.in-Some.is
    (rw (
      c.new-left.ensures.0,
      c.new-left.ensures.1,
      c.new-left.ensures.2,
      c.new-left.ensures.3,
      c.new-right.ensures.0,
      c.new-right.ensures.1,
      c.new-right.ensures.3,
    ) at c.gemm_at.ensures)
