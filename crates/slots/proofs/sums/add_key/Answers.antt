-- `slots::sums::add_key` meets its contract: the key by itself, B'W in the lent slice, and the products with it. Assumes nothing.
use native.Mathlib.Omega.{arith}
use mathlib.Core.Path.{◌∙◌, sym}
use Rattle.matrix.proofs.Dense.{dense}
use Rattle.workspace.proofs.Cuts.{relaid}
use Rattle.slots.proofs.Adding.{key-is}
use Rattle.slots.proofs.sums.add_key.Goals as goal

pub add_own-requires : goal.add_own-requires
add_own-requires c = record { frame_laid = c.requires.frame_laid; branch_fits = (c.requires.branch_fits.0, c.requires.branch_fits.1); size_in_bounds = c.requires.size_in_bounds }

pub gemm_tr-requires : goal.gemm_tr-requires
gemm_tr-requires c = record {
  shape = c.new-block.ensures.2 ∙ sym c.new-weight.ensures.2;
  inside = rw (c.new-block.ensures.3, c.new-weight.ensures.3) (λ i j hi hj. dense _ _ _ c.requires.branch_fits.2 i j hi hj);
}

pub add_products-requires : goal.add_products-requires
add_products-requires c = record { frame_laid = relaid c.args.f c.add_own.auto.work c.requires.frame_laid; rows_value = (c.requires.branch_fits.0.square, c.requires.branch_fits.1, omega (arith, c.gemm_tr.auto.c, c.requires.branch_fits.2)); known = c.requires.known; wide = c.requires.wide }

pub returns : goal.returns
returns c =
    let args = c.args in
    key-is args.branch args.f args.layout args.row args.keys.now args.y args.a.now args.xi.now args.w.now args.k
    args.b.now args.t.now _ _ _ _ c.requires.branch_fits.2 c.add_own.ensures
    (rw (
      c.new-block.ensures.0,
      c.new-block.ensures.1,
      c.new-block.ensures.2,
      c.new-block.ensures.3,
      c.new-weight.ensures.0,
      c.new-weight.ensures.1,
      c.new-weight.ensures.3,
    ) at c.gemm_tr.ensures) c.add_products.ensures
