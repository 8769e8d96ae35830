-- `slots::sums::add_prior` meets its contract: by the branch, and by whether the key is cleared. Assumes nothing.
use native.Mathlib.Omega.{arith}
use Rattle.workspace.specs.declared.Part.TheVariants.{S, H, A, Xi, W}
use Rattle.workspace.proofs.Cuts.{relaid}
use Rattle.slots.proofs.Adding.{corner-fits}
use Rattle.slots.proofs.OneFactor.{prior-cleared, prior_x, prior_z}
use Rattle.slots.proofs.sums.add_prior.Goals as goal

pub stamp_at-requires : goal.stamp_at-requires
stamp_at-requires c =
    let args = c.args in
    let l = c.requires.frame_laid in
    record {
      frame_laid = l;
      inside = rw (c.new-vector.ensures.2, c.new-vector.ensures.3) (corner-fits args.f H args.f.cleared 1 _ args.k.at 0 args.k.size 1 (omega arith) c.corner-u.ensures
          (rw c.if-k.true at c.requires.branch_fits.1) (omega arith));
    }

pub stamp_at-requires-then-k : goal.stamp_at-requires-then-k
stamp_at-requires-then-k c =
    let args = c.args in
    let l = c.requires.frame_laid in
    record {
      frame_laid = relaid args.f c.stamp_at.auto.work l;
      inside = rw (c.new-weight.ensures.2, c.new-weight.ensures.3) (corner-fits args.f S args.f.cleared args.f.cleared _ args.k.at args.k.at args.k.size args.k.size (omega arith)
          c.corner-v.ensures (rw c.if-k.true at c.requires.branch_fits.1) (rw c.if-k.true at c.requires.branch_fits.1));
    }

pub returns-then-k : goal.returns-then-k
returns-then-k c = prior-cleared _ _ _ _ _ _ _ _ _ _ _ c.if-k.true
    c.corner-u.ensures c.corner-v.ensures
    (rw (c.new-vector.ensures.0, c.new-vector.ensures.1, c.new-vector.ensures.2, c.new-vector.ensures.3) at c.stamp_at.ensures) (rw (c.new-weight.ensures.0, c.new-weight.ensures.1, c.new-weight.ensures.2, c.new-weight.ensures.3) at c.stamp_at-then-k.ensures)

pub fill_diagonal_at-requires : goal.fill_diagonal_at-requires
fill_diagonal_at-requires c =
    let args = c.args in
    let l = c.requires.frame_laid in
    record {
      frame_laid = relaid args.f c.copy_rows.auto.work l;
      inside = corner-fits args.f A args.f.rows args.f.kept _ args.row args.k.at args.k.size args.k.size (omega arith)
          c.corner-v-in-Z.ensures (rw c.if-k.false at (c.requires.branch_fits.0.inside
          c.in-Z.is)) (rw c.if-k.false at c.requires.branch_fits.1);
    }

pub stamp_at-requires-in-X : goal.stamp_at-requires-in-X
stamp_at-requires-in-X c =
    let args = c.args in
    let l = c.requires.frame_laid in
    record {
      frame_laid = l;
      inside = rw (c.new-vector.ensures.2, c.new-vector.ensures.3) (corner-fits args.f Xi args.f.rows 1 _ args.k.at 0 args.k.size 1 (omega arith) c.corner-u-in-X.ensures
          (omega (
            arith,
            rw c.if-k.false at c.requires.branch_fits.1,
            c.requires.branch_fits.0.square c.in-X.is,
          )) (omega arith));
    }

pub stamp_at-requires-in-X-2 : goal.stamp_at-requires-in-X-2
stamp_at-requires-in-X-2 c =
    let args = c.args in
    let l = c.requires.frame_laid in
    record {
      frame_laid = relaid args.f c.stamp_at-in-X.auto.work l;
      inside = rw (c.new-weight.ensures.2, c.new-weight.ensures.3) (corner-fits args.f W args.f.rows args.f.rows _ args.k.at args.k.at args.k.size args.k.size (omega arith)
          c.corner-v-in-X.ensures (omega (arith, rw c.if-k.false at c.requires.branch_fits.1, c.requires.branch_fits.0.square c.in-X.is))
          (omega (arith, rw c.if-k.false at c.requires.branch_fits.1, c.requires.branch_fits.0.square c.in-X.is)));
    }

pub returns-in-Z : goal.returns-in-Z
returns-in-Z c = prior_z _ _ _ _ _ _ _ _ _ _ c.if-k.false
    c.in-Z.is
    c.corner-v-in-Z.ensures c.copy_rows.ensures
    c.fill_diagonal_at.ensures

pub returns-in-X : goal.returns-in-X
returns-in-X c = prior_x _ _ _ _ _ _ _ _ _ _ _ c.if-k.false c.in-X.is
    c.corner-u-in-X.ensures
    c.corner-v-in-X.ensures (rw (c.new-vector.ensures.0, c.new-vector.ensures.1, c.new-vector.ensures.2, c.new-vector.ensures.3) at c.stamp_at-in-X.ensures)
    (rw (c.new-weight.ensures.0, c.new-weight.ensures.1, c.new-weight.ensures.2, c.new-weight.ensures.3) at c.stamp_at-in-X-2.ensures)
