-- `slots::sums::add_own` meets its contract: by the branch, and by whether the key is cleared. Assumes nothing.
use native.Mathlib.Omega.{arith}
use Rattle.workspace.specs.declared.Part.TheVariants.{G, A}
use Rattle.workspace.proofs.Cuts.{relaid}
use Rattle.slots.proofs.Adding.{corner-fits, own_cleared_x, own_cleared_z, own_kept_z, own_kept_x}
use Rattle.slots.proofs.sums.add_own.Goals as goal

pub times_at-requires-in-Z : goal.times_at-requires-in-Z
times_at-requires-in-Z c =
    let args = c.args in
    let l = c.requires.frame_laid in
    record {
      frame_laid = relaid args.f c.times_at.auto.work l;
      inside = corner-fits args.f G args.f.cleared args.f.rows _ args.k.at args.row args.k.size args.y (omega arith)
          c.corner-g.ensures (rw c.if-k.true at c.requires.branch_fits.1)
          (c.requires.branch_fits.0.inside c.in-Z.is);
      s_in_bounds = (c.requires.size_in_bounds.0, c.requires.size_in_bounds.2);
    }

pub returns-in-Z : goal.returns-in-Z
returns-in-Z c = own_cleared_z _ _ _ _ _ _ _ _ _ _ _ _ _ c.if-k.true c.in-Z.is
    c.corner-v.ensures
    c.corner-g.ensures c.times_at.ensures c.times_at-in-Z.ensures

pub returns-in-X : goal.returns-in-X
returns-in-X c = own_cleared_x _ _ _ _ _ _ _ _ _ _ _ c.if-k.true c.in-X.is
    c.corner-v.ensures c.times_at.ensures

pub stamp_at-requires : goal.stamp_at-requires
stamp_at-requires c =
    let args = c.args in
    let l = c.requires.frame_laid in
    record {
      frame_laid = l;
      inside = rw (c.new-block.ensures.2, c.new-block.ensures.3) (corner-fits args.f A args.f.rows args.f.kept _ args.row args.k.at args.y args.k.size (omega arith)
          c.corner-v-in-Z-branch.ensures (c.requires.branch_fits.0.inside c.in-Z-branch.is)
          (rw c.if-k.false at c.requires.branch_fits.1));
    }

pub returns-in-Z-branch : goal.returns-in-Z-branch
returns-in-Z-branch c = own_kept_z _ _ _ _ _ _ _ _ _ _ _ c.if-k.false
    c.in-Z-branch.is c.corner-v-in-Z-branch.ensures
    (rw (c.new-block.ensures.0, c.new-block.ensures.1, c.new-block.ensures.2, c.new-block.ensures.3) at c.stamp_at.ensures)

pub returns-in-X-branch : goal.returns-in-X-branch
returns-in-X-branch c = own_kept_x _ _ _ _ _ _ _ _ _ _ _ c.if-k.false
    c.in-X-branch.is c.corner-v-in-X-branch.ensures
    c.times_at-in-X-branch.ensures
