-- `slots::sums::copy_rows` meets its contract: in z two blocks are stored, in x none. Assumes nothing.
use native.Mathlib.Omega.{arith}
use Rattle.workspace.specs.declared.Part.TheVariants.{Xi, W}
use Rattle.workspace.proofs.Cuts.{relaid}
use Rattle.slots.proofs.Adding.{corner-fits}
use Rattle.slots.proofs.OneFactor.{rows_x, rows_z}
use Rattle.slots.proofs.sums.copy_rows.Goals as goal

pub corner-u-requires : goal.corner-u-requires
corner-u-requires c =
    let l = c.requires.frame_laid in (
      l.few_rows,
      omega (arith, c.requires.branch_fits.0.inside c.in-Z.is, l.few_rows),
      omega arith,
    )

pub stamp_at-requires : goal.stamp_at-requires
stamp_at-requires c =
    let args = c.args in
    let l = c.requires.frame_laid in
    record {
      frame_laid = l;
      inside = rw (c.new.ensures.2, c.new.ensures.3) (corner-fits args.f Xi args.f.rows 1 _ args.row 0 args.y 1 (omega arith) c.corner-u.ensures
          (c.requires.branch_fits.0.inside c.in-Z.is) (omega arith));
    }

pub corner-v-requires : goal.corner-v-requires
corner-v-requires c =
    let args = c.args in
    let l = c.requires.frame_laid in (
      l.few_rows,
      omega (arith, c.requires.branch_fits.0.inside c.in-Z.is, l.few_rows),
      omega (arith, c.requires.branch_fits.0.inside c.in-Z.is, l.few_rows),
    )

pub stamp_at-requires-in-Z : goal.stamp_at-requires-in-Z
stamp_at-requires-in-Z c =
    let args = c.args in
    let l = c.requires.frame_laid in
    record {
      frame_laid = relaid args.f c.stamp_at.auto.work l;
      inside = rw (c.new-in-Z.ensures.2, c.new-in-Z.ensures.3) (corner-fits args.f W args.f.rows args.f.rows _ args.row args.row args.y args.y (omega arith)
          c.corner-v.ensures (c.requires.branch_fits.0.inside c.in-Z.is) (c.requires.branch_fits.0.inside c.in-Z.is));
    }

pub returns-in-Z : goal.returns-in-Z
returns-in-Z c = rows_z _ _ _ _ _ _ _ _ _ _ _ c.in-Z.is
    c.corner-u.ensures c.corner-v.ensures
    (rw (c.new.ensures.0, c.new.ensures.1, c.new.ensures.2, c.new.ensures.3) at c.stamp_at.ensures) (rw (c.new-in-Z.ensures.0, c.new-in-Z.ensures.1, c.new-in-Z.ensures.2, c.new-in-Z.ensures.3) at c.stamp_at-in-Z.ensures)

pub returns-in-X : goal.returns-in-X
returns-in-X c = rows_x _ _ _ _ _ _ _ c.in-X.is
