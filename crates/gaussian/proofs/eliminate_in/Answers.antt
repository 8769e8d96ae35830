-- `gaussian::eliminate_in` meets its contract: the layout and the dimensions are the definition's, and what is asked for is enough. Assumes nothing.
use mathlib.Core.Path.{◌≡◌}
use native.Mathlib.Omega.{arith}
use lib.ListN.{length}
use Rattle.gaussian.proofs.Enough.{enough}
use Rattle.gaussian.proofs.Listing.{slots-are}
use Rattle.gaussian.proofs.eliminate_in.Goals as goal

pub layout_of-layout-requires : goal.layout_of-layout-requires
layout_of-layout-requires c =
    let pre = c.requires in
    record { listed = pre.kept_listed; listed_2 = pre.cleared_listed }

pub dim_of-u-requires : goal.dim_of-u-requires
dim_of-u-requires c = c.requires.cleared_listed

pub dim_of-d-requires : goal.dim_of-d-requires
dim_of-d-requires c = c.requires.kept_listed

pub eliminate_by-requires : goal.eliminate_by-requires
eliminate_by-requires c =
    let n : length c.args.a.sizes ≡ 32 = omega arith in
    rw (c.layout_of-layout.ensures, c.dim_of-u.ensures, c.dim_of-d.ensures)
    (enough n c.requires)

pub returns : goal.returns
returns c =
    let args = c.args in
    let all = slots-are args.s.factors.now args.s.messages.now args.s.tables.keys.now args.s.tables.heads.now args.a.slots.now args.a.kept.now
    args.a.cleared.now args.a.sizes _ _ _ _ _ c.dim_of-u.ensures
    c.dim_of-d.ensures c.layout_of-layout.ensures
    c.eliminate_by.ensures.value c.eliminate_by.ensures.slots_after in record { value = all.0; sizes_after = all.1 }
