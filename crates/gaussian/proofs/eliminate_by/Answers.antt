-- `gaussian::eliminate_by` meets its contract: the rows choose the branch, and its frame fits the work store. Assumes nothing.
use native.Mathlib.Omega.{arith}
use Rattle.workspace.proofs.Cuts.{frame_laid}
use Rattle.gaussian.proofs.Lengths.{rows_few}
use Rattle.gaussian.proofs.Branches.{ready-is, branch_is, frame_square}
use Rattle.gaussian.proofs.eliminate_by.Goals as goal

pub count_rows-y-requires : goal.count_rows-y-requires
count_rows-y-requires c = c.requires.counted

pub frame_of-f-requires : goal.frame_of-f-requires
frame_of-f-requires c =
    let q = c.requires.total in
    let few = rows_few c.count_rows-y.result c.args.d in
    let rows = c.message_rows.ensures in
    (omega (arith, q), omega (arith, q, few, rows), omega (arith, q))

pub eliminate_to-requires : goal.eliminate_to-requires
eliminate_to-requires c =
    let pre = c.requires in
    let rows = c.message_rows.ensures in
    let few = rows_few c.count_rows-y.result c.args.d in
    record {
      frame_laid = (
        rw c.frame_of-f.ensures (frame_laid _ _ _ _ pre.total (omega (arith, few, rows)) pre.enough),
        frame_square _ _ _ _ _ _ c.branch_of-branch.ensures rows c.frame_of-f.ensures,
      );
      counted = pre.counted;
      by_index = ready-is pre c.count_rows-y.ensures c.branch_of-branch.ensures rows c.frame_of-f.ensures;
    }

pub returns : goal.returns
returns c = let all = branch_is c.requires
    c.count_rows-y.ensures
    c.branch_of-branch.ensures c.message_rows.ensures
    c.frame_of-f.ensures _ _ c.eliminate_to.ensures.value c.eliminate_to.ensures.slots_after in record { value = all.0; slots_after = all.1 }
