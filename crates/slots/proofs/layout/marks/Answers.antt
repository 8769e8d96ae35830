-- `slots::layout::marks` meets its contract: the keys passed are marked. Assumes nothing.
use Rattle.std.proofs.Common.{refl, false, get_or, take, rules}
use Rattle.std.proofs.lemmas.List.{take_more, get_or-replicate}
use Rattle.slots.proofs.LayoutTables.{marks-more}
use Rattle.slots.proofs.layout.marks.Goals as goal

pub loop-key-init : goal.loop-key-init
loop-key-init c = record { long = refl; marked = λ key h. get_or-replicate 32 key false false h }

pub loop-key-preserved : goal.loop-key-preserved
loop-key-preserved c =
    let loop = c.loop-key in
    let l = c.args.list.now in
    let i = loop.key-index in
    record {
      long = search rules;
      marked = rw (take_more l i 0 c.loop-key-test.true)
          (marks-more loop.r (take i l) (get_or l i 0) loop.invariant.long (c.requires i c.loop-key-test.true) loop.invariant.marked);
    }
