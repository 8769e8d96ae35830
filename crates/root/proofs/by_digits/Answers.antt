-- `root::by_digits` meets its contract: the invariant and the turn are in `proofs/Loop.antt`. Assumes nothing.
use Rattle.std.proofs.Common.{◌<◌}
use Rattle.root.proofs.Loop.{few, turn}
use Rattle.root.proofs.by_digits.Goals as goal

-- fewer than 80 digits have been brought down
short : (c : goal.In-loop-q) → c.loop-q.j < 80
short c =
    let l = c.loop-q in
    few c.args.m l.a l.q l.r l.j c.requires.0 l.invariant c.loop-q-test.true

pub loop-q-preserved : goal.loop-q-preserved
loop-q-preserved c =
    let l = c.loop-q in
    turn c.args.m l.a l.q l.r l.j l.invariant (short c) c.loop-q-test.true
