-- `root::settled` meets its contract: what its tests show is in `proofs/Certificate.antt`. Assumes nothing.
use Rattle.root.proofs.Certificate.{settles}
use Rattle.root.proofs.settled.Goals as goal

pub returns-then-l-q : goal.returns-then-l-q
returns-then-l-q c =
    settles c.args.m c.args.g c.wrapping_sub_u64-r.result c.wrapping_sub_u64-u.result c.wrapping_sub_u64-l.result c.requires.0 c.requires.1 c.wrapping_sub_u64-r.ensures.value
    c.if-r-lt-ROOM.true c.wrapping_sub_u64-u.ensures.value c.if-u-lt-ROOM.true c.wrapping_sub_u64-l.ensures.value c.if-l-q.true
