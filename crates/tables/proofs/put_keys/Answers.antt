-- `tables::put_keys` meets its contract: the keys passed are pasted. Assumes nothing.
use Rattle.std.proofs.Common.{◌≡◌, length, arith, rules}
use lib.Seq.{paste-zero}
use Rattle.factor.specs.Limits.{max_keys}
use Rattle.factor.proofs.Laying.{copy_done, copy_more}
use Rattle.tables.proofs.put_keys.Goals as goal

pub loop-place-init : goal.loop-place-init
loop-place-init c = paste-zero c.args.keys.now c.args.first c.args.f.keys

pub loop-place-preserved : goal.loop-place-preserved
loop-place-preserved c =
    let n : length c.args.f.keys ≡ max_keys = search rules in
    copy_more c.args.keys.now c.loop-place.keys c.args.first c.args.f.keys c.loop-place.place _ 0 c.loop-place.invariant c.from.ensures (omega arith) (omega arith)

pub returns : goal.returns
returns c =
    let n : length c.args.f.keys ≡ max_keys = search rules in
    (copy_done c.args.keys.now c.loop-place.keys c.args.first c.args.f.keys c.loop-place.place c.loop-place.invariant (omega arith), n)
