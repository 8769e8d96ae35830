-- `records::read_superseding` meets its contract: the record within is read as by itself, and the old factor retired where it is taken. Assumes nothing.
use mathlib.Core.Path.{◌≡◌}
use mathlib.Core.Bool.{false}
use native.Mathlib.Omega.{arith}
use Rattle.std.specs.Prelude.{Err}
use Rattle.std.proofs.lemmas.Grind.{common_steps}
use Rattle.factor.proofs.Counting.{tells}
use Rattle.graph.proofs.Validity.{live_below, valid-count}
use Rattle.records.specs.Bytes.{byte_at, cut}
use Rattle.records.specs.Records.{number_bytes}
use Rattle.records.proofs.Superseding.{within-taken, within-refused}
use Rattle.records.proofs.read_superseding.Goals as goal

pub retire-requires : goal.retire-requires
retire-requires c =
    omega (arith, live_below c.args.g.now _ (tells c.is_live.ensures c.if-not-is_live.false), valid-count c.args.g.now c.requires)

pub returns-in_err-next : goal.returns-in_err-next
returns-in_err-next c =
    let b = c.args.r.bytes.now in
    let whole : cut b c.args.r.at number_bytes ≡ false = grind (arith, common_steps) in
    let number : c.from-number.result ≡ byte_at b c.args.r.at = grind (arith, common_steps) in
    let e : c.from_residual-in_err-next.result ≡ Err c.in_err-next.field-0.0 = grind (arith, common_steps) in
    within-refused c.args.g.now c.args.store.now b c.args.r.at _ whole number c.requires (tells c.is_live.ensures c.if-not-is_live.false)
    _ _ _ (rw (c.past.ensures.0, c.past.ensures.1) at c.read_within.ensures) _ _ c.in_err-next.was e

pub returns : goal.returns
returns c =
    let b = c.args.r.bytes.now in
    let whole : cut b c.args.r.at number_bytes ≡ false = grind (arith, common_steps) in
    let number : c.from-number.result ≡ byte_at b c.args.r.at = grind (arith, common_steps) in
    within-taken c.args.g.now c.args.store.now b c.args.r.at _ whole number c.requires (tells c.is_live.ensures c.if-not-is_live.false)
    _ _ _ (rw (c.past.ensures.0, c.past.ensures.1) at c.read_within.ensures) _ _ c.in_ok-next.was c.retire.ensures
