-- `messages::place_pass` meets its contract. The loop's invariant, `Progress`: the messages passed have their places. Assumes nothing.
use mathlib.Core.Path.{◌≡◌}
use Prim.Native.Nat.{◌<◌}
use lib.ListN.{length}
use Rattle.factor.specs.Limits.{max_variables}
use Rattle.plan.specs.Pass.{messages_of}
use Rattle.plan.proofs.Sending.{messages-length}
use Rattle.messages.proofs.Placing.{progress_none, placeable, progress_more, progress_done}
use native.Mathlib.Omega.{arith}
use borrow.Author.Rules.{rules}
use Rattle.messages.proofs.place_pass.Goals as goal

pub loop-j-init : goal.loop-j-init
loop-j-init c =
    let args = c.args in
    progress_none args.g (messages_of args.p) args.shift args.start args.keys.now args.heads.now c.requires.tables

pub place_message-next-requires : goal.place_message-next-requires
place_message-next-requires c =
    let sized : length c.args.g.sizes ≡ max_variables = search rules in
    let args = c.args in
    let loop = c.loop-j in
    let low : loop.j < length (messages_of args.p) = omega (arith, messages-length args.p, c.loop-j-test.true) in
    placeable args.g (messages_of args.p) c.requires.pass_ready.1 args.shift args.start args.keys.now args.heads.now loop.keys loop.heads loop.next loop.j
    c.requires.pass_ready.2 low sized loop.invariant _ c.message_lists-l.ensures c.requires.pass_ready.3

pub loop-j-preserved : goal.loop-j-preserved
loop-j-preserved c =
    let sized : length c.args.g.sizes ≡ max_variables = search rules in
    let args = c.args in
    let loop = c.loop-j in
    let low : loop.j < length (messages_of args.p) = omega (arith, messages-length args.p, c.loop-j-test.true) in
    let placed = c.place_message-next.ensures in
    progress_more args.g (messages_of args.p) c.requires.pass_ready.1 args.shift args.start args.keys.now args.heads.now loop.keys loop.heads loop.next loop.j
    c.requires.pass_ready.2 low sized loop.invariant _ c.message_lists-l.ensures _ _ _ (placed.value, (placed.keys_after, placed.heads_after))

pub returns : goal.returns
returns c =
    let args = c.args in
    let loop = c.loop-j in
    let all = progress_done args.g (messages_of args.p) args.shift args.start args.keys.now args.heads.now loop.keys loop.heads
    loop.next loop.j loop.invariant (omega (arith, messages-length args.p, loop.invariant.few)) in record { value = all.0; before = all.1.0; tables_2 = all.1.1 }
