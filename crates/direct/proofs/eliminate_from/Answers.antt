-- `direct::eliminate_from` meets its contract, by its ways out. Assumes nothing.
use lib.ListN.{length}
use Rattle.direct.proofs.Asking.{asked, counted, of_cleared, of_kept}
use Rattle.direct.proofs.Sending.{sent, short-room, short_work}
use Rattle.direct.proofs.eliminate_from.Goals as goal

pub message_numbers-requires : goal.message_numbers-requires
message_numbers-requires c =
    let args = c.args in
    record {
      listed = (
        of_kept args.g args.slots.now args.kept.now args.cleared.now args.factors.now c.requires.admitted,
        of_cleared args.g args.slots.now args.kept.now args.cleared.now args.factors.now c.requires.admitted,
      );
      counted = counted args.g args.slots.now args.kept.now args.cleared.now args.factors.now c.requires.admitted args.tables.keys.now args.tables.heads.now c.requires.originals;
    }

pub returns-then-messages-message_numbers : goal.returns-then-messages-message_numbers
returns-then-messages-message_numbers c =
    let args = c.args in
    let all = short-room args.g args.slots.now args.kept.now args.cleared.now args.factors.now c.requires.admitted args.tables.keys.now args.tables.heads.now
    c.requires.originals args.messages.now (length args.work.now) _ c.message_numbers.ensures c.if-messages-message_numbers.true in record { value = all.0; messages_after = all.1 }

pub returns-then-work-lt-WORK : goal.returns-then-work-lt-WORK
returns-then-work-lt-WORK c =
    let args = c.args in
    let all = short_work args.g args.slots.now args.kept.now args.cleared.now args.factors.now c.requires.admitted args.tables.keys.now args.tables.heads.now
    c.requires.originals args.messages.now (length args.work.now) _ c.message_numbers.ensures c.if-messages-message_numbers.false c.if-work-lt-WORK.true in record { value = all.0; messages_after = all.1 }

pub eliminate_slots-requires : goal.eliminate_slots-requires
eliminate_slots-requires c =
    let args = c.args in
    let all = asked args.g args.slots.now args.kept.now args.cleared.now args.factors.now c.requires.admitted args.tables.keys.now args.tables.heads.now
    c.requires.originals args.messages.now (length args.work.now) _ c.message_numbers.ensures
    c.if-messages-message_numbers.false c.if-work-lt-WORK.false in record { asked = all.0; roomy = all.1 }

pub returns : goal.returns
returns c =
    let args = c.args in
    let all = sent args.g args.slots.now args.kept.now args.cleared.now args.factors.now c.requires.admitted args.tables.keys.now args.tables.heads.now
    c.requires.originals args.messages.now (length args.work.now) _ c.message_numbers.ensures c.if-messages-message_numbers.false c.if-work-lt-WORK.false _ _ _
    c.eliminate_slots.ensures.value c.eliminate_slots.ensures.messages_after c.map_err.ensures.cases in
    record { value = all.0; messages_after = all.1 }
