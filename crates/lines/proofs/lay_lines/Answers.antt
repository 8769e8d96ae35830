-- `lines::lay_lines`: the length is worked out first.
use Rattle.std.proofs.Common.{sym, ◌∙◌, arith}
use Rattle.lines.proofs.Laying.{too_short, fitting}
use Rattle.lines.proofs.Texts.{lines_long}
use Rattle.lines.proofs.lay_lines.Goals as goal

pub returns-then-out-n : goal.returns-then-out-n
returns-then-out-n c =
    let args = c.args in
    let all = too_short args.out.now _ _ (c.lines_length-n.ensures ∙ sym (lines_long args.g args.marginals.now args.g.variables)) c.if-out-n.true in
    record { value = all.0; out_after = all.1 }

pub returns : goal.returns
returns c =
    let args = c.args in
    let all = fitting args.out.now _ _ _ (c.lines_length-n.ensures ∙ sym (lines_long args.g args.marginals.now args.g.variables)) c.if-out-n.false
    (omega arith) c.put_lines.ensures.buffer in
    record { value = all.0; out_after = all.1 }
