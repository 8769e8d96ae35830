-- `lines::put_hex`: a digit more is put in each turn.
use Rattle.std.proofs.Common.{ℕ, [], ◌∷◌, ◌++◌, sym, ap, ◌∙◌}
use Rattle.text.proofs.Putting.{none, both, same}
use Rattle.lines.specs.Lines.{hex_by}
use Rattle.lines.proofs.Texts.{hex_more}
use Rattle.lines.proofs.put_hex.Goals as goal

pub loop-i-init : goal.loop-i-init
unfolding hex_by
loop-i-init c = none

pub loop-i-preserved : goal.loop-i-preserved
loop-i-preserved c =
    same (ap (λ (d : ℕ). hex_by c.loop-i.i c.args.bits ++ (d ∷ [])) c.hex_digit.ensures ∙ sym (hex_more c.loop-i.i c.args.bits))
    (both c.loop-i.invariant c.put-to.ensures)
