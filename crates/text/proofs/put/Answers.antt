-- `text::put`: past the buffer's end `set` changes nothing either.
use Rattle.std.proofs.Common.{◌≡◌, ℕ, ◌+◌, ◌<◌, min, sym, ◌∙◌, arith}
use Rattle.std.proofs.Math.Seq.{set_out}
use Rattle.std.proofs.lemmas.Grind.{common_steps}
use Rattle.text.specs.Putting.{last_place, next_place}
use Rattle.text.proofs.Putting.{one}
use Rattle.text.proofs.put.Goals as goal
use Rattle.text.proofs.put.Goals.{then-at-out, else-at-out}

saturated : (at r : ℕ) → at < 0x10000000000000000 → r ≡ min (at + 1) last_place → r ≡ next_place at
unfolding next_place
saturated at r l e = grind (arith, common_steps)

pub returns : goal.returns
returns c =
    one _ _ c.args.at _ c.args.byte (elim c.if-at-out.branch [
      | then-at-out w ↦ w.out-is
      | else-at-out w ↦ w.out-is ∙ sym (set_out _ _ _ w.if-at-out.false)
    ]) (saturated c.args.at _ (omega arith) c.saturating_add.ensures)
