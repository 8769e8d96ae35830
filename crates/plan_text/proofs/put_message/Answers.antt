-- `plan_text::put_message`: the parts of the line, one after another; the content stands within the array of all contents.
use Rattle.std.proofs.Common.{◌≡◌, ℕ, ◌+◌, ◌-◌, ◌≤◌, List, [], ◌∷◌, ◌++◌, get_or, take, drop, arith, rules}
use lib.Seq.{get_or-drop}
use Rattle.factor.specs.Limits.{max_factors}
use Rattle.schedule.specs.Count.{joined}
use Rattle.text.specs.Decimals.{feed}
use Rattle.text.specs.Putting.{Puts}
use Rattle.plan.specs.Mask.{keys_in}
use Rattle.plan.specs.Pass.{pass_slot, msg_at}
use Rattle.plan.specs.declared.pass.Pass.{Pass}
use Rattle.plan_text.specs.Text.{step_word, content_word, kept_word, cleared_word, slot_text, named_text, list_text, content_text, message_text}
use Rattle.text.proofs.Putting.{both, same}
use Rattle.plan_text.proofs.Growing.{joined-map, slice_part}
use Rattle.plan_text.proofs.put_message.Goals as goal

-- a slot's text, by its number
abbrev text : ℕ → List ℕ
text x = slot_text (pass_slot x)

-- the parts of the line are those of the definition
line : (name : List ℕ) (p : Pass) (j s a b : ℕ) → s ≡ get_or p.steps j 0 → a ≡ get_or p.starts j 0 → b ≡ get_or p.ends j 0 → a ≤ b
    → named_text name j ++ named_text step_word s ++ (content_word ++ joined text (take (b - a) (drop a p.board.content)))
    ++ list_text kept_word (keys_in (get_or p.masks (max_factors + j) 0)) ++ list_text cleared_word (keys_in (get_or p.cleared j 0)) ++ (feed ∷ [])
    ≡ message_text name j (msg_at p j)
unfolding message_text msg_at content_text
line name p j s a b es ea eb h =
    rw (slice_part a b p.board.content h, joined-map slot_text pass_slot (drop a (take b p.board.content)), es, ea, eb, get_or-drop max_factors p.masks j 0)

pub returns : goal.returns
returns c =
    let args = c.args in
    let content = c.put_each-to.ensures text (λ out at x r out' p. let put : Puts out.now out'.now at r (text x) = search rules in put) in
    same (line args.name.now args.messages args.j c.from-step.result c.from-from.result c.from-end.result c.from-step.ensures c.from-from.ensures c.from-end.ensures
    (omega (arith, c.requires.pass_ready.ordered args.j c.requires.j_lt_count, c.from-from.ensures, c.from-end.ensures)))
    (both (both (both (both (both c.put_named-to.ensures c.put_named-to-2.ensures) (both c.put_word-to.ensures content)) c.put_set-to.ensures)
    c.put_set-to-2.ensures) c.put.ensures)
