-- `plan_text::put_key`: the parts of the line, one after another.
use Rattle.std.proofs.Common.{◌≡◌, ℕ, ◌-◌, List, ap, take, arith, rules}
use Rattle.schedule.specs.Count.{joined}
use Rattle.text.specs.Decimals.{field_text}
use Rattle.text.specs.Putting.{Puts}
use Rattle.text.proofs.Putting.{both, same}
use Rattle.plan.specs.Gather.{gathered_of}
use Rattle.plan_text.specs.Text.{list_text, key_text}
use Rattle.plan_text.proofs.Growing.{slice_part}
use Rattle.plan_text.proofs.put_key.Goals as goal

first : (n : ℕ) (l : List ℕ) → take (n - 0) l ≡ take n l
first n l = ap (λ (k : ℕ). take k l) (omega arith)

pub returns : goal.returns
unfolding key_text gathered_of list_text
returns c =
    let q = c.args.q in
    let originals = both c.put_word-to.ensures (same (ap (joined field_text) (slice_part q.covered q.count q.items c.requires.covered))
    (c.put_each-to.ensures field_text (λ out at x r out' p. let put : Puts out.now out'.now at r (field_text x) = search rules in put))) in
    let leaves = both c.put_word-to-2.ensures (same (ap (joined field_text) (first q.count q.items))
    (c.put_each-to-2.ensures field_text (λ out at x r out' p. let put : Puts out.now out'.now at r (field_text x) = search rules in put))) in
    both (both (both (both (both (both c.put_named-to.ensures c.put_set-to.ensures) c.put_set-to-2.ensures) originals) leaves) c.put_set-to-3.ensures) c.put.ensures
