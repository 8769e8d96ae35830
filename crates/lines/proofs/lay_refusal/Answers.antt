-- `lines::lay_refusal`: the first run's place tells whether the text fits, and the second run lays it.
use Rattle.std.proofs.Common.{◌≡◌, ℕ, List, arith}
use Rattle.text.specs.Putting.{Puts}
use Rattle.lines.specs.Lines.{refusal_text}
use Rattle.lines.proofs.Laying.{short, whole}
use Rattle.lines.proofs.lay_refusal.Goals as goal

-- by the refusal's number
of_number : (a b : List ℕ) (r code number stage place : ℕ) → code ≡ number → Puts a b 0 r (refusal_text code stage place)
    → Puts a b 0 r (refusal_text number stage place)
of_number a b r code number stage place e p = rw e at p

pub returns-then-out-n : goal.returns-then-out-n
returns-then-out-n c =
    let args = c.args in
    let all = short args.out.now _ c.put_refusal-n.result (of_number _ _ c.put_refusal-n.result c.code-number.result _ args.stage args.place c.code-number.ensures
    c.put_refusal-n.ensures).place c.if-out-n.true in
    record { value = all.0; out_after = all.1 }

pub returns : goal.returns
returns c =
    let args = c.args in
    let all = whole args.out.now _ _ c.put_refusal-n.result (of_number _ _ c.put_refusal-n.result c.code-number.result _ args.stage args.place c.code-number.ensures
    c.put_refusal-n.ensures).place (omega arith) (omega arith) (of_number args.out.now _ c.put_refusal.result c.code-number.result _ args.stage args.place
    c.code-number.ensures c.put_refusal.ensures).buffer in
    record { value = all.0; out_after = all.1 }
