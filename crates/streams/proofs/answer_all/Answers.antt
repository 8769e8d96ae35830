-- What was answered to is what was read.
use Rattle.std.proofs.Common.{rules, refl, arith}
use Rattle.std.proofs.lemmas.List.{length-take-le}
use Rattle.streams.proofs.answer_all.Goals as goal

pub returns : goal.returns
returns g c =
    let read = c.in_ok-n.ensures in
    let whole = length-take-le c.in_ok-n.n c.read_all.new.room read.within in
    (_, (search rules, λ h. read.end (omega (arith, whole))), (_, c.answer.ensures, refl))
