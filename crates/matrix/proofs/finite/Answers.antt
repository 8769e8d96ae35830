-- `matrix::finite` meets its contract, by what the library says of `all`. Assumes nothing.
use Rattle.std.proofs.Common.{◌≡◌, true, false, rules}
use Rattle.std.proofs.lemmas.Iterator.{cases_from_all, YieldsList-from_slice}
use borrow.Author.Tests.{tests}
use Rattle.matrix.specs.Finite.{is_finite}
use Rattle.matrix.proofs.Numbers.{finite_is, settles}
use Rattle.matrix.proofs.finite.Goals as goal

pub returns : goal.returns
returns c =
    settles c.args.s.now c.all.result (cases_from_all _ _ _ (λ x. is_finite x ≡ true) (λ x. is_finite x ≡ false) c.all.ensures.ran
    (YieldsList-from_slice c.args.s.now cc) (λ x q k. search (rules, tests, finite_is)) (λ x q k. search (rules, tests, finite_is)))
