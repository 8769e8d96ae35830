-- `factor::Factor::fits` meets its contract: each place is tested. Assumes nothing.
use mathlib.Core.Path.{◌≡◌, refl}
use borrow.Author.Rules.{rules}
use borrow.Author.Tests.{tests}
use Rattle.factor.proofs.Chains.{all_ranged}
use Rattle.factor.specs.Counting.{every, all}
use Rattle.factor.specs.Factor.{fits, key_fits}
use Rattle.factor.specs.Limits.{max_keys}
use Rattle.factor.proofs.Factor.fits.Goals as goal

pub returns-then-rows_fit : goal.returns-then-rows_fit
unfolding fits every
returns-then-rows_fit c =
    let args = c.args in
    let keys : c.all.result ≡ all (λ j. key_fits args.variables args.self j) max_keys =
    all_ranged (λ j. key_fits args.variables args.self j) max_keys c.all.ensures.ran refl (λ x b q k. search (rules, tests)) in
    search rules
