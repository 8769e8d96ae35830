-- `factor::Factor::is_clear` meets its contract: each key is tested. Assumes nothing.
use mathlib.Core.Path.{◌≡◌, ap, ◌∙◌}
use borrow.Author.Rules.{rules}
use borrow.Author.Tests.{tests}
use lib.Dec.{eqb}
use lib.ListN.{length}
use Rattle.factor.proofs.Chains.{all_listed}
use Rattle.factor.specs.Counting.{every, all}
use Rattle.factor.specs.Factor.{is_clear, key_at}
use Rattle.factor.specs.Limits.{max_keys}
use Rattle.factor.proofs.Factor.is_clear.Goals as goal

pub returns-then-self-eq0-2 : goal.returns-then-self-eq0-2
unfolding is_clear every
returns-then-self-eq0-2 c =
    let f = c.args.self in
    let long : length f.keys ≡ max_keys = search rules in
    let keys : c.all.result ≡ all (λ j. eqb (key_at f j) 0) max_keys =
    all_listed (λ key. eqb key 0) 0 f.keys c.all.ensures.ran (cc) (λ x b q k. search (rules, tests)) ∙ ap (all (λ j. eqb (key_at f j) 0)) long in
    search rules
