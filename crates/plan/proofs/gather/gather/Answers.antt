-- Each part is what its call ensures; together they are the gathering of the definition (`Gathering`).
-- Assumes nothing.
use mathlib.Core.Path.{refl}
use lib.ListN.{replicate}
use Rattle.factor.specs.Limits.{max_variables, max_factors}
use Rattle.plan.proofs.Gathering.{gathers}
use Rattle.plan.proofs.gather.gather.Goals as goal

pub returns-clause-gathers : goal.returns-clause-gathers
returns-clause-gathers c =
    let args = c.args in
    gathers args.fw args.bw args.live args.count args.r args.s c.requires.gatherable c.alive_messages-forward.result c.alive_messages-backward.result
    c.alive_messages-forward.ensures c.alive_messages-backward.ensures
    (record { items = replicate max_factors 0; count = 0; stack = replicate max_variables 0; top = 0 }) refl
    c.leaves_of-one.result c.leaves_of-one.ensures c.leaves_of-two.result c.leaves_of-two.ensures c.uncovered-all.result c.uncovered-all.ensures
    args.keys args.k c.kept_keys-fk.result c.kept_keys-bk.result c.union-uk.result c.single-own.result c.kept_keys-fk.ensures c.kept_keys-bk.ensures
    c.union-uk.ensures c.single-own.ensures
