-- `plan_answer::key_table` meets its contract. The loop's invariant: what the keys passed gather stands in the first places, the others are blank.
-- Assumes nothing.
use mathlib.Core.Path.{ap, ◌∙◌}
use mathlib.Core.List.{map}
use native.Mathlib.Omega.{arith}
use lib.ListN.{take}
use Rattle.factor.specs.Limits.{max_variables}
use Rattle.plan.specs.Gather.{gathered_of}
use Rattle.plan.specs.Plan.{no_gathered}
use Rattle.plan_answer.specs.Answer.{key_plan_of}
use Rattle.plan_answer.specs.Answer as spec
use Rattle.plan_answer.proofs.Filling.{map_more, map-done}
use Rattle.plan_answer.proofs.Copies.{keys_length, key-at}
use Rattle.plan_answer.proofs.key_table.Goals as goal

pub loop-k-preserved : goal.loop-k-preserved
loop-k-preserved c =
    let args = c.args in
    let loop = c.loop-k in
    map_more key_plan_of (map gathered_of (take args.n args.at)) _ loop.keys loop.k (gathered_of no_gathered) _
    (omega (arith, keys_length args.at args.n (omega arith))) (omega arith) loop.invariant
    (c.key_plan_of.ensures ∙ ap key_plan_of (key-at args.at args.n loop.k c.loop-k-test.true))

pub returns : goal.returns
unfolding spec.key_table
returns c =
    let args = c.args in
    let loop = c.loop-k in
    loop.invariant ∙ map-done key_plan_of (map gathered_of (take args.n args.at)) spec.no_key_plan max_variables loop.k
    (omega (arith, keys_length args.at args.n (omega arith)))
