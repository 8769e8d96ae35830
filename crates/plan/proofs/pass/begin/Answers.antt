-- The arrays mean the state before the first step (`Begins`).
-- Assumes nothing.
use borrow.Author.Rules.{rules}
use mathlib.Core.Path.{◌≡◌, ap, ◌∙◌}
use mathlib.Core.List.{◌++◌}
use native.Mathlib.Omega.{arith}
use lib.ListN.{length, take, drop, replicate}
use lib.Seq.{take_at, length-take-le}
use Rattle.plan.specs.Limits.{pass_slots}
use Rattle.plan.proofs.Begins.{begins}
use Rattle.plan.proofs.pass.begin.Goals as goal

pub returns-clause-begins : goal.returns-clause-begins
returns-clause-begins c =
    let args = c.args in
    let laid = c.copy_from_slice-2.new.self in
    let after : laid ≡ take args.count args.live = c.copy_from_slice-2.ensures.after in
    let long : length laid ≡ args.count = ap length after ∙ length-take-le args.count args.live (omega (arith, c.requires.few)) in
    rw c.copy_from_slice.ensures.after (begins args.keys args.live (laid ++ drop args.count (replicate pass_slots 0)) args.count (search rules) (search rules)
    c.requires (take_at laid (drop args.count (replicate pass_slots 0)) args.count long ∙ after))
