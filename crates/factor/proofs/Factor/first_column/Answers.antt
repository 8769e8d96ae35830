-- `factor::Factor::first_column` meets its contract. The loop's invariant: the sum so far is the first column of the place that is next. Assumes nothing.
use Prim.Native.Nat.{ℕ, ◌+◌, ◌<◌}
use mathlib.Core.Path.{◌∙◌, ◌≡◌, ap, sym}
use native.Mathlib.Omega.{arith}
use borrow.Author.Rules.{rules}
use lib.ListN.{length, length-take}
use lib.Seq.{get_or-take}
use Rattle.factor.proofs.Blocks.{first_more, first-none}
use Rattle.factor.specs.Factor.{first_column}
use Rattle.factor.specs.Limits.{max_keys}
use Rattle.factor.proofs.Factor.first_column.Goals as goal

pub loop-key-init : goal.loop-key-init
loop-key-init c = (omega arith, sym (first-none _ _))

pub loop-key-preserved : goal.loop-key-preserved
loop-key-preserved c =
    let args = c.args in
    let loop = c.loop-key in
    let i = loop.key-index in
    let here : i < args.place = omega (arith, length-take args.place args.self.keys) in (
      omega (arith, c.size_of-sum.ensures.1),
      ap (λ (x : ℕ). x + c.size_of-sum.result) loop.invariant.1 ∙ sym (first_more args.sizes args.self.keys i _ _
          (c.from.ensures ∙ get_or-take args.place args.self.keys i 0 here) c.size_of-sum.ensures.0),
    )

pub returns : goal.returns
returns c =
    let args = c.args in
    let loop = c.loop-key in
    let long : length args.self.keys ≡ max_keys = search rules in
    let e : loop.key-index ≡ args.place = omega (arith, length-take args.place args.self.keys) in
    (loop.invariant.1 ∙ ap (first_column args.sizes args.self.keys) e, omega arith)
