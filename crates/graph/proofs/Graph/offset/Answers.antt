-- `graph::Graph::offset` meets its contract. The loop's invariant: the numbers of the factors passed, added up. Assumes nothing.
use Prim.Native.Nat.{◌+◌, ◌≤◌, ◌<◌, ℕ}
use mathlib.Core.Path.{◌∙◌, ◌≡◌, ap, sym}
use native.Mathlib.Omega.{arith}
use borrow.Author.Rules.{rules}
use lib.ListN.{get_or, length, length-take, take}
use lib.Seq.{get_or-take}
use Rattle.factor.proofs.Counting.{sum_more, sum-none}
use Rattle.factor.specs.Factor.{absent, numbers}
use Rattle.factor.specs.Limits.{max_factors, max_keys}
use Rattle.graph.specs.declared.Graph.{Graph}
use Rattle.graph.proofs.Filling.{unmapped}
use Rattle.graph.proofs.Validity.{valid-count, valid_touched}
use Rattle.graph.specs.Record.{factor_at, offset}
use Rattle.factor.specs.Counting as counting
use Rattle.graph.proofs.Graph.offset.Goals as goal

pub shared_ref_as_front-f-items : goal.shared_ref_as_front-f-items
shared_ref_as_front-f-items c = omega (arith, valid-count c.args.self c.requires.0)

pub loop-f-init : goal.loop-f-init
loop-f-init c = (omega arith, sym (sum-none _))

-- the factor that a turn reads
module _ (g : Graph) (n i : ℕ) (l : i < length (take n g.factors)) where
  below : i < n
  below = omega (arith, length-take n g.factors)

  here : get_or (take n g.factors) i absent ≡ factor_at g i
  here = get_or-take n g.factors i absent below

pub numbers-sum-requires : goal.numbers-sum-requires
numbers-sum-requires c =
    let args = c.args in
    let t : (factor_at args.self c.loop-f.f-index).touched ≤ max_keys = valid_touched args.self c.requires.0 c.loop-f.f-index (omega (arith, below args.self args.number c.loop-f.f-index c.loop-f-test.true)) in
    rw (here args.self args.number c.loop-f.f-index c.loop-f-test.true) t

pub loop-f-preserved : goal.loop-f-preserved
loop-f-preserved c =
    let args = c.args in
    let loop = c.loop-f in (
      omega (arith, c.numbers-sum.ensures.1),
      ap (λ (x : ℕ). loop.sum + x) (c.numbers-sum.ensures.0 ∙ ap (numbers args.self.sizes) (here args.self args.number loop.f-index c.loop-f-test.true))
          ∙ ap (λ (x : ℕ). x + numbers args.self.sizes (factor_at args.self loop.f-index)) loop.invariant.1
          ∙ sym (sum_more (λ k. numbers args.self.sizes (factor_at args.self k)) loop.f-index),
    )

pub returns : goal.returns
unfolding offset
returns c =
    let args = c.args in
    let loop = c.loop-f in
    let long : length args.self.factors ≡ max_factors = search (rules, unmapped) in
    let most = valid-count args.self c.requires.0 in
    let e : loop.f-index ≡ args.number = omega (arith, most, length-take args.number args.self.factors) in
    (loop.invariant.1 ∙ ap (counting.sum (λ k. numbers args.self.sizes (factor_at args.self k))) e, omega (arith, most))
