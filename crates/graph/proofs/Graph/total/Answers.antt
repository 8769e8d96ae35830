-- `graph::Graph::total` meets its contract. The loop's invariant: the sum of the sizes passed. Assumes nothing.
use Prim.Native.Nat.{◌+◌, ◌<◌, ℕ}
use mathlib.Core.Path.{◌∙◌, ◌≡◌, ap, sym}
use native.Mathlib.Omega.{arith}
use borrow.Author.Rules.{rules}
use lib.ListN.{length}
use Rattle.factor.proofs.Counting.{sum_more, sum-none}
use Rattle.factor.specs.Limits.{max_variables}
use Rattle.graph.specs.Record.{size_at, total}
use Rattle.graph.specs.declared.Graph.{Graph}
use Rattle.factor.specs.Counting as counting
use Rattle.graph.proofs.Graph.total.Goals as goal

-- a turn, and after the last one
module _ (g : Graph) (i : ℕ) {s : ℕ} where
  added : (n : ℕ) → n ≡ size_at g i → s ≡ counting.sum (λ k. size_at g k) i → s + n ≡ counting.sum (λ k. size_at g k) (i + 1)
  added n h e = ap (λ (x : ℕ). s + x) h ∙ ap (λ (x : ℕ). x + size_at g i) e ∙ sym (sum_more (λ k. size_at g k) i)

  summed : i ≡ max_variables → s ≡ counting.sum (λ k. size_at g k) i → s ≡ total g
  unfolding total
  summed l e = e ∙ ap (counting.sum (λ k. size_at g k)) l

pub loop-size-init : goal.loop-size-init
loop-size-init c = (omega arith, sym (sum-none _))

pub loop-size-preserved : goal.loop-size-preserved
loop-size-preserved c =
    let loop = c.loop-size in
    let b : c.from-sum.result < 256 = omega (arith, c.loop-size-test.element_fits.fits) in
    (omega arith, added c.args.self.now loop.size-index _ c.from-sum.ensures loop.invariant.1)

pub returns : goal.returns
returns c =
    let long : length c.args.self.now.sizes ≡ max_variables = search rules in
    let e : c.loop-size.size-index ≡ max_variables = omega arith in
    summed c.args.self.now c.loop-size.size-index e c.loop-size.invariant.1
