-- `marginals::put_marginal` meets its contract: two lists laid one after the other are laid as one. Assumes nothing.
use mathlib.Core.Path.{◌≡◌}
use Prim.Native.Nat.{◌+◌, ◌*◌}
use native.Mathlib.Omega.{arith}
use borrow.Author.Rules.{rules}
use lib.ListN.{length, take}
use lib.Seq.{length-take-le}
use Rattle.factor.specs.Limits.{max_size}
use Rattle.factor.proofs.Laying.{two-laid}
use Rattle.marginals.proofs.put_marginal.Goals as goal

pub returns : goal.returns
returns c =
    let args = c.args in
    let m = c.args.m in
    let pre = c.requires in
    let long : length m.mean ≡ max_size = search rules in
    let first = length-take-le m.size m.mean (omega (arith, long, pre.0)) in
    two-laid args.results.now (take m.size m.mean) args.at (omega (arith, pre.1)) (take (m.size * m.size) m.covariance) _ _
    (args.at + m.size) (omega (arith, first)) c.copy_in.ensures c.copy_in-2.ensures
