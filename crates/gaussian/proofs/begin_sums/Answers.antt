-- `gaussian::begin_sums` meets its contract: zeros as far as the frame reaches are the sums before the first factor. Assumes nothing.
use Rattle.std.proofs.Common.{◌≡◌, length, take, replicate, ap, arith, ◌∙◌, length-take}
use lib.Ieee.{of_bits}
use Rattle.matrix.specs.Sums.{plus_zero}
use Rattle.gaussian.proofs.Beginning.{begun_z, begun_x}
use Rattle.gaussian.proofs.begin_sums.Goals as goal
use Rattle.gaussian.proofs.begin_sums.Goals.{After-fill}

zeros : (c : After-fill) → c.fill.new.self ≡ replicate c.args.f.end plus_zero
unfolding of_bits
zeros c =
    let all : c.fill.new.self ≡ replicate (length (take c.args.f.end c.args.work.now)) plus_zero = c.fill.ensures.after (λ y h. h) in
    let n : length (take c.args.f.end c.args.work.now) ≡ c.args.f.end = omega (arith, length-take c.args.f.end c.args.work.now, c.requires.0.fits) in
    all ∙ ap (λ k. replicate k plus_zero) n

pub returns-in-Z : goal.returns-in-Z
returns-in-Z c = begun_z c.args.f c.args.work.now _ c.requires.0 (zeros (goal.at.returns-in-Z c).After-fill) _ c.in-Z.is

pub returns-in-X : goal.returns-in-X
returns-in-X c = begun_x c.args.f c.args.work.now _ c.requires.0 (zeros (goal.at.returns-in-X c).After-fill) _ _ c.in-X.is c.fill_diagonal_at.ensures
