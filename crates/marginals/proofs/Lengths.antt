-- A mean has as many numbers as its key's size, and a covariance as many as its square. Assumes nothing.
use mathlib.Core.Path.{◌≡◌, ◌∙◌}
use mathlib.Core.List.{List}
use Prim.Native.Nat.{ℕ, ◌*◌}
use lib.ListN.{length, replicate, length-replicate}
use lib.Ieee.{Float}
use Rattle.matrix.specs.Views.{columns, flip}
use Rattle.matrix.specs.Sums.{plus_zero}
use Rattle.matrix.specs.declared.Update.TheVariants.{Add}
use Rattle.matrix.proofs.Dense.{product-length}
use Rattle.cholesky.specs.Forms.{form}
use Rattle.cholesky.proofs.Forms.{exchanged-long}
use Rattle.gaussian.specs.Marginals.{moments_of, xi_of, w_of}

-- the moments of s columns
abbrev pub Long : ℕ → List Float → List Float → Type 0
Long s mean covariance = (length mean ≡ s) × (length covariance ≡ s * s)

pub moments-long : (s : ℕ) (mean covariance : List Float) (y : ℕ) (a xi w : List Float) → moments_of y s a xi w ≡ form mean covariance → Long s mean covariance
unfolding moments_of
moments-long s mean covariance y a xi w e =
    let h = exchanged-long s (xi_of y s a xi) (w_of y s a w) mean covariance e in
    (h.0 ∙ product-length Add (columns s) s a (flip (columns y)) xi (columns y) y (replicate s plus_zero) 1 ∙ length-replicate s plus_zero, h.1)
