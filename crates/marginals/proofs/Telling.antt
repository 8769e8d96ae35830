-- The numbers with which `gaussian` tells that a key has no marginal are those of the refusals here. Assumes nothing.
use Prim.Native.Nat.{ℕ}
use mathlib.Core.Path.{◌≡◌, refl}
use mathlib.Core.List.{[]}
use Rattle.factor.specs.Told.{Told, value, refusal}
use Rattle.graph.specs.Refusals.{refusal_number}
use Rattle.gaussian.specs.Elimination.{Outcome, pivot, not_finite, message}
use Rattle.cholesky.specs.Forms.{Form}
use Rattle.cholesky.specs.Forms as forms
use Rattle.gaussian.specs.Marginals.{moments_of}
use Rattle.gaussian.specs.Told.{moments_told, last_told}
use Rattle.marginals.specs.Marginals.{Found, found, refused, found_by, found_in}

abbrev pub found_told : Found → Told
found_told (found mean covariance) = value []
found_told (refused why) = refusal (refusal_number why) []

by_moments : (m : Form) → found_told (found_by m) ≡ moments_told m
unfolding found_by moments_told
by_moments (forms.form mean covariance) = refl
by_moments forms.pivot = refl
by_moments forms.not_finite = refl

pub found-tells : (s : ℕ) (o : Outcome) → found_told (found_in s o) ≡ last_told s o
unfolding found_in last_told
found-tells s (message r a xi w) = by_moments (moments_of r s a xi w)
found-tells s pivot = refl
found-tells s not_finite = refl
