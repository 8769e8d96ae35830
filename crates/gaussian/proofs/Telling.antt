-- An answer that is the definition's tells the definition's numbers. Assumes nothing.
use Prim.Native.Nat.{ℕ}
use mathlib.Core.Path.{◌≡◌, refl, sym, ap, ◌∙◌}
use mathlib.Core.List.{List}
use lib.Ieee.{Float}
use Rattle.gaussian.specs.Elimination.{Outcome, pivot, not_finite, message}
use Rattle.gaussian.specs.Answers.{eliminated_as, message_stored, marginal_answer, marginal_from, marginal_of, moments_in}
use Rattle.cholesky.specs.Forms.{Form}
use Rattle.cholesky.specs.Forms as forms
use Rattle.std.specs.Prelude.{Result, Ok, Err}
use Rattle.cholesky.specs.declared.Fault.{Fault}
use Rattle.cholesky.specs.declared.Fault.TheVariants.{Pivot, NotFinite}
use Rattle.gaussian.specs.Marginals.{moments_of}
use Rattle.gaussian.specs.Told.{eliminated_told, solved_told, marginal_told, message_told, moments_told, last_told}
use Rattle.gaussian.specs.declared.marginal.Marginal.{Marginal}
use Rattle.gaussian.specs.declared.marginal.MarginalFault.{MarginalFault}
use Rattle.cholesky.specs.Answers.{told}

-- an elimination's answer with the message store, and what the answer tells
pub stored-tells : (r : Result ℕ Fault) (o : Outcome) (l s : List Float) (to : ℕ) → (r ≡ eliminated_as o) × (s ≡ message_stored l to o)
    → (r ≡ eliminated_as o) × ((s ≡ message_stored l to o) × (eliminated_told r ≡ message_told o))
unfolding eliminated_as eliminated_told message_told
stored-tells r o l s to (e, h) = (e, (h, ap eliminated_told e ∙ go o))
  where
    go : (o : Outcome) → eliminated_told (eliminated_as o) ≡ message_told o
    go (message r a xi w) = refl
    go pivot = refl
    go not_finite = refl

-- the solving for a mean and a covariance
pub solved-tells : (m : Form) (r : Result (Unit {0}) Fault) (mean covariance : List Float) → m ≡ told r mean covariance
    → (m ≡ told r mean covariance) × (solved_told r ≡ moments_told m)
unfolding told solved_told moments_told
solved-tells m r mean covariance e = (e, go r ∙ sym (ap moments_told e))
  where
    go : (r : Result (Unit {0}) Fault) → solved_told r ≡ moments_told (told r mean covariance)
    go (Ok u) = refl
    go (Err Pivot) = refl
    go (Err NotFinite) = refl

-- a marginal from what its message comes to
by_moments : (key s : ℕ) (m : Form) → marginal_told (marginal_answer key s m) ≡ moments_told m
unfolding marginal_answer marginal_told moments_told
by_moments key s (forms.form mean covariance) = refl
by_moments key s forms.pivot = refl
by_moments key s forms.not_finite = refl

pub from-tells : (key s y : ℕ) (t : List Float) (x : Result Marginal MarginalFault) → x ≡ marginal_of key s y t
    → (x ≡ marginal_of key s y t) × (marginal_told x ≡ moments_told (moments_in y s t))
unfolding marginal_of
from-tells key s y t x e = (e, ap marginal_told e ∙ by_moments key s (moments_in y s t))

-- a marginal from the last elimination
pub last-tells : (key s : ℕ) (o : Outcome) (x : Result Marginal MarginalFault) → x ≡ marginal_from key s o
    → (x ≡ marginal_from key s o) × (marginal_told x ≡ last_told s o)
unfolding marginal_from marginal_told last_told
last-tells key s o x e = (e, ap marginal_told e ∙ go o)
  where
    go : (o : Outcome) → marginal_told (marginal_from key s o) ≡ last_told s o
    go (message r a xi w) = by_moments key s (moments_of r s a xi w)
    go pivot = refl
    go not_finite = refl
