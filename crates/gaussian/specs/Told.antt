-- Inner: what an elimination and the making of a marginal tell in the numbers of document 01: 15 is a cleared block with a refused pivot, 16 a marginal
-- with one, and 17 a message or marginal that is not finite.
use Rattle.std.specs.Prelude.{[], ◌∷◌, ℕ, Result, Ok, Err}
use Rattle.cholesky.specs.Forms.{Form}
use Rattle.cholesky.specs.Forms as forms
use Rattle.cholesky.specs.declared.Fault.{Fault}
use Rattle.cholesky.specs.declared.Fault.TheVariants.{Pivot, NotFinite}
use Rattle.factor.specs.Told.{Told, value, refusal}
use Rattle.gaussian.specs.Elimination.{Outcome, pivot, not_finite, message}
use Rattle.gaussian.specs.Marginals.{moments_of}
use Rattle.gaussian.specs.declared.marginal.Marginal.{Marginal}
use Rattle.gaussian.specs.declared.marginal.MarginalFault.{MarginalFault}
use Rattle.gaussian.specs.declared.marginal.MarginalFault.TheVariants as fault

-- ---- of the code's answers

-- the rows of the message
unfoldable pub eliminated_told : Result ℕ Fault → Told
eliminated_told (Ok rows) = value (rows ∷ [])
eliminated_told (Err Pivot) = refusal 15 []
eliminated_told (Err NotFinite) = refusal 17 []

unfoldable pub solved_told : Result (Unit {0}) Fault → Told
solved_told (Ok u) = value []
solved_told (Err Pivot) = refusal 16 []
solved_told (Err NotFinite) = refusal 17 []

unfoldable pub marginal_told : Result Marginal MarginalFault → Told
marginal_told (Ok marginal) = value []
marginal_told (Err fault.ClearedPivot) = refusal 15 []
marginal_told (Err fault.Pivot) = refusal 16 []
marginal_told (Err fault.NotFinite) = refusal 17 []

-- ---- of what the definitions come to

unfoldable pub message_told : Outcome → Told
message_told (message r a xi w) = value (r ∷ [])
message_told pivot = refusal 15 []
message_told not_finite = refusal 17 []

unfoldable pub moments_told : Form → Told
moments_told (forms.form mean covariance) = value []
moments_told forms.pivot = refusal 16 []
moments_told forms.not_finite = refusal 17 []

-- a marginal from the last elimination, which keeps a key of size s alone
unfoldable pub last_told : ℕ → Outcome → Told
last_told s (message r a xi w) = moments_told (moments_of r s a xi w)
last_told s pivot = refusal 15 []
last_told s not_finite = refusal 17 []
