-- Inner: what the code answers for an outcome, and what the message store then holds.
use Rattle.std.specs.Prelude.{ℕ, ◌+◌, ◌-◌, ◌*◌, List, [], ◌++◌, map, length, replicate, Float, Result, Ok, Err}
use Rattle.matrix.specs.Views.{part, splice}
use Rattle.cholesky.specs.declared.Fault.{Fault}
use Rattle.cholesky.specs.declared.Fault.TheVariants as fault
use Rattle.workspace.specs.Sums.{Sums}
use Rattle.workspace.specs.Frames.{frame_of}
use Rattle.slots.specs.Views.{FactorView, rows_of_all}
use Rattle.slots.specs.Tables.{head_of, read_view, view_at}
use Rattle.slots.specs.declared.layout.Layout.{Layout}
use Rattle.gaussian.specs.Elimination.{Ended, refused, done, Outcome, pivot, not_finite, message, branched}
use Rattle.matrix.specs.Sums.{plus_zero}
use Rattle.factor.specs.Limits.{max_size}
use Rattle.cholesky.specs.Forms.{Form}
use Rattle.cholesky.specs.Forms as forms
use Rattle.gaussian.specs.declared.marginal.Marginal.{Marginal}
use Rattle.gaussian.specs.declared.marginal.MarginalFault.{MarginalFault}
use Rattle.gaussian.specs.declared.marginal.MarginalFault.TheVariants.{ClearedPivot, Pivot, NotFinite}
use Rattle.gaussian.specs.Marginals.{moments_of}

-- the rows of the message; 15 is `Pivot` and 17 is `NotFinite`
unfoldable pub eliminated_as : Outcome → Result ℕ Fault
eliminated_as pivot = Err fault.Pivot
eliminated_as not_finite = Err fault.NotFinite
eliminated_as (message r a xi w) = Ok r

-- a message stands as A, xi, W from place `to` on, and the rest is as it was; a refusal leaves the whole
unfoldable pub message_stored : List Float → ℕ → Outcome → List Float
message_stored l to pivot = l
message_stored l to not_finite = l
message_stored l to (message r a xi w) = splice l to (to + length (a ++ (xi ++ w))) (a ++ (xi ++ w))

-- where the work store t then holds them, for u cleared and d kept columns
unfoldable pub left_in : (u d : ℕ) (t : List Float) → Outcome → List Float
left_in u d t pivot = []
left_in u d t not_finite = []
left_in u d t (message r a xi w) = part t (frame_of u r d).a (frame_of u r d).end

-- the factors of a list of slot numbers
unfoldable pub views_of : (factors messages : List Float) (keys heads slots : List ℕ) → List FactorView
views_of factors messages keys heads slots = map (λ number. read_view factors messages keys (head_of heads number)) slots

-- ---- between the functions

-- what is known after Cholesky: done, with these matrices; or refused, and the matrices no longer matter
unfoldable pub ended_as : Result (Unit {0}) Fault → Sums → Ended
ended_as (Ok u) σ = done σ
ended_as (Err why) σ = refused

unfoldable pub finished_as : Ended → Result (Unit {0}) Fault
finished_as (done σ) = Ok tt
finished_as refused = Err fault.Pivot

-- the branch with the factors read one by one
unfoldable pub branched_at : (u d : ℕ) (m : Layout) (factors messages : List Float) (keys heads slots : List ℕ) → Outcome
branched_at u d m factors messages keys heads slots =
    branched u d (rows_of_all m (view_at factors messages keys heads slots) (length slots)) m (view_at factors messages keys heads slots) (length slots)

-- n places, of which the first hold a list and the others zeros
abbrev pub padded_floats : ℕ → List Float → List Float
padded_floats n l = l ++ replicate (n - length l) plus_zero

abbrev pub marginal_at : (key s : ℕ) (mean covariance : List Float) → Marginal
marginal_at key s mean covariance = record { key = key; size = s; mean = mean; covariance = covariance }

-- 16 is `Pivot` and 17 is `NotFinite`
unfoldable pub marginal_answer : ℕ → ℕ → Form → Result Marginal MarginalFault
marginal_answer key s (forms.form mean covariance) =
    Ok (marginal_at key s (padded_floats max_size mean) (padded_floats (max_size * max_size) covariance))
marginal_answer key s forms.pivot = Err Pivot
marginal_answer key s forms.not_finite = Err NotFinite

-- A, xi and W of the message stand one after the other at the start of t
abbrev pub moments_in : ℕ → ℕ → List Float → Form
moments_in y s t = moments_of y s (part t 0 (y * s)) (part t (y * s) (y * s + y)) (part t (y * s + y) (y * s + y + y * y))

unfoldable pub marginal_of : (key s y : ℕ) (t : List Float) → Result Marginal MarginalFault
marginal_of key s y t = marginal_answer key s (moments_in y s t)

-- from the last elimination, which keeps the key alone; 15 is `ClearedPivot`
unfoldable pub marginal_from : ℕ → ℕ → Outcome → Result Marginal MarginalFault
marginal_from key s pivot = Err ClearedPivot
marginal_from key s not_finite = Err NotFinite
marginal_from key s (message r a xi w) = marginal_answer key s (moments_of r s a xi w)
