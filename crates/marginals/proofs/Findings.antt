-- One key: what its answer tells is what was found, and the results then hold it. Assumes nothing.
use mathlib.Core.Path.{◌≡◌, refl}
use mathlib.Core.List.{List, [], ◌∷◌, ◌++◌, append-nil}
use Prim.Native.Nat.{ℕ, ◌*◌}
use lib.Ieee.{Float}
use lib.ListN.{get_or, take}
use lib.Seq.{take_at}
use Rattle.factor.specs.Factor.{lay}
use Rattle.graph.specs.declared.refusal.Refusal.{Refusal}
use Rattle.schedule.specs.Gather.{Gathered}
use Rattle.plan.specs.Gather.{gathered_of}
use Rattle.plan.specs.declared.gather.Gathered as arrays
use Rattle.gaussian.specs.Elimination.{Outcome, pivot, not_finite, message, eliminate}
use Rattle.gaussian.specs.Answers.{views_of, marginal_answer, marginal_from}
use Rattle.gaussian.specs.Asked.{Asked}
use Rattle.cholesky.specs.Forms.{Form}
use Rattle.cholesky.specs.Forms as forms
use Rattle.gaussian.specs.Marginals.{moments_of}
use Rattle.gaussian.specs.declared.marginal.Marginal.{Marginal}
use Rattle.gaussian.specs.declared.marginal.MarginalFault.{MarginalFault}
use Rattle.std.proofs.Common.{Result, Ok, Err}
use Rattle.lists.specs.Lists.{HoldsGathered}
use Rattle.lists.specs.declared.Lists.{Lists}
use Rattle.messages.specs.Values.{none, refused_at}
use Rattle.messages.specs.Asked.{cleared_of, listed_slots}
use Rattle.marginals.specs.Marginals.{Found, found, refused, found_by, found_in, missing_from, marginals_in}
use Rattle.marginals.specs.Asked.{last_by, found_at, AskedAt, refusal_of}
use Rattle.marginals.proofs.Lengths.{moments-long}
use Rattle.factor.proofs.Laying.{lay-none}

-- ---- the last elimination, by its lists

module _ (sizes : List ℕ) (factors messages : List Float) (keys heads : List ℕ) (key : ℕ) (q : Gathered) (l : Lists) (h : HoldsGathered key q l) where
  pub lists_asked : (work : ℕ) → AskedAt sizes factors messages work keys heads key q
      → Asked (key ∷ []) (cleared_of l) sizes factors messages work keys heads (listed_slots l)
  lists_asked work a = rw (h.cleared, h.slots) a

  pub lists_last : (s : ℕ) (r : Result Marginal MarginalFault) → r ≡ marginal_from key s
      (eliminate (views_of factors messages keys heads (listed_slots l)) (key ∷ []) (cleared_of l) sizes)
      → r ≡ marginal_from key s (last_by sizes factors messages keys heads key q)
  lists_last s r e = rw (h.cleared, h.slots) at e

-- ---- the answer

-- what an answer tells of a key of size s
abbrev Tells : ℕ → Result Marginal MarginalFault → Found → Type 0
Tells s (Ok m) f = (m.size ≡ s) × (f ≡ found (take s m.mean) (take (s * s) m.covariance))
Tells s (Err fault) f = f ≡ refused (refusal_of fault)

tells-moments : (key s r : ℕ) (a xi w : List Float) (m : Form) → moments_of r s a xi w ≡ m → Tells s (marginal_answer key s m) (found_by m)
unfolding marginal_answer found_by
tells-moments key s r a xi w (forms.form mean covariance) e =
    let long = moments-long s mean covariance r a xi w e in
    (refl, rw (take_at mean _ s long.0, take_at covariance _ (s * s) long.1) refl)
tells-moments key s r a xi w forms.pivot e = refl
tells-moments key s r a xi w forms.not_finite e = refl

tells : (key s : ℕ) (o : Outcome) → Tells s (marginal_from key s o) (found_in s o)
unfolding marginal_from found_in
tells key s pivot = refl
tells key s not_finite = refl
tells key s (message r a xi w) = tells-moments key s r a xi w (moments_of r s a xi w) refl

-- ---- the results

module _ (f : Found) (key to : ℕ) (results : List Float) where
  pub refused-is : (why : Refusal) → f ≡ refused why → (refused_at key why ≡ missing_from key (f ∷ [])) × (results ≡ lay results to (marginals_in (f ∷ [])))
  unfolding missing_from marginals_in
  refused-is why e = rw e (refl, lay-none results to)

  pub found-is : (mean covariance after : List Float) → f ≡ found mean covariance → after ≡ lay results to (mean ++ covariance)
      → (none ≡ missing_from key (f ∷ [])) × (after ≡ lay results to (marginals_in (f ∷ [])))
  unfolding missing_from marginals_in
  found-is mean covariance after e l = rw (e, append-nil (mean ++ covariance)) (refl, l)

module _ (sizes : List ℕ) (factors messages : List Float) (keys heads : List ℕ) (key to : ℕ) (q : arrays.Gathered) (results : List Float) where
  abbrev s : ℕ
  s = get_or sizes key 0

  abbrev f : Found
  f = found_at sizes factors messages keys heads key (gathered_of q)

  module _ (a : Result Marginal MarginalFault) (ea : a ≡ marginal_from key s (last_by sizes factors messages keys heads key (gathered_of q))) where
    told : Tells s a f
    unfolding found_at
    told = rw ea (tells key s (last_by sizes factors messages keys heads key (gathered_of q)))

    pub fault-told : (fault : MarginalFault) → a ≡ Err fault → (refused_at key (refusal_of fault) ≡ missing_from key (f ∷ [])) ×
        (results ≡ lay results to (marginals_in (f ∷ [])))
    fault-told fault e = refused-is f key to results (refusal_of fault) (rw e at told)

    pub made-size : (m : Marginal) → a ≡ Ok m → m.size ≡ s
    made-size m e = (rw e at told).0

    pub made-told : (m : Marginal) → a ≡ Ok m → (after : List Float) → after
        ≡ lay results to (take m.size m.mean ++ take (m.size * m.size) m.covariance)
        → (none ≡ missing_from key (f ∷ [])) × (after ≡ lay results to (marginals_in (f ∷ [])))
    made-told m e after l = found-is f key to results (take s m.mean) (take (s * s) m.covariance) after (rw e at told).1 (rw (made-size m e) at l)
