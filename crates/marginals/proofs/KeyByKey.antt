-- The marginals key by key: the results hold those of the keys before, and what is still to be found is what follows. Assumes nothing.
use mathlib.Core.Path.{◌≡◌, refl, sym, ap, ◌∙◌}
use mathlib.Core.List.{List, [], ◌∷◌, ◌++◌, append-nil, append_assoc}
use Prim.Native.Nat.{ℕ, suc, ◌+◌, ◌≤◌, ◌<◌}
use native.Mathlib.Omega.{arith}
use native.Mathlib.Numerals.{add-one}
use lib.Ieee.{Float}
use lib.ListN.{length, get_or, take, drop, length-append, take-append-drop, drop_of_length-le}
use lib.Seq.{length-take-le, drop-cons, drop-drop}
use Rattle.factor.specs.Factor.{lay}
use Rattle.schedule.specs.Gather.{Gathered}
use Rattle.gaussian.specs.Elimination.{Outcome, pivot, not_finite, message}
use Rattle.cholesky.specs.Forms.{Form}
use Rattle.cholesky.specs.Forms as forms
use Rattle.gaussian.specs.Marginals.{moments_of}
use Rattle.messages.specs.Values.{none}
use Rattle.messages.proofs.Telling.{carried-tells}
use Rattle.messages.specs.declared.Undone.{Undone}
use Rattle.std.proofs.Common.{Err}
use Rattle.marginals.specs.Marginals.{Found, found, refused, found_by, found_in, missing_from, marginals_in}
use Rattle.graph.specs.Moments.{moment_numbers, start_of}
use Rattle.graph.proofs.Moments.{start_none, start_more}
use Rattle.marginals.specs.Asked.{found_at, found_from, last_by, Finds}
use Rattle.marginals.proofs.Lengths.{moments-long}
use Rattle.factor.proofs.Laying.{lay-take, lay-drop, lay-length}

-- ---- a list and its first

through_first : (f : Found) (rest : List Found) (k : ℕ) → missing_from k (f ∷ []) ≡ none
    → (missing_from k (f ∷ rest) ≡ missing_from (k + 1) rest) × (marginals_in (f ∷ rest) ≡ marginals_in (f ∷ []) ++ marginals_in rest)
unfolding missing_from marginals_in
through_first (found mean covariance) rest k e = (refl, ap (λ (l : List Float). l ++ marginals_in rest) (sym (append-nil (mean ++ covariance))))
through_first (refused why) rest k e = absurd (cc)

halted_first : (f : Found) (rest : List Found) (k : ℕ) (u : Undone) → missing_from k (f ∷ []) ≡ Err u → missing_from k (f ∷ rest) ≡ Err u
unfolding missing_from
halted_first (found mean covariance) rest k u e = absurd (cc)
halted_first (refused w) rest k u e = e

-- ---- how many numbers a key has

moments-count : (s r : ℕ) (a xi w : List Float) (m : Form) (k : ℕ) → moments_of r s a xi w ≡ m → missing_from k (found_by m ∷ []) ≡ none
    → length (marginals_in (found_by m ∷ [])) ≡ moment_numbers s
unfolding found_by missing_from marginals_in
moments-count s r a xi w (forms.form mean covariance) k e h =
    let long = moments-long s mean covariance r a xi w e in
    ap length (append-nil (mean ++ covariance)) ∙ length-append mean covariance ∙ omega (arith, long.0, long.1)
moments-count s r a xi w forms.pivot k e h = absurd (cc)
moments-count s r a xi w forms.not_finite k e h = absurd (cc)

outcome-count : (s : ℕ) (o : Outcome) (k : ℕ) → missing_from k (found_in s o ∷ []) ≡ none → length (marginals_in (found_in s o ∷ [])) ≡ moment_numbers s
unfolding found_in missing_from marginals_in
outcome-count s pivot k h = absurd (cc)
outcome-count s not_finite k h = absurd (cc)
outcome-count s (message r a xi w) k h = moments-count s r a xi w (moments_of r s a xi w) k refl h

module _ (sizes : List ℕ) (factors messages : List Float) (keys heads : List ℕ) where
  found-count : (k : ℕ) (q : Gathered) → missing_from k (found_at sizes factors messages keys heads k q ∷ []) ≡ none
      → length (marginals_in (found_at sizes factors messages keys heads k q ∷ [])) ≡ moment_numbers (get_or sizes k 0)
  unfolding found_at
  found-count k q h = outcome-count (get_or sizes k 0) (last_by sizes factors messages keys heads k q) k h

  module _ (qs : List Gathered) where
    abbrev all : List Found
    all = found_from sizes factors messages keys heads 0 qs

    abbrev rest : ℕ → List Found
    rest k = found_from sizes factors messages keys heads k (drop k qs)

    -- before the turn of key k
    pub record Walked (results₀ results : List Float) (to k : ℕ) : Type 0 where
      pub low : k ≤ length qs
      pub place : to ≡ start_of sizes k
      pub long : length results ≡ length results₀
      pub within : to ≤ length results
      pub stop : missing_from 0 all ≡ missing_from k (rest k)
      pub done : marginals_in all ≡ take to results ++ marginals_in (rest k)
      pub after : drop to results ≡ drop to results₀

    pub walk_start : (results : List Float) → Walked results results 0 0
    walk_start results = record { low = omega arith; place = sym (start_none sizes); long = refl; within = omega arith; stop = refl; done = refl; after = refl }

    module _ (results₀ results : List Float) (to k : ℕ) (q : Gathered) (w : Walked results₀ results to k) (h : k < length qs) (eq : get_or qs k q ≡ q) where
      abbrev f : Found
      f = found_at sizes factors messages keys heads k q

      opened : rest k ≡ f ∷ rest (k + 1)
      unfolding found_from
      opened = ap (found_from sizes factors messages keys heads k) (drop-cons qs k q h ∙ ap (λ (x : Gathered). x ∷ drop (suc k) qs) eq
          ∙ ap (λ (n : ℕ). q ∷ drop n qs) (sym (add-one k)))

      pub walk_on : (results' : List Float) (to' : ℕ) → missing_from k (f ∷ []) ≡ none → results' ≡ lay results to (marginals_in (f ∷ [])) → to'
          ≡ to + moment_numbers (get_or sizes k 0)
          → to + moment_numbers (get_or sizes k 0) ≤ length results → Walked results₀ results' to' (k + 1)
      walk_on results' to' e el et room =
          let n : length (marginals_in (f ∷ [])) ≡ moment_numbers (get_or sizes k 0) = found-count k q e in
          let t : to' ≡ to + length (marginals_in (f ∷ [])) = omega arith in
          let fits : to + length (marginals_in (f ∷ [])) ≤ length results = omega arith in
          let one = through_first f (rest (k + 1)) k e in
          let front : take to' results' ≡ take to results ++ marginals_in (f ∷ []) = rw (el, t) (lay-take results (marginals_in (f ∷ [])) to (omega arith)) in
          let l : length results' ≡ length results = ap length el ∙ lay-length results (marginals_in (f ∷ [])) to fits in
          record {
            low = omega arith;
            place = et ∙ ap (λ (x : ℕ). x + moment_numbers (get_or sizes k 0)) w.place ∙ sym (start_more sizes k);
            long = l ∙ w.long;
            within = omega arith;
            stop = w.stop ∙ ap (missing_from k) opened ∙ one.0;
            done =
                w.done ∙ ap (λ (r : List Found). take to results ++ marginals_in r) opened ∙ ap (λ (r : List Float). take to results ++ r) one.1
                ∙ sym (append_assoc (take to results) (marginals_in (f ∷ [])) (marginals_in (rest (k + 1))))
                ∙ ap (λ (r : List Float). r ++ marginals_in (rest (k + 1))) (sym front);
            after =
                rw (el, t) (lay-drop results (marginals_in (f ∷ [])) to (omega arith)
                ∙ sym (drop-drop (length (marginals_in (f ∷ []))) to results) ∙ ap (drop (length (marginals_in (f ∷ [])))) w.after
                ∙ drop-drop (length (marginals_in (f ∷ []))) to results₀);
          }

      pub walk_halted : (numbers : ℕ) (u : Undone) (results' : List Float) → Err u ≡ missing_from k (f ∷ []) → Finds all numbers (Err u) results₀ results'
      walk_halted numbers u results' e =
          let s : Err u ≡ missing_from 0 all = sym (w.stop ∙ ap (missing_from k) opened ∙ halted_first f (rest (k + 1)) k u (sym e)) in
          record { tells = s; told = carried-tells _ _ s; count = λ t. absurd (cc); stand = λ t. absurd (cc) }

    pub walk-done : (results₀ results : List Float) (to k : ℕ) → Walked results₀ results to k → length qs ≤ k
        → Finds all (start_of sizes (length qs)) none results₀ results
    unfolding found_from missing_from marginals_in
    walk-done results₀ results to k w h =
        let e : drop k qs ≡ [] = drop_of_length-le qs {i = k} h in
        let d : marginals_in all ≡ take to results = w.done ∙ rw e (append-nil (take to results)) in
        let n : length (marginals_in all) ≡ to = ap length d ∙ length-take-le to results w.within in
        let i : k ≡ length qs = omega (arith, w.low) in
        let s : none ≡ missing_from 0 all = sym (w.stop ∙ rw e refl) in
        record {
          tells = s;
          told = carried-tells _ _ s;
          count = λ t. n ∙ w.place ∙ ap (start_of sizes) i;
          stand = λ t. rw (n, d) (sym (take-append-drop to results) ∙ ap (λ (l : List Float). take to results ++ l) w.after);
        }
