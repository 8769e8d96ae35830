-- What a job comes to is decided by its first bytes: with a store of at most so many numbers no reading looks past the first `enough` of them. Assumes nothing.
use Prim.Native.Nat.{ℕ, zero, suc, ◌+◌, ◌≤◌, ◌<◌}
use mathlib.Core.Path.{◌≡◌, refl, sym, ap, ◌∙◌}
use mathlib.Core.Bool.{Bool, true, false, cond}
use mathlib.Core.List.{List}
use native.Mathlib.Omega.{arith}
use borrow.Author.Tests.{lt-ltb, le-ltb, ltb-true, ltb-false}
use lib.Dec.{ltb}
use lib.Ieee.{Float}
use lib.ListN.{length, take}
use lib.Seq.{get_or-take, take_all, length-take-le}
use Rattle.std.specs.Prelude.{Result, Ok, Err}
use Rattle.factor.specs.Counting.{sum}
use Rattle.graph.specs.Record.{fresh, offset}
use Rattle.graph.specs.Reached.{Reached}
use Rattle.graph.specs.declared.Graph.{Graph}
use Rattle.graph.specs.declared.refusal.Refusal.{Refusal}
use Rattle.graph.proofs.Validity.{valid-variables, valid-count}
use Rattle.graph.proofs.Keeping.{good_of}
use Rattle.records.specs.Records.{longest, enough, step_of, request_store, record_at, Reading, reading, onward, read_from, read_all}
use Rattle.records.proofs.Agreement.{Agree, record_as}
use Rattle.records.proofs.Progress.{most-read, record_bounded}
use Rattle.graph.proofs.Calls.{fresh-reached}
use Rattle.records.proofs.Reading.{step-reached, record_next}
use Rattle.records.proofs.StoreLength.{record_same}

-- the tests of the end agree
ends_as : (b c at : ℕ) → ltb b (at + 1) ≡ ltb c (at + 1) → ltb at b ≡ ltb at c
ends_as b c at e = by (ltb c (at + 1)) refl
  where
    by : (t : Bool) → ltb c (at + 1) ≡ t → ltb at b ≡ ltb at c
    by true h = let l : c < at + 1 = ltb-true _ _ h in let m : b < at + 1 = ltb-true _ _ (e ∙ h) in le-ltb at b (omega arith) ∙ sym (le-ltb at c (omega arith))
    by false h = let l : at + 1 ≤ c = ltb-false _ _ h in let m : at + 1 ≤ b = ltb-false _ _ (e ∙ h) in lt-ltb at b (omega arith)
        ∙ sym (lt-ltb at c (omega arith))

module _ (b c : List ℕ) (room most : ℕ) (much : enough room ≤ most) (same : Agree b c most) where
  -- how a step goes on, in both
  onward_as : (next : Result ℕ Refusal) (g : Graph) (s : List Float) (place : ℕ) (f h : ℕ → Reading) → ((n : ℕ) → next ≡ Ok n → f n ≡ h n)
      → onward next g s place f ≡ onward next g s place h
  onward_as (Ok n) g s place f h e = e n refl
  onward_as (Err why) g s place f h e = refl

  ended : (turns : ℕ) (at place : ℕ) (bytes : List ℕ) (g : Graph) (store : List Float) → ltb at (length bytes) ≡ false
      → read_from turns bytes at place g store ≡ reading g (Ok tt) store
  unfolding read_from
  ended zero at place bytes g store e = refl
  ended (suc turns) at place bytes g store e = rw e

  module _ (at place : ℕ) (g : Graph) (store : List Float) where
    abbrev rest : Graph
    rest = (step_of g (record_at g store c at)).graph

    abbrev left : List Float
    left = request_store g store (record_at g store c at)

    one_turn : (m n : ℕ) → ltb at (length b) ≡ ltb at (length c) → record_at g store b at ≡ record_at g store c at
        → ((k : ℕ) → (step_of g (record_at g store c at)).next ≡ Ok k → read_from m b k (place + 1) rest left ≡ read_from n c k (place + 1) rest left)
        → read_from (suc m) b at place g store ≡ read_from (suc n) c at place g store
    unfolding read_from
    one_turn m n t e h =
        rw (t, e)
        (ap (λ (x : Reading). cond (ltb at (length c)) x (reading g (Ok tt) store)) (onward_as (step_of g (record_at g store c at)).next rest left place _ _ h))

  -- so far, the records of both are the same
  far : (at : ℕ) (g : Graph) (store : List Float) → Reached g → length store ≤ room → offset g g.count ≤ length store → at ≤ most-read g
      → at + longest ≤ most
  far at g store r st held bound = omega (arith, valid-variables g (good_of g r).1, valid-count g (good_of g r).1)

  from-here : (m n at place : ℕ) (g : Graph) (store : List Float) → Reached g → length store ≤ room → offset g g.count ≤ length store
      → at ≤ most-read g → length b ≤ at + m → length c ≤ at + n
      → read_from m b at place g store ≡ read_from n c at place g store
  from-here zero n at place g store r st held bound lb lc =
      let f : at + longest ≤ most = far at g store r st held bound in
      let t : ltb at (length b) ≡ ltb at (length c) = ends_as (length b) (length c) at (same.ends (at + 1) (omega arith)) in
      let z : ltb at (length b) ≡ false = le-ltb at (length b) (omega arith) in
      ended zero at place b g store z ∙ sym (ended n at place c g store (sym t ∙ z))
  from-here (suc m) zero at place g store r st held bound lb lc =
      let f : at + longest ≤ most = far at g store r st held bound in
      let t : ltb at (length b) ≡ ltb at (length c) = ends_as (length b) (length c) at (same.ends (at + 1) (omega arith)) in
      let z : ltb at (length c) ≡ false = le-ltb at (length c) (omega arith) in
      ended (suc m) at place b g store (t ∙ z) ∙ sym (ended zero at place c g store z)
  from-here (suc m) (suc n) at place g store r st held bound lb lc =
      let f : at + longest ≤ most = far at g store r st held bound in
      let t : ltb at (length b) ≡ ltb at (length c) = ends_as (length b) (length c) at (same.ends (at + 1) (omega arith)) in
      let k : length (left at place g store) ≡ length store = record_same g store c at in
      one_turn at place g store m n t (record_as b c most same g store (good_of g r).1 at f)
      (λ x e.
      let l : at < x = (record_next c g store at x e).0 in
      let p : x + most-read g ≤ at + most-read (rest at place g store) = (record_bounded g (good_of g r) store held at c x e).0 in
      let o : offset (rest at place g store) (rest at place g store).count ≤ length store = (record_bounded g (good_of g r) store held at c x e).1 in
      from-here m n x (place + 1) (rest at place g store) (left at place g store) (step-reached g (record_at g store c at) r) (omega arith)
      (omega arith) (omega arith) (omega arith) (omega arith))

  pub as_whole : (store : List Float) → length store ≤ room → read_all b store ≡ read_all c store
  unfolding read_all offset sum
  as_whole store st = from-here (length b) (length c) 0 0 fresh store fresh-reached st (omega arith) (omega arith) (omega arith) (omega arith)

-- the first bytes agree with all
taken : (bytes : List ℕ) (most : ℕ) → Agree (take most bytes) bytes most
taken bytes most = record { bytes = λ i l. get_or-take most bytes i 0 l; ends = λ m l. by (ltb most (length bytes)) refl m l }
  where
    by : (t : Bool) → ltb most (length bytes) ≡ t → (m : ℕ) → m ≤ most → ltb (length (take most bytes)) m ≡ ltb (length bytes) m
    by true e m l =
        let h : most < length bytes = ltb-true _ _ e in
        let k : length (take most bytes) ≡ most = length-take-le most bytes (omega arith) in
        le-ltb (length (take most bytes)) m (omega arith) ∙ sym (le-ltb (length bytes) m (omega arith))
    by false e m l = ap (λ (s : List ℕ). ltb (length s) m) (take_all most bytes (ltb-false _ _ e))

-- the first `enough` bytes, or any more of them, decide the answer and the store
pub first_decide : (bytes : List ℕ) (room most : ℕ) (store : List Float) → enough room ≤ most → length store ≤ room → read_all (take most bytes) store
    ≡ read_all bytes store
first_decide bytes room most store much st = as_whole (take most bytes) bytes room most much (taken bytes most) store st
