-- A record leaves the store as long as it was. Assumes nothing.
use Prim.Native.Nat.{ℕ, ◌+◌, ◌*◌}
use mathlib.Core.Path.{◌≡◌, refl, ap, ◌∙◌}
use mathlib.Core.List.{List, ◌++◌}
use native.Mathlib.Omega.{arith}
use lib.Ieee.{Float}
use lib.ListN.{length, length-append}
use Rattle.cholesky.proofs.Forms.{exchanged-long}
use Rattle.factor.specs.Factor.{a_numbers, numbers}
use Rattle.factor.proofs.Laying.{lay-length}
use Rattle.factor.specs.declared.Factor.{Factor}
use Rattle.graph.specs.Record.{offset}
use Rattle.graph.specs.Registration.{Added, accept, stored}
use Rattle.graph.specs.Reached as calls
use Rattle.graph.specs.Reached.{Call, lent}
use Rattle.graph.proofs.Checking.{Taken, a-long, mean_long}
use Rattle.records.proofs.Asking.{Asks, nothing, asked, asks}
use Rattle.graph.proofs.Calls.{Comes, turned, named, taken, replaced, comes}
use Rattle.graph.specs.declared.Graph.{Graph}
use Rattle.records.specs.Records.{Request, record_at, request_store}

-- ---- the store of a call

numbers-are : (sizes : List ℕ) (f : Factor) → numbers sizes f ≡ a_numbers sizes f + f.rows + f.rows * f.rows
unfolding numbers
numbers-are sizes f = refl

taken-kept : (g : Graph) (store : List Float) (f : Factor) (a mean variance xi w : List Float) → Taken g f a mean variance store xi w
    → length (stored g store (accept (a ++ xi ++ w))) ≡ length store
taken-kept g store f a mean variance xi w t =
    let p = t.passed in
    let s = exchanged-long f.rows mean variance xi w t.weighing in
    lay-length store (a ++ xi ++ w) (offset g g.count)
    (omega (
      arith,
      length-append (a ++ xi) w,
      length-append a xi,
      numbers-are g.sizes f,
      s.0,
      s.1,
      a-long g f _ _ _ p.lengths,
      mean_long g f _ _ _ p.lengths,
      p.room,
    ))

comes_kept : {g : Graph} {keys olds : List ℕ} {store s : List Float} {x : Added} → Comes g keys olds store x s → length s ≡ length store
comes_kept (turned why) = refl
comes_kept (named name size n) = refl
comes_kept {g} {store = store} (taken f a mean variance xi w t e o) = taken-kept g store f a mean variance xi w t
comes_kept {g} {store = store} (replaced j h f a mean variance xi w t e o) = taken-kept g store f a mean variance xi w t

call_kept : (g : Graph) (store : List Float) (c : Call) → length (calls.store_after g store c) ≡ length (lent store c)
call_kept g store c = comes_kept (comes g store c)

-- ---- the store of a record

asks_kept : {g : Graph} {store : List Float} {bytes : List ℕ} {at : ℕ} {q : Request} → Asks g store bytes at q → length (request_store g store q) ≡ length store
asks_kept (nothing why) = refl
asks_kept {g} {store} (asked call next w) = call_kept g store call ∙ ap (λ (s : List Float). length s) w.own

pub record_same : (g : Graph) (store : List Float) (bytes : List ℕ) (at : ℕ) → length (request_store g store (record_at g store bytes at)) ≡ length store
record_same g store bytes at = asks_kept (asks g store bytes at)
