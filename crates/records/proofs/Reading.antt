-- The records one after the other: a turn of the reading, its ends, and that it stays within the bytes and the reachable graphs. Assumes nothing.
use Prim.Native.Nat.{ℕ, zero, suc, ◌+◌, ◌-◌, ◌≤◌, ◌<◌}
use mathlib.Core.Path.{◌≡◌, refl, sym, ◌∙◌}
use mathlib.Core.List.{List}
use native.Mathlib.Omega.{arith}
use borrow.Author.Tests.{lt-ltb, le-ltb}
use lib.Ieee.{Float}
use lib.ListN.{length}
use Rattle.std.specs.Prelude.{Result, Ok, Err}
use Rattle.graph.proofs.Calls.{reached-more}
use Rattle.graph.specs.Reached.{answered, Reached}
use Rattle.graph.specs.declared.Graph.{Graph}
use Rattle.graph.specs.declared.refusal.Refusal.{Refusal}
use Rattle.records.specs.Records.{Request, ask, refuse, record_at, next_of, step_of, Reading, reading, onward, read_from}
use Rattle.records.proofs.Asking.{Asks, nothing, asked, asks}
use Rattle.records.proofs.Requests.{Meets}

-- ---- the next record begins later, within the bytes

-- the place that a call goes on at is that of its request
next-is : (o : Result ℕ Refusal) (next n : ℕ) → next_of o next ≡ Ok n → next ≡ n
next-is (Ok k) next n h = cc
next-is (Err why) next n h = cc

module _ (bytes : List ℕ) (g : Graph) (store : List Float) (at n : ℕ) where
  goes_on : {q : Request} → Asks g store bytes at q → (step_of g q).next ≡ Ok n → (at < n) × (n ≤ length bytes)
  goes_on (nothing why) e = cc
  goes_on (asked call next w) e = rw (← next-is (answered g call).outcome next n e) (w.later, w.there)

  pub record_next : (step_of g (record_at g store bytes at)).next ≡ Ok n → (at < n) × (n ≤ length bytes)
  record_next e = goes_on (asks g store bytes at) e

-- ---- the graphs on the way are those that calls yield

pub step-reached : (g : Graph) (q : Request) → Reached g → Reached (step_of g q).graph
step-reached g (ask call next) r = reached-more g _ call r refl
step-reached g (refuse why) r = r

-- ---- a turn of the reading

module _ (bytes : List ℕ) (at place : ℕ) (g : Graph) (store : List Float) (all : Reading)
    (e : all ≡ read_from (length bytes - place) bytes at place g store) where
  -- no bytes are left
  pub all_read : length bytes ≤ at → all ≡ reading g (Ok tt) store
  unfolding read_from
  all_read l = e ∙ by (length bytes - place)
    where
      by : (turns : ℕ) → read_from turns bytes at place g store ≡ reading g (Ok tt) store
      by zero = refl
      by (suc turns) = rw (le-ltb at (length bytes) l)

  module _ (left : at < length bytes) (counted : place ≤ at) (r : Result ℕ Refusal) (h : Graph) (s : List Float)
      (turn : Meets g store (record_at g store bytes at) r h s) where
    one_turn : all ≡ onward r h s place (λ next. read_from (length bytes - (place + 1)) bytes next (place + 1) h s)
    unfolding read_from
    one_turn = let n : length bytes - place ≡ suc (length bytes - (place + 1)) = omega arith in e ∙ rw (n, lt-ltb at (length bytes) left, turn.0, turn.1, turn.2)

    -- the record was taken, or turned back
    pub on : (n : ℕ) → r ≡ Ok n → (all ≡ read_from (length bytes - (place + 1)) bytes n (place + 1) h s) × (at < n) × (n ≤ length bytes)
    on n k = let w : (at < n) × (n ≤ length bytes) = record_next bytes g store at n (sym turn.0 ∙ k) in (one_turn ∙ rw k, w.0, w.1)

    pub off : (why : Refusal) → r ≡ Err why → all ≡ reading h (Err (record { why = why; place = place })) s
    off why k = one_turn ∙ rw k
