-- The answer and the store by how the elimination ended. Assumes nothing.
use Prim.Native.Nat.{ℕ, ◌+◌, ◌-◌, ◌≤◌, ◌<◌}
use mathlib.Core.Path.{◌≡◌, refl, ap, sym, ◌∙◌}
use mathlib.Core.List.{List, ◌++◌}
use native.Mathlib.Omega.{arith}
use lib.Ieee.{Float}
use lib.ListN.{length, drop}
use Rattle.graph.specs.declared.refusal.Refusal.{Refusal}
use Rattle.graph.specs.declared.refusal.Refusal.TheVariants.{StoreShort}
use Rattle.workspace.specs.Frames.{work_numbers}
use Rattle.slots.specs.Layouts.{dim_of, layout_of}
use Rattle.slots.specs.Views.{FactorView, factor_numbers}
use Rattle.slots.specs.Tables.{rows_by_all}
use Rattle.gaussian.specs.Elimination.{message_rows, Outcome, pivot, not_finite, message, eliminate}
use Rattle.gaussian.specs.Answers as gaussian
use Rattle.gaussian.specs.Answers.{views_of}
use Rattle.std.specs.Prelude.{Result, Ok, Err}
use Rattle.std.specs.Result.{MatchResult, IsErrAnd}
use Rattle.std.proofs.lemmas.Result.{err_from_is_err_and}
use Rattle.cholesky.specs.declared.Fault.{Fault}
use Rattle.graph.specs.declared.Graph.{Graph}
use Rattle.direct.specs.Direct.{views, direct_need, DirectVerdict, refuse, verdict_on, direct_verdict, direct_answer, direct_store}
use Rattle.direct.specs.Between.{Admitted, refusal_of}
use Rattle.direct.proofs.Verdicts.{no_room, no_work, sends}
use Rattle.direct.proofs.Asking.{need-is, views-are}
use Rattle.tables.specs.Heads.{Originals}

-- a refusal leaves the store
pub turned_back_lem : (v : DirectVerdict) (why : Refusal) (store : List Float) → v ≡ refuse why → (Err why ≡ direct_answer v) × (store ≡ direct_store store v)
unfolding direct_answer direct_store
turned_back_lem v why store e = rw e (refl, refl)

-- what the message store holds is the message and what followed it
start : (l n : List Float) → n ++ drop (0 + length n - 0) l ≡ n ++ drop (length n) l
start l n = let e : 0 + length n - 0 ≡ length n = omega arith in ap (λ (k : ℕ). n ++ drop k l) e

-- the answer and the store, by how the elimination ended
pub sent_lem : (v : DirectVerdict) (o : Outcome) (e : Result ℕ Fault) (x : Result ℕ Refusal) (store s : List Float) → v ≡ verdict_on o
    → e ≡ gaussian.eliminated_as o
    → s ≡ gaussian.message_stored store 0 o
    → MatchResult e (λ r. x ≡ Ok r) (λ fault. IsErrAnd x (λ why. why ≡ refusal_of fault))
    → (x ≡ direct_answer v) × (s ≡ direct_store store v)
unfolding gaussian.eliminated_as gaussian.message_stored verdict_on direct_answer direct_store
sent_lem v pivot e x store s ev ea es m = let why = err_from_is_err_and x (rw ea at m) in rw ev (why.1 ∙ ap Err why.2, es)
sent_lem v not_finite e x store s ev ea es m = let why = err_from_is_err_and x (rw ea at m) in rw ev (why.1 ∙ ap Err why.2, es)
sent_lem v (message n a xi w) e x store s ev ea es m = rw ev (rw ea at m, es ∙ start store (a ++ (xi ++ w)))

-- ---- a call that its early checks admit

module _ (g : Graph) (slots kept cleared : List ℕ) (factors : List Float) (ok : Admitted g slots kept cleared factors) (keys heads : List ℕ)
    (o : Originals g keys heads) (messages : List Float) (work n : ℕ)
    (en : n ≡ factor_numbers (message_rows (rows_by_all (layout_of kept cleared g.sizes) keys heads slots (length slots)) (dim_of g.sizes kept))
    (dim_of g.sizes kept)) where
  abbrev v : DirectVerdict
  v = direct_verdict g slots kept cleared factors (length messages) work

  abbrev out : Outcome
  out = eliminate (views_of factors messages keys heads slots) kept cleared g.sizes

  needed : n ≡ direct_need g kept cleared (views g slots factors)
  needed = en ∙ need-is g slots kept cleared factors ok keys heads o

  pub short-room : length messages < n → (Err StoreShort ≡ direct_answer v) × (messages ≡ direct_store messages v)
  short-room l = turned_back_lem v StoreShort messages (no_room g slots kept cleared factors ok (length messages) work (rw needed at l))

  module _ (h : n ≤ length messages) where
    pub short_work : work < work_numbers → (Err StoreShort ≡ direct_answer v) × (messages ≡ direct_store messages v)
    short_work l = turned_back_lem v StoreShort messages (no_work g slots kept cleared factors ok (length messages) work (rw needed at h) l)

    module _ (enough : work_numbers ≤ work) where
      read : v ≡ verdict_on out
      read =
          sends g slots kept cleared factors ok (length messages) work (rw needed at h) enough
          ∙ ap (λ (vs : List FactorView). verdict_on (eliminate vs kept cleared g.sizes))
          (sym (views-are g slots kept cleared factors ok keys heads o messages))

      pub sent : (e : Result ℕ Fault) (x : Result ℕ Refusal) (s : List Float) → e ≡ gaussian.eliminated_as out → s ≡ gaussian.message_stored messages 0 out
          → MatchResult e (λ r. x ≡ Ok r) (λ fault. IsErrAnd x (λ why. why ≡ refusal_of fault))
          → (x ≡ direct_answer v) × (s ≡ direct_store messages v)
      sent e x s ea es m = sent_lem v out e x messages s read ea es m
