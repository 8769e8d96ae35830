-- What a factor's record comes to in place of a live factor: what it comes to by itself, with that one retired where it is taken. Assumes nothing.
use Prim.Native.Nat.{ℕ, ◌+◌}
use mathlib.Core.Path.{◌≡◌, refl}
use mathlib.Core.Bool.{true, false}
use mathlib.Core.List.{List}
use native.Mathlib.Omega.{arith}
use lib.Ieee.{Float}
use Rattle.std.specs.Prelude.{Result, Ok, Err}
use Rattle.graph.specs.Record.{live_at, valid}
use Rattle.graph.specs.Registration.{Added, retired, replacing}
use Rattle.graph.specs.Reached.{entered, entered_store}
use Rattle.graph.specs.declared.Graph.{Graph}
use Rattle.graph.specs.declared.refusal.Refusal.{Refusal}
use Rattle.graph.proofs.Calls.{in_place_lem}
use Rattle.records.specs.Bytes.{byte_at, cut}
use Rattle.records.specs.Records.{Request, number_bytes, within_at, ask_in_place, superseding_at, next_of}
use Rattle.records.proofs.Asking.{Plain, back, plain, within_plain}
use Rattle.records.proofs.Requests.{Meets, superseding-live}

-- factor j is retired where the record was taken
abbrev pub retiring : ℕ → Result ℕ Refusal → Graph → Graph
retiring j (Ok n) g = retired g j
retiring j (Err why) g = g

next_kept : (j : ℕ) (g : Graph) (o : Result ℕ Refusal) (next : ℕ) → next_of o next ≡ next_of (replacing g j o).outcome next
next_kept j g (Ok n) next = refl
next_kept j g (Err why) next = refl

graph_retired : (j : ℕ) (g : Graph) (o : Result ℕ Refusal) (next : ℕ) → retiring j (next_of o next) g ≡ (replacing g j o).graph
graph_retired j g (Ok n) next = refl
graph_retired j g (Err why) next = refl

module _ (g : Graph) (store : List Float) (bytes : List ℕ) (start j : ℕ) (v : valid g ≡ true) (live : live_at g j ≡ true) where
  step_in_place : {q : Request} → Plain g store bytes start q → (r : Result ℕ Refusal) (h : Graph) (s : List Float) → Meets g store q r h s
      → Meets g store (ask_in_place j q) r (retiring j r h) s
  step_in_place (back why) r h s (er, eh, es) = rw er (refl, eh, es)
  step_in_place (plain exposure next w) r h s (er, eh, es) =
      let x : Added = entered g exposure store in
      let e = in_place_lem g j x store (entered_store g exposure store) v (replacing x.graph j x.outcome) live x s (refl, es) refl in
      rw (← e.0, er, eh) (next_kept j x.graph x.outcome next, graph_retired j x.graph x.outcome next, e.1)

-- the record within, read and answered, and what that comes to for the whole record: turned back, or taken
module _ (g : Graph) (store : List Float) (bytes : List ℕ) (at number : ℕ) (there : cut bytes at number_bytes ≡ false)
    (read : number ≡ byte_at bytes at) (v : valid g ≡ true) (live : live_at g number ≡ true)
    (r : Result ℕ Refusal) (h : Graph) (s : List Float) (within : Meets g store (within_at g store bytes (at + number_bytes)) r h s) where
  by_within : Meets g store (superseding_at g store bytes at) r (retiring number r h) s
  by_within =
      rw (superseding-live g store bytes at there (rw read at live), ← read)
      (step_in_place g store bytes at number v live (within_plain g store bytes at (at + number_bytes) (omega arith) (omega arith)) r h s within)

  pub within-refused : (why : Refusal) (t : Result ℕ Refusal) → r ≡ Err why → t ≡ Err why → Meets g store (superseding_at g store bytes at) t h s
  within-refused why t e f = rw f (rw e at by_within)

  pub within-taken : (n : ℕ) (k : Graph) → r ≡ Ok n → k ≡ retired h number → Meets g store (superseding_at g store bytes at) (Ok n) k s
  within-taken n k e f = rw f (rw e at by_within)
