-- What the tables and the stores hold of a slot is the factor in it. Assumes nothing.
use mathlib.Core.Path.{◌≡◌, refl, sym, ap, ◌∙◌}
use mathlib.Core.Bool.{false}
use mathlib.Core.List.{List, [], ◌∷◌, ◌++◌}
use Prim.Native.Nat.{ℕ, zero, suc, ◌*◌, ◌≤◌, ◌<◌}
use native.Mathlib.Omega.{arith}
use native.Mathlib.Decide.{dec_lt}
use lib.Ieee.{Float}
use lib.ListN.{length, get_or, length-append, get_or-append}
use lib.Seq.{get_or-append_seam}
use Rattle.graph.specs.declared.Graph.{Graph}
use Rattle.schedule.specs.Pass.{Slot, original, closed, ClosedFactor, at}
use Rattle.slots.specs.Tables.{head_of, read_view}
use Rattle.gaussian.specs.Elimination.{pivot, message, numbers_in}
use Rattle.gaussian.proofs.Outcomes.{first_part, second-part, third-part}
use Rattle.tables.proofs.OriginalsRead.{original_view_lem}
use Rattle.lists.specs.Lists.{backward_shift, slot_number}
use Rattle.messages.specs.Values.{message_view, slot_view, values_to, value_at}
use Rattle.messages.specs.Figure.{width_at}
use Rattle.messages.specs.Tables.{Carriable, PlacedTo, Tables, Stored}
use Rattle.messages.proofs.Slots.{Known, keys-are}
use Rattle.slots.specs.Views.{view_of}

-- what the first n messages came to, by their places
pub values_length : (g : Graph) (factors : List Float) (ms : List ClosedFactor) (n : ℕ) → length (values_to g factors ms n) ≡ n
unfolding values_to
values_length g factors ms zero = refl
values_length g factors ms (suc n) = omega (arith, length-append (values_to g factors ms n) (value_at g factors ms n ∷ []), values_length g factors ms n)

pub values-at : (g : Graph) (factors : List Float) (ms : List ClosedFactor) (n j : ℕ) → j < n → get_or (values_to g factors ms n) j pivot ≡ value_at g factors ms j
unfolding values_to
values-at g factors ms zero j h = absurd (omega arith)
values-at g factors ms (suc n) j h = go (dec_lt j n) (values-at g factors ms n j)
  where
    go : Dec (j < n) → (j < n → get_or (values_to g factors ms n) j pivot ≡ value_at g factors ms j)
        → get_or (values_to g factors ms n ++ (value_at g factors ms n ∷ [])) j pivot ≡ value_at g factors ms j
    go (yes l) ih = get_or-append (values_to g factors ms n) (value_at g factors ms n ∷ []) pivot j (omega (arith, values_length g factors ms n)) ∙ ih l
    go (no l) ih =
        let e : j ≡ n = omega arith in
        rw e (ap (λ (i : ℕ). get_or (values_to g factors ms n ++ (value_at g factors ms n ∷ [])) i pivot) (sym (values_length g factors ms n))
        ∙ get_or-append_seam (values_to g factors ms n) (value_at g factors ms n) [] pivot)

-- a message from its numbers
parts : (keys : List ℕ) (r d : ℕ) (a xi w : List Float) → length a ≡ r * d → length xi ≡ r → length w ≡ r * r
    → view_of false keys r d (numbers_in (message r a xi w)) ≡ message_view keys (message r a xi w)
unfolding numbers_in message_view
parts keys r d a xi w la lx lw = rw (first_part (r * d) r a xi w la lx lw, second-part (r * d) r a xi w la lx lw, third-part (r * d) r a xi w la lx lw) refl

module _ (g : Graph) (ms : List ClosedFactor) (c : Carriable g ms) (shift start n : ℕ) (keys heads : List ℕ) (low : shift ≤ backward_shift)
    (few : n ≤ length ms) (tables : Tables g keys heads)
    (placed : PlacedTo g ms shift start keys heads n) (factors messages : List Float) (stored : (j : ℕ) → j < n → Stored g factors ms start messages j) where
  -- the slots of the messages that have been made, and of all originals
  pub slot_view_lem : (s : Slot) → Known g ms c shift start n keys heads low few tables placed s
      → read_view factors messages keys (head_of heads (slot_number shift s)) ≡ slot_view g factors ms (values_to g factors ms n) s
  unfolding slot_number slot_view
  slot_view_lem (original i) l = original_view_lem g c.sound keys heads tables.originals i l factors messages
  slot_view_lem (closed j) l =
      let s = stored j l in
      let d : ℕ = width_at g ms j in
      rw ((placed j l).head, keys-are g ms c shift start n keys heads low few tables placed j l, ← s.of_rows, s.stands, values-at g factors ms n j l, s.is)
      (parts (at ms j).kept s.rows d s.a s.xi s.w s.of_a s.of_xi s.of_w)
