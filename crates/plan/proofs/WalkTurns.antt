-- A turn of the loop over a board: the invariant of `walk`.
-- Assumes nothing.
use mathlib.Core.Path.{◌≡◌, sym, ap, ap₂, subst, ◌∙◌}
use mathlib.Core.Bool.{Bool, not}
use mathlib.Core.Logic.{◌≢◌}
use mathlib.Core.List.{List, [], map, append-nil}
use Prim.Native.Nat.{ℕ, suc, ◌+◌, ◌-◌, ◌≤◌, ◌<◌}
use native.Mathlib.Numerals.{add-one}
use native.Mathlib.Decide.{ℕ_discrete}
use native.Mathlib.Omega.{arith}
use borrow.Author.Tests.{eq-eqb, ne_eqb}
use lib.Bits.{bit_and}
use lib.ListN.{length, get_or, take, drop, set, length-map, length-set, get_or-map}
use lib.Seq.{get_or-set_same, get_or-set_other, take-set-le}
use Rattle.schedule.specs.Pass.{Slot, Walked, walk}
use Rattle.schedule.proofs.Walks.{ahead}
use Rattle.plan.specs.Limits.{pass_slots}
use Rattle.plan.specs.Mask.{meets}
use Rattle.plan.specs.Pass.{pass_slot, mask_at, BoardRoom, walking, Walks}
use Rattle.plan.specs.declared.pass.Board.{Board}
use Rattle.plan.proofs.Prefixes.{map-set, drop-none}
use Rattle.plan.proofs.Walking.{state, take_turn, keep_turn, mask_at_lem}

-- a number of a slot is stored
pub low-set : (l : List ℕ) (i a k b : ℕ) → i < length l → a < b → (k ≢ i → get_or l k 0 < b) → get_or (set l i a) k 0 < b
low-set l i a k b h g f = go (ℕ_discrete k i)
  where
    go : Dec (k ≡ i) → get_or (set l i a) k 0 < b
    go (yes e) = subst (λ (n : ℕ). get_or (set l i a) n 0 < b) (sym e) (rw (get_or-set_same l i a 0 h) g)
    go (no e) = rw (get_or-set_other l i k a 0 e) (f e)

module _ (masks : List ℕ) (cleared : ℕ) where
  abbrev pub passes : Slot → Bool
  passes s = meets cleared (mask_at masks s)

  pub record Turned (b₀ b : Board) (i : ℕ) : Type 0 where
    pub here : i ≤ b.used
    pub whole : state passes (map pass_slot b.slots) (map pass_slot b.content) i b.used b.filled b₀.filled ≡ walking masks cleared b₀
    pub before : take b₀.filled b.content ≡ take b₀.filled b₀.content
    pub more : b₀.filled ≤ b.filled
    pub sum : b.used + b.filled ≡ b₀.used + b₀.filled
    pub room : BoardRoom b

  abbrev pub moved : Board → ℕ → Board
  moved b i = record {
    slots = set b.slots i (get_or b.slots (b.used - 1) 0);
    used = b.used - 1;
    content = set b.content b.filled (get_or b.slots i 0);
    filled = b.filled + 1;
  }

  test_at : (l : List ℕ) (i : ℕ) → passes (get_or (map pass_slot l) i (pass_slot 0)) ≡ meets cleared (get_or masks (get_or l i 0) 0)
  test_at l i = ap passes (get_or-map pass_slot l i 0) ∙ ap (meets cleared) (mask_at_lem masks (get_or l i 0))

  module _ (b₀ b : Board) (i : ℕ) (t : Turned b₀ b i) (h : i < b.used) where
    abbrev m : ℕ
    m = get_or masks (get_or b.slots i 0) 0

    pub taken : (bit_and m cleared ≡ 0 → ⊥) → Turned b₀ (moved b i) i
    taken n =
        let S = map pass_slot b.slots in
        let C = map pass_slot b.content in
        let u = b.used - 1 in
        let f = b.filled in
        let room = t.room in
        let e : b.used ≡ suc u = omega arith in
        let ls : length S ≡ pass_slots = length-map b.slots pass_slot ∙ t.room.active.long in
        let lc : length C ≡ pass_slots = length-map b.content pass_slot ∙ t.room.contents.long in
        record {
          here = omega arith;
          whole =
              sym
              (ap (λ (n : ℕ). state passes S C i n f b₀.filled) e
              ∙ take_turn passes S C i f b₀.filled (pass_slot 0) u (omega arith) (omega (arith, t.room.active.few))
              (omega (arith, t.room.room)) t.more
              (test_at b.slots i ∙ ap not (ne_eqb (bit_and m cleared) 0 n))
              ∙ ap₂ (λ (x y : List Slot). state passes x y i u (suc f) b₀.filled)
              (ap (set S i) (get_or-map pass_slot b.slots u 0) ∙ sym (map-set pass_slot b.slots i (get_or b.slots u 0)))
              (ap (set C f) (get_or-map pass_slot b.slots i 0) ∙ sym (map-set pass_slot b.content f (get_or b.slots i 0)))
              ∙ ap (λ (n : ℕ). state passes (map pass_slot (moved b i).slots) (map pass_slot (moved b i).content) i u n b₀.filled) (sym (add-one f)))
              ∙ t.whole;
          before = take-set-le b₀.filled b.content f (get_or b.slots i 0) t.more ∙ t.before;
          more = omega (arith, t.more);
          sum = omega (arith, t.sum);
          room = record {
            active = record {
              long = length-set b.slots i (get_or b.slots u 0) ∙ t.room.active.long;
              few = omega (arith, t.room.active.few);
              low = λ k l. low-set b.slots i (get_or b.slots u 0) k pass_slots (omega (arith, t.room.active.few, t.room.active.long))
                  (t.room.active.low u (omega arith)) (λ q. t.room.active.low k (omega arith));
            };
            contents = record {
              long = length-set b.content f (get_or b.slots i 0) ∙ t.room.contents.long;
              few = omega (arith, t.room.room);
              low = λ k l. low-set b.content f (get_or b.slots i 0) k pass_slots (omega (arith, t.room.room, t.room.contents.long))
                  (t.room.active.low i h) (λ q. t.room.contents.low k (omega arith));
            };
            room = omega (arith, t.room.room);
          };
        }

    pub kept : bit_and m cleared ≡ 0 → Turned b₀ b (i + 1)
    kept n =
        let S = map pass_slot b.slots in
        let C = map pass_slot b.content in
        record {
          here = omega arith;
          whole =
              ap (λ (n : ℕ). state passes S C n b.used b.filled b₀.filled) (add-one i)
              ∙ sym
              (keep_turn passes S C i b.filled b₀.filled (pass_slot 0) b.used h
              (omega (arith, t.room.active.few, length-map b.slots pass_slot, t.room.active.long))
              (test_at b.slots i ∙ ap not (eq-eqb (bit_and m cleared) 0 n)))
              ∙ t.whole;
          before = t.before;
          more = t.more;
          sum = t.sum;
          room = t.room;
        }

  -- the loop is done
  pub done : (b₀ b : Board) (i : ℕ) → Turned b₀ b i → b.used ≤ i → Walks masks cleared b₀ b
  unfolding walk
  done b₀ b i t h =
      let S = map pass_slot b.slots in
      let C = map pass_slot b.content in
      let e : i ≡ b.used = omega (arith, t.here) in
      let w : walking masks cleared b₀ ≡ ahead (drop b₀.filled (take b.filled C)) (take b.used S) (record { taken = []; left = [] }) =
      sym t.whole ∙ ap (λ (n : ℕ). state passes S C n b.used b.filled b₀.filled) e
      ∙ ap (λ (l : List Slot). ahead (drop b₀.filled (take b.filled C)) (take b.used S) (walk passes (length l) l))
      (drop-none b.used b.used S (omega arith)) in
      record {
        taken = sym (ap (λ (x : Walked). x.taken) w ∙ append-nil (drop b₀.filled (take b.filled C)));
        left = sym (ap (λ (x : Walked). x.left) w ∙ append-nil (take b.used S));
        before = t.before;
        more = t.more;
        sum = t.sum;
        room = t.room;
      }
