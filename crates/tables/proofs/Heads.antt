-- The table of heads with one head written: that head is read back, and every other is as it was. Assumes nothing.
use Prim.Native.Nat.{ℕ, ◌+◌, ◌*◌, ◌≤◌, ◌<◌}
use mathlib.Core.Path.{◌≡◌, refl, ap, ◌∙◌}
use mathlib.Core.Bool.{Bool, true, false, cond}
use mathlib.Core.List.{List}
use native.Mathlib.Omega.{arith}
use native.Mathlib.Decide.{dec_lt}
use lib.Dec.{eqb}
use lib.ListN.{length, get_or}
use Rattle.slots.specs.Limits.{numbers_per_head}
use Rattle.slots.specs.Tables.{numbered_slot, head_of}
use Rattle.factor.proofs.Laying.{lay-length, lay_in, lay-before, lay-after}
use Rattle.tables.specs.Heads.{head_numbers, with_head}

-- a head from what the table holds at its places
head_as : (heads : List ℕ) (number : ℕ) (p : Bool) (a r w f c : ℕ) → eqb (get_or heads (numbers_per_head * number) 0) 1 ≡ p
    → get_or heads (numbers_per_head * number + 1) 0 ≡ a
    → get_or heads (numbers_per_head * number + 2) 0 ≡ r → get_or heads (numbers_per_head * number + 3) 0 ≡ w → get_or heads (numbers_per_head * number + 4) 0 ≡ f
    → get_or heads (numbers_per_head * number + 5) 0 ≡ c
    → head_of heads number ≡ record { slot = numbered_slot number; prior = p; at = a; rows = r; width = w; first = f; count = c }
unfolding head_of
head_as heads number p a r w f c ep ea er ew ef ec = rw (ep, ea, er, ew, ef, ec)

-- tables that agree at the places of a head
pub head-same : (heads other : List ℕ) (number : ℕ) → ((k : ℕ) → k < numbers_per_head → get_or heads (numbers_per_head * number + k) 0
    ≡ get_or other (numbers_per_head * number + k) 0) → head_of heads number ≡ head_of other number
unfolding head_of
head-same heads other number h =
    let e : numbers_per_head * number + 0 ≡ numbers_per_head * number = omega arith in
    let z : get_or heads (numbers_per_head * number) 0 ≡ get_or other (numbers_per_head * number) 0 = rw e at (h 0 (omega arith)) in
    head_as heads number _ _ _ _ _ _ (ap (λ (x : ℕ). eqb x 1) z) (h 1 (omega arith)) (h 2 (omega arith)) (h 3 (omega arith)) (h 4 (omega arith))
    (h 5 (omega arith))

one-or-none : (p : Bool) → eqb (cond p 1 0) 1 ≡ p
one-or-none true = refl
one-or-none false = refl

later : (a b : ℕ) → (a < b → ⊥) → (a ≡ b → ⊥) → b < a
later a b n e = go (dec_lt b a)
  where
    go : Dec (b < a) → b < a
    go (yes q) = q
    go (no q) = absurd (e (omega arith))

module _ (heads : List ℕ) (number : ℕ) (p : Bool) (at rows width first count : ℕ) (fits : numbers_per_head * number + 5 < length heads) where
  long : numbers_per_head * number + 6 ≤ length heads
  long = omega arith

  pub head-length : length (with_head heads number p at rows width first count) ≡ length heads
  unfolding with_head
  head-length = lay-length heads (head_numbers p at rows width first count) (numbers_per_head * number) long

  pub head-put : head_of (with_head heads number p at rows width first count) number
      ≡ record { slot = numbered_slot number; prior = p; at = at; rows = rows; width = width; first = first; count = count }
  unfolding with_head
  head-put =
      let e : numbers_per_head * number + 0 ≡ numbers_per_head * number = omega arith in
      let there = lay_in heads (head_numbers p at rows width first count) (numbers_per_head * number) long 0 in
      let z : get_or (with_head heads number p at rows width first count) (numbers_per_head * number) 0 ≡ cond p 1 0 = rw e at (there 0 (omega arith)) in
      head_as _ number p at rows width first count (ap (λ (x : ℕ). eqb x 1) z ∙ one-or-none p) (there 1 (omega arith)) (there 2 (omega arith))
      (there 3 (omega arith)) (there 4 (omega arith)) (there 5 (omega arith))

  pub head_else : (other : ℕ) → (other ≡ number → ⊥) → head_of (with_head heads number p at rows width first count) other ≡ head_of heads other
  unfolding with_head
  head_else other d = go (dec_lt other number)
    where
      go : Dec (other < number) → head_of (with_head heads number p at rows width first count) other ≡ head_of heads other
      go (yes h) = head-same _ heads other (λ k l. lay-before heads (head_numbers p at rows width first count) (numbers_per_head * number) long 0
          (numbers_per_head * other + k) (omega arith))
      go (no h) =
          let m : number < other = later other number h d in
          head-same _ heads other (λ k l. lay-after heads (head_numbers p at rows width first count) (numbers_per_head * number) long 0
          (numbers_per_head * other + k) (omega arith))
