-- One factor more in the tables. Assumes nothing.
use Prim.Native.Nat.{ℕ, ◌+◌, ◌*◌, ◌≤◌, ◌<◌}
use mathlib.Core.Path.{◌≡◌, sym, ◌∙◌}
use mathlib.Core.Bool.{true}
use mathlib.Core.List.{List}
use native.Mathlib.Omega.{arith}
use borrow.Author.Count.{below_more}
use borrow.Author.Tests.{lt-ltb}
use lib.ListN.{length}
use Rattle.factor.specs.Limits.{max_factors, max_keys}
use Rattle.factor.specs.Factor.{numbers, lay}
use Rattle.factor.specs.declared.Factor.{Factor}
use Rattle.factor.proofs.Counting.{sum-none}
use Rattle.graph.specs.Record.{factor_at, offset, valid}
use Rattle.graph.specs.declared.Graph.{Graph}
use Rattle.graph.proofs.Validity.{offset-more, valid-count, valid_touched}
use Rattle.slots.specs.Limits.{numbers_per_head}
use Rattle.slots.specs.Tables.{numbered_slot}
use Rattle.slots.specs.declared.Slot.TheVariants.{Original}
use Rattle.tables.specs.Originals.{width_of}
use Rattle.factor.proofs.Laying.{lay_in, lay-before}
use Rattle.tables.proofs.Heads.{head-put, head_else}
use Rattle.tables.specs.Heads.{Entered, with_head}

slot_is : (i : ℕ) → i < max_factors → numbered_slot i ≡ Original i
unfolding numbered_slot
slot_is i l = rw (lt-ltb i max_factors l)

module _ (g : Graph) (v : valid g ≡ true) (keys heads : List ℕ) (long_keys : max_keys * max_factors ≤ length keys)
    (long_heads : numbers_per_head * max_factors ≤ length heads) (i : ℕ) (l : i < g.count) (full : length (factor_at g i).keys ≡ max_keys) where
  abbrev f : Factor
  f = factor_at g i

  abbrev keys' : List ℕ
  keys' = lay keys (max_keys * i) f.keys

  abbrev heads' : List ℕ
  heads' = with_head heads i f.prior (offset g i) f.rows (width_of g.sizes f) (max_keys * i) f.touched

  low : i < max_factors
  low = omega (arith, valid-count g v)

  inside : max_keys * i + length f.keys ≤ length keys
  inside = omega (arith, full, low)

  new : Entered g keys' heads' i
  new =
      record {
        head = rw (← slot_is i low) (head-put heads i f.prior (offset g i) f.rows (width_of g.sizes f) (max_keys * i) f.touched
            (omega (arith, low)));
        full = full;
        key = λ j h. lay_in keys f.keys (max_keys * i) inside 0 j (omega (arith, full, valid_touched g v i l));
      }

  old : (k : ℕ) → k < i → Entered g keys heads k → Entered g keys' heads' k
  old k h e =
      record {
        head = head_else heads i f.prior (offset g i) f.rows (width_of g.sizes f) (max_keys * i) f.touched (omega (arith, low)) k
            (λ x. omega arith) ∙ e.head;
        full = e.full;
        key = λ j b. lay-before keys f.keys (max_keys * i) inside 0 (max_keys * k + j) (omega (arith, valid_touched g v k (omega arith))) ∙ e.key j b;
      }

  all-entered : ((k : ℕ) → k < i → Entered g keys heads k) → (k : ℕ) → k < i + 1 → Entered g keys' heads' k
  all-entered h = below_more (λ k. Entered g keys' heads' k) i (λ k b. old k b (h k b)) new

-- the same with what the calls tell
pub entered-more : (g : Graph) → valid g ≡ true → (keys heads : List ℕ) → max_keys * max_factors ≤ length keys
    → numbers_per_head * max_factors ≤ length heads → (i at : ℕ) (f : Factor) (ks hs : List ℕ) → i < g.count
    → at ≡ offset g i → f ≡ factor_at g i → (ks ≡ lay keys (max_keys * i) f.keys) × (length f.keys ≡ max_keys) → hs
    ≡ with_head heads i f.prior at f.rows (width_of g.sizes f) (max_keys * i) f.touched
    → ((k : ℕ) → k < i → Entered g keys heads k) → (k : ℕ) → k < i + 1 → Entered g ks hs k
entered-more g v keys heads lk lh i at f ks hs l ea ef ek eh h =
    let full : length (factor_at g i).keys ≡ max_keys = rw ef at ek.1 in
    rw (ek.0, eh, ef, ea) (all-entered g v keys heads lk lh i l full h)

pub none-entered : (g : Graph) (keys heads : List ℕ) (k : ℕ) → k < 0 → Entered g keys heads k
none-entered g keys heads k h = absurd (omega arith)

pub no_offset : (g : Graph) → 0 ≡ offset g 0
unfolding offset
no_offset g = sym (sum-none _)

pub next-offset : (g : Graph) (i at n : ℕ) (f : Factor) → f ≡ factor_at g i → at ≡ offset g i → n ≡ numbers g.sizes f → at + n ≡ offset g (i + 1)
next-offset g i at n f ef ea en = rw (ea, en, ef) (sym (offset-more g i))
