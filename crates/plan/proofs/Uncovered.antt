-- The uncovered originals, and the leaves of a set of messages: the loops of `uncovered` and `leaves_of`.
-- Assumes nothing.
use mathlib.Core.Path.{◌≡◌, sym, ap, ◌∙◌}
use mathlib.Core.Bool.{Bool, not}
use mathlib.Core.List.{List, ◌∷◌, ◌++◌, append-nil, append_assoc}
use Prim.Native.Nat.{ℕ, suc, ◌+◌, ◌-◌, ◌^◌, ◌≤◌, ◌<◌}
use native.Mathlib.Numerals.{add-one}
use native.Mathlib.Omega.{arith}
use lib.Bits.{bit_and}
use lib.ListN.{length, get_or, take, drop, length-append, length-take, drop_of_length-le}
use lib.Seq.{drop-cons, get_or-take, append_snoc}
use Rattle.factor.specs.Limits.{max_variables, max_factors}
use Rattle.schedule.specs.Count.{mem, put_if, keep, from, joined, rising_where}
use Rattle.schedule.specs.Gather.{leaves}
use Rattle.schedule.proofs.Sums.{joined-append}
use Rattle.plan.specs.Mask.{has, keys_in, Set}
use Rattle.plan.specs.Pass.{messages_of, Live}
use Rattle.plan.specs.Gather.{items_of, Space, others, Coverable, OthersListed, Openable, Opened, Listable, SetListed}
use Rattle.plan.specs.declared.pass.Pass.{Pass}
use Rattle.plan.specs.declared.gather.Listing.{Listing}
use Rattle.plan.proofs.Membership.{keep-cons, keep-nil, rising-split}
use Rattle.plan.proofs.Listings.{with_item, item_space, item_items, items-length}
use Rattle.plan.proofs.Unions.{bit, in_set, off_set, joined_in, joined_off, joined-zero, keys_in-below}

-- ---- the originals that are not listed
pub live_low : (live : List ℕ) (count : ℕ) → Live live count → (i : ℕ) → i < length (take count live) → get_or (take count live) i 0 < max_factors
live_low live count lv i h =
    let k : i < count = omega (arith, length-take count live) in
    omega (arith, get_or-take count live i 0 k, lv.low i k)

module _ (live : List ℕ) (count : ℕ) (l₀ : Listing) where
  abbrev free : ℕ → Bool
  free x = not (mem x (items_of l₀))

  abbrev rest : ℕ → List ℕ
  rest i = keep free (drop i (take count live))

  pub record Covering (l : Listing) (i : ℕ) : Type 0 where
    pub space : Space l
    pub items : items_of l ++ rest i ≡ items_of l₀ ++ others live count l₀

  module _ (lv : Live live count) (room : Coverable live count l₀) (space₀ : Space l₀) where
    module _ (l : Listing) (i y set s : ℕ) (t : Covering l i) (h : i < length (take count live)) (is : y ≡ get_or (take count live) i 0)
        (es : s ≡ 2 ^ y) (are : Set (items_of l₀) set) where
      abbrev x : ℕ
      x = get_or (take count live) i 0

      e : s ≡ 2 ^ x
      e = bit es is

      cons : rest i ≡ put_if (free x) x (rest (i + 1))
      cons = rw (add-one i) (ap (keep free) (drop-cons (take count live) i 0 h) ∙ keep-cons free x (drop (suc i) (take count live)))

      module _ (z : bit_and set s ≡ 0) where
        cons-free : rest i ≡ x ∷ rest (i + 1)
        cons-free = cons ∙ ap (λ (b : Bool). put_if (not b) x (rest (i + 1))) (sym (are x) ∙ off_set set x s e z)

        pub free-room : l.count < max_factors
        free-room =
            omega (
              arith,
              room,
              ap length t.items,
              length-append (items_of l) (rest i),
              length-append (items_of l₀) (others live count l₀),
              items-length l t.space,
              items-length l₀ space₀,
              ap length cons-free,
            )

        pub list-more : Covering (with_item l x) (i + 1)
        list-more = record {
          space = item_space l x t.space free-room (live_low live count lv i h);
          items = ap (λ (r : List ℕ). r ++ rest (i + 1)) (item_items l x t.space free-room) ∙ append_snoc (items_of l) x (rest (i + 1))
              ∙ ap (λ (r : List ℕ). items_of l ++ r) (sym cons-free) ∙ t.items;
        }

      pub list_same : (bit_and set s ≡ 0 → ⊥) → Covering l (i + 1)
      list_same z = record {
        space = t.space;
        items = ap (λ (r : List ℕ). items_of l ++ r) (sym (cons ∙ ap (λ (b : Bool). put_if (not b) x (rest (i + 1))) (sym (are x) ∙ in_set set x s e z)))
            ∙ t.items;
      }

    pub done : (l : Listing) (i : ℕ) → Covering l i → length (take count live) ≤ i → OthersListed live count l₀ l
    done l i t h = record {
      space = t.space;
      items = all;
      more = omega (arith, ap length all, length-append (items_of l₀) (others live count l₀), items-length l t.space, items-length l₀ space₀);
    }
      where
        all : items_of l ≡ items_of l₀ ++ others live count l₀
        all = sym (append-nil (items_of l)) ∙ ap (λ (r : List ℕ). items_of l ++ r) (sym (ap (keep free) (drop_of_length-le (take count live) {i = i} h) ∙ keep-nil free)) ∙ t.items

-- ---- the leaves under the messages of a set
module _ (p : Pass) (set : ℕ) (l₀ : Listing) where
  abbrev under : ℕ → List ℕ
  under j = joined (leaves (messages_of p)) (rising_where j (λ k. has k set))

  pub record Leaving (l : Listing) (j : ℕ) : Type 0 where
    pub here : j ≤ p.count
    pub space : Space l
    pub items : items_of l ≡ items_of l₀ ++ under j

  module _ (few : p.count ≤ max_variables) (ls : Listable p set l₀) (space₀ : Space l₀) where
    pub begin : Leaving l₀ 0
    begin = record {
      here = omega arith;
      space = space₀;
      items = sym (append-nil (items_of l₀))
          ∙ ap (λ (r : List ℕ). items_of l₀ ++ r) (sym (joined-zero (leaves (messages_of p)) (λ k. has k set)));
    }

    all-is : keys_in set ≡ rising_where p.count (λ k. has k set)
    all-is = keys_in-below p.count set few ls.low

    module _ (l : Listing) (j s : ℕ) (t : Leaving l j) (h : j < p.count) (e : s ≡ 2 ^ j) where
      module _ (z : bit_and set s ≡ 0 → ⊥) where
        next : under (j + 1) ≡ under j ++ leaves (messages_of p) j
        next = joined_in (leaves (messages_of p)) (λ k. has k set) j (in_set set j s e z)

        split : joined (leaves (messages_of p)) (keys_in set) ≡ under (j + 1) ++ joined (leaves (messages_of p))
            (keep (λ k. has k set) (from (j + 1) (p.count - (j + 1))))
        split =
            ap (joined (leaves (messages_of p))) (all-is ∙ rising-split (j + 1) p.count (λ k. has k set) (omega arith))
            ∙ joined-append (leaves (messages_of p)) (rising_where (j + 1) (λ k. has k set)) (keep (λ k. has k set) (from (j + 1) (p.count - (j + 1))))

        pub openable : Openable p j l
        openable = record {
          forest = ls.forest;
          here = h;
          room =
              omega (
                arith,
                ls.room,
                ap length t.items,
                length-append (items_of l₀) (under j),
                items-length l t.space,
                items-length l₀ space₀,
                ap length next,
                length-append (under j) (leaves (messages_of p) j),
                ap length split,
                length-append (under (j + 1)) (joined (leaves (messages_of p)) (keep (λ k. has k set) (from (j + 1) (p.count - (j + 1))))),
              );
        }

        pub leave_more : (r : Listing) → Opened p j l r → Leaving r (j + 1)
        leave_more r o = record {
          here = omega arith;
          space = o.space;
          items = o.items ∙ ap (λ (x : List ℕ). x ++ leaves (messages_of p) j) t.items
              ∙ append_assoc (items_of l₀) (under j) (leaves (messages_of p) j) ∙ ap (λ (x : List ℕ). items_of l₀ ++ x) (sym next);
        }

      pub leave_same : bit_and set s ≡ 0 → Leaving l (j + 1)
      leave_same z = record {
        here = omega arith;
        space = t.space;
        items = t.items ∙ ap (λ (x : List ℕ). items_of l₀ ++ x) (sym (joined_off (leaves (messages_of p)) (λ k. has k set) j (off_set set j s e z)));
      }

    pub end : (l : Listing) (j : ℕ) → Leaving l j → p.count ≤ j → SetListed p set l₀ l
    end l j t h = record {
      space = t.space;
      items = t.items ∙ ap (λ (n : ℕ). items_of l₀ ++ under n) {y = p.count} (omega (arith, t.here))
          ∙ ap (λ (x : List ℕ). items_of l₀ ++ joined (leaves (messages_of p)) x) (sym all-is);
    }
