-- A listing: an original is listed, a message pushed; the loop of `visit`.
-- Assumes nothing.
use mathlib.Core.Path.{◌≡◌, sym, ap, ◌∙◌}
use mathlib.Core.List.{List, [], ◌∷◌, ◌++◌, map, reverse, reverse_aux, append-nil}
use Prim.Native.Nat.{ℕ, ◌+◌, ◌-◌, ◌≤◌, ◌<◌}
use native.Mathlib.Numerals.{add-one}
use native.Mathlib.Omega.{arith}
use lib.ListN.{length, get_or, take, drop, set, length-set, length-append, length-take, length-reverse, length-reverse_aux, drop_of_length-le}
use lib.Seq.{length-take-le, take-suc-set, drop-cons, get_or-take, get_or-drop, append_snoc}
use Rattle.factor.specs.Limits.{max_variables, max_factors}
use Rattle.schedule.specs.Pass.{Slot, original, closed}
use Rattle.schedule.specs.Gather.{originals_in, messages_in}
use Rattle.plan.specs.Limits.{pass_slots}
use Rattle.plan.specs.Pass.{pass_slot}
use Rattle.plan.specs.Gather.{content_part, items_of, stack_of, Space, Visitable, Visited}
use Rattle.plan.specs.declared.gather.Listing.{Listing}
use Rattle.plan.proofs.Begins.{reverse_on}
use Rattle.plan.proofs.Prefixes.{part-is}
use Rattle.plan.proofs.WalkTurns.{low-set}
use Rattle.plan.proofs.Unions.{slot_low, slot_high}

abbrev pub with_item : Listing → ℕ → Listing
with_item l x = record { items = set l.items l.count x; count = l.count + 1; stack = l.stack; top = l.top }

abbrev pub with_message : Listing → ℕ → Listing
with_message l x = record { items = l.items; count = l.count; stack = set l.stack l.top x; top = l.top + 1 }

module _ (l : Listing) (x : ℕ) (s : Space l) where
  pub item_space : l.count < max_factors → x < max_factors → Space (with_item l x)
  item_space h k = record {
    items = record {
      long = length-set l.items l.count x ∙ s.items.long;
      few = omega arith;
      low = λ i q. low-set l.items l.count x i max_factors (omega (arith, s.items.long)) k (λ n. s.items.low i (omega arith));
    };
    long = s.long;
    few = s.few;
    low = s.low;
  }

  pub item_items : l.count < max_factors → items_of (with_item l x) ≡ items_of l ++ (x ∷ [])
  item_items h = ap (λ (n : ℕ). take n (set l.items l.count x)) (add-one l.count)
      ∙ take-suc-set l.items l.count x (omega (arith, s.items.long))

  pub message-space : l.top < max_variables → x < max_variables → Space (with_message l x)
  message-space h k = record {
    items = s.items;
    long = length-set l.stack l.top x ∙ s.long;
    few = omega arith;
    low = λ i q. low-set l.stack l.top x i max_variables (omega (arith, s.long)) k (λ n. s.low i (omega arith));
  }

  pub message-stack : l.top < max_variables → stack_of (with_message l x) ≡ x ∷ stack_of l
  message-stack h =
      ap (λ (n : ℕ). reverse (take n (set l.stack l.top x))) (add-one l.top) ∙ ap reverse (take-suc-set l.stack l.top x (omega (arith, s.long)))
      ∙ reverse_on (take l.top l.stack) x []

pub items-length : (l : Listing) → Space l → length (items_of l) ≡ l.count
items-length l s = length-take-le l.count l.items (omega (arith, s.items.long, s.items.few))

pub stack-length : (l : Listing) → Space l → length (stack_of l) ≡ l.top
stack-length l s = length-reverse (take l.top l.stack) ∙ length-take-le l.top l.stack (omega (arith, s.long, s.few))

-- the slots from a place on
abbrev pub rest : (codes : List ℕ) (i : ℕ) → List Slot
rest codes i = map pass_slot (drop i codes)

-- From l₀ to l, with i slots opened: what is listed, ahead of the originals of the rest, is the same, and so with the stack.
pub record Visiting (codes : List ℕ) (l₀ l : Listing) (i : ℕ) : Type 0 where
  pub space : Space l
  pub items : items_of l ++ originals_in (rest codes i) ≡ items_of l₀ ++ originals_in (rest codes 0)
  pub stack : reverse_aux (messages_in (rest codes i)) (stack_of l) ≡ reverse_aux (messages_in (rest codes 0)) (stack_of l₀)

module _ (content : List ℕ) (a b : ℕ) (l₀ : Listing) (v : Visitable content a b l₀) where
  abbrev codes : List ℕ
  codes = take (b - a) (drop a content)

  -- the slots are those of the content from a to b
  whole : (f : List Slot → List ℕ) → f (rest codes 0) ≡ f (content_part a b content)
  whole f = ap (λ (l : List ℕ). f (map pass_slot l)) (part-is a b content v.ordered)

  low : (i : ℕ) → i < length codes → get_or codes i 0 < pass_slots
  low i h =
      let k : i < b - a = omega (arith, length-take (b - a) (drop a content)) in
      let e : get_or codes i 0 ≡ get_or content (a + i) 0 = get_or-take (b - a) (drop a content) i 0 k ∙ get_or-drop a content i 0 in
      omega (arith, e, v.codes.low (a + i) (omega arith))

  module _ (l : Listing) (i : ℕ) (t : Visiting codes l₀ l i) (h : i < length codes) where
    abbrev x : ℕ
    x = get_or codes i 0

    cons : rest codes i ≡ pass_slot x ∷ rest codes (i + 1)
    cons = rw (add-one i) (ap (map pass_slot) (drop-cons codes i 0 h))

    module _ (y : ℕ) (is : y ≡ x) where
      module _ (k : y < max_factors) where
        cons_orig : rest codes i ≡ original x ∷ rest codes (i + 1)
        cons_orig = cons ∙ ap (λ (s : Slot). s ∷ rest codes (i + 1)) (slot_low x (omega arith))

        pub orig_room : l.count < max_factors
        orig_room =
            omega (
              arith,
              v.room,
              ap length t.items,
              ap length (whole originals_in),
              length-append (items_of l) (originals_in (rest codes i)),
              length-append (items_of l₀) (originals_in (rest codes 0)),
              items-length l t.space,
              items-length l₀ v.space,
              ap (λ (s : List Slot). length (originals_in s)) cons_orig,
            )

        pub visit_orig : Visiting codes l₀ (with_item l x) (i + 1)
        visit_orig = record {
          space = item_space l x t.space orig_room (omega arith);
          items =
              ap (λ (r : List ℕ). r ++ originals_in (rest codes (i + 1))) (item_items l x t.space orig_room)
              ∙ append_snoc (items_of l) x (originals_in (rest codes (i + 1)))
              ∙ ap (λ (s : List Slot). items_of l ++ originals_in s) (sym cons_orig) ∙ t.items;
          stack = ap (λ (s : List Slot). reverse_aux (messages_in s) (stack_of l)) (sym cons_orig) ∙ t.stack;
        }

      module _ (k : max_factors ≤ y) where
        cons_msg : rest codes i ≡ closed (x - max_factors) ∷ rest codes (i + 1)
        cons_msg = cons ∙ ap (λ (s : Slot). s ∷ rest codes (i + 1)) (slot_high x (omega arith))

        pub msg_room : l.top < max_variables
        msg_room =
            omega (
              arith,
              v.stack,
              ap length t.stack,
              ap length (whole messages_in),
              length-reverse_aux (messages_in (rest codes i)) (stack_of l),
              length-reverse_aux (messages_in (rest codes 0)) (stack_of l₀),
              stack-length l t.space,
              stack-length l₀ v.space,
              ap (λ (s : List Slot). length (messages_in s)) cons_msg,
            )

        pub visit_msg : Visiting codes l₀ (with_message l (y - max_factors)) (i + 1)
        visit_msg = rw is (record {
          space = message-space l (x - max_factors) t.space msg_room (omega (arith, low i h));
          items = ap (λ (s : List Slot). items_of l ++ originals_in s) (sym cons_msg) ∙ t.items;
          stack =
              ap (reverse_aux (messages_in (rest codes (i + 1)))) (message-stack l (x - max_factors) t.space msg_room)
              ∙ ap (λ (s : List Slot). reverse_aux (messages_in s) (stack_of l)) (sym cons_msg) ∙ t.stack;
        })

  pub done : (l : Listing) (i : ℕ) → Visiting codes l₀ l i → length codes ≤ i → Visited content a b l₀ l
  done l i t h =
      let none : rest codes i ≡ [] = ap (map pass_slot) (drop_of_length-le codes {i = i} h) in
      record {
        space = t.space;
        items = sym (append-nil (items_of l)) ∙ ap (λ (s : List Slot). items_of l ++ originals_in s) (sym none) ∙ t.items
            ∙ whole (λ s. items_of l₀ ++ originals_in s);
        stack = ap (λ (s : List Slot). reverse_aux (messages_in s) (stack_of l)) (sym none) ∙ t.stack
            ∙ whole (λ s. reverse_aux (messages_in s) (stack_of l₀));
      }
