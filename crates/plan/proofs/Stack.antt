-- The stack: the leaves under a message.
-- Assumes nothing.
use mathlib.Core.Path.{◌≡◌, refl, sym, ap, ap₂, ◌∙◌}
use mathlib.Core.List.{List, [], ◌∷◌, ◌++◌, reverse, reverse_aux, reverse_aux-eq, append-nil, append_assoc}
use Prim.Native.Nat.{ℕ, zero, suc, ◌+◌, ◌-◌, ◌≤◌, ◌<◌}
use native.Mathlib.Omega.{arith}
use lib.ListN.{length, get_or, take, set, length-set, length-append, length-reverse_aux}
use lib.Seq.{take-suc-set}
use Rattle.factor.specs.Limits.{max_variables, max_factors}
use Rattle.schedule.specs.Count.{count, In, joined}
use Rattle.schedule.specs.Pass.{Slot, ClosedFactor, at}
use Rattle.schedule.specs.Gather.{originals_in, messages_in, under, leaves}
use Rattle.schedule.proofs.Counts.{count-cons, count-nil, count_reverse_aux, hit-eq}
use Rattle.schedule.proofs.Sums.{joined-append}
use Rattle.schedule.specs.Messages.{Older, collected, heavy}
use Rattle.schedule.proofs.Trees.{all-eq, heavy-step, heavy-length, stack-all}
use Rattle.schedule.proofs.Runs.{leaf_h}
use Rattle.plan.specs.Pass.{msg_at, messages_of, PassReady}
use Rattle.plan.specs.Gather.{content_part, items_of, stack_of, Space, Visitable, Visited, Forest, Openable, Opened}
use Rattle.plan.specs.declared.pass.Pass.{Pass}
use Rattle.plan.specs.declared.gather.Listing.{Listing}
use Rattle.plan.proofs.Begins.{reverse-take}
use Rattle.plan.proofs.Listings.{items-length, stack-length}
use Rattle.plan.proofs.Sending.{messages-length}
use Rattle.plan.proofs.WalkTurns.{low-set}
use Rattle.plan.proofs.Unions.{at_msg}

joined-cons : (g : ℕ → List ℕ) (j : ℕ) (l : List ℕ) → joined g (j ∷ l) ≡ g j ++ joined g l
unfolding joined
joined-cons g j l = refl

joined-nil : (g : ℕ → List ℕ) → joined g [] ≡ []
unfolding joined
joined-nil g = refl

leaves_all : (ms : List ClosedFactor) → Older ms → (j : ℕ) → heavy ms (j ∷ []) ≤ length ms → leaves ms j ≡ joined (collected leaf_h ms) (j ∷ [])
unfolding leaves under
leaves_all ms old j h = stack-all leaf_h ms old (length ms) (j ∷ []) h

module _ (p : Pass) where
  abbrev ms : List ClosedFactor
  ms = messages_of p

  abbrev under_all : List ℕ → List ℕ
  under_all = joined (collected leaf_h ms)

  -- From l₀, with one message on the stack, to l: what is listed, followed by the leaves under the stack, is the same.
  pub record Opening (l₀ l : Listing) : Type 0 where
    pub space : Space l
    pub items : items_of l ++ under_all (stack_of l) ≡ items_of l₀ ++ under_all (stack_of l₀)
    pub room : l.count + length (under_all (stack_of l)) ≤ max_factors
    pub heavy : heavy ms (stack_of l) ≤ p.count
    pub low : (x : ℕ) → In x (stack_of l) → x < p.count

  -- the message j alone on the stack
  abbrev pub opened : Listing → ℕ → Listing
  opened l j = record { items = l.items; count = l.count; stack = set l.stack 0 j; top = 1 }

  module _ (ready : PassReady max_variables p) (forest : Forest p) where
    module _ (l : Listing) (j : ℕ) (s : Space l) (o : Openable p j l) where
      one : stack_of (opened l j) ≡ j ∷ []
      one = ap reverse (take-suc-set l.stack 0 j (omega (arith, s.long)))

      leaves-are : leaves ms j ≡ under_all (j ∷ [])
      leaves-are = leaves_all ms forest.older j (omega (arith, forest.small j o.here, messages-length p))

      pub start : Opening (opened l j) (opened l j)
      start = record {
        space = record {
          items = s.items;
          long = length-set l.stack 0 j ∙ s.long;
          few = omega arith;
          low = λ i h. low-set l.stack 0 j i max_variables (omega (arith, s.long)) (omega (arith, o.here, ready.few)) (λ n. absurd (n (omega arith)));
        };
        items = refl;
        room = omega (arith, o.room, ap length leaves-are, ap (λ (t : List ℕ). length (under_all t)) one);
        heavy = omega (arith, forest.small j o.here, ap (heavy ms) one);
        low = λ x h. omega (arith, o.here, hit-eq x j (omega (arith, ap (count x) one, count-cons x j [], count-nil x)));
      }

      pub done : (r : Listing) → Opening (opened l j) r → r.top ≤ 0 → Opened p j l r
      done r t h =
          let e : r.top ≡ 0 = omega arith in
          let none : stack_of r ≡ [] = ap (λ (n : ℕ). reverse (take n r.stack)) e in
          record {
            space = t.space;
            items = sym (append-nil (items_of r)) ∙ ap (λ (x : List ℕ). items_of r ++ x) (sym (joined-nil (collected leaf_h ms)))
                ∙ ap (λ (x : List ℕ). items_of r ++ under_all x) (sym none)
                ∙ t.items ∙ ap (λ (x : List ℕ). items_of l ++ under_all x) one ∙ ap (λ (x : List ℕ). items_of l ++ x) (sym leaves-are);
          }

    -- the top is taken
    abbrev pub popped : Listing → Listing
    popped l = record { items = l.items; count = l.count; stack = l.stack; top = l.top - 1 }

    module _ (l₀ l : Listing) (t : Opening l₀ l) (h : 0 < l.top) where
      abbrev m : ℕ
      m = get_or l.stack (l.top - 1) 0

      stack_is : stack_of l ≡ m ∷ stack_of (popped l)
      stack_is =
          let e : l.top ≡ (l.top - 1) + 1 = omega arith in
          ap (λ (n : ℕ). reverse (take n l.stack)) e ∙ reverse-take l.stack (l.top - 1) (omega (arith, t.space.few, t.space.long))

      pub here : m < p.count
      here = t.low m (omega (arith, ap (count m) stack_is, count-cons m m (stack_of (popped l)), Rattle.schedule.proofs.Counts.hit_same m))

      abbrev c : List Slot
      c = content_part (get_or p.starts m 0) (get_or p.ends m 0) p.board.content

      content-is : (at ms m).content ≡ c
      unfolding msg_at
      content-is = ap (λ (x : ClosedFactor). x.content) (at_msg p m here)

      all-is : collected leaf_h ms m ≡ originals_in c ++ under_all (reverse (messages_in c))
      all-is = all-eq leaf_h ms forest.older m ∙ ap (λ (x : List Slot). originals_in x ++ under_all (reverse (messages_in x))) content-is

      whole : under_all (stack_of l) ≡ originals_in c ++ (under_all (reverse (messages_in c)) ++ under_all (stack_of (popped l)))
      whole =
          ap under_all stack_is ∙ joined-cons (collected leaf_h ms) m (stack_of (popped l)) ∙ ap (λ (x : List ℕ). x ++ under_all (stack_of (popped l))) all-is
          ∙ append_assoc (originals_in c) (under_all (reverse (messages_in c))) (under_all (stack_of (popped l)))

      weight : heavy ms (stack_of l) ≡ suc (heavy ms (reverse_aux (messages_in c) (stack_of (popped l))))
      weight =
          ap (heavy ms) stack_is ∙ heavy-step ms forest.older m (stack_of (popped l))
          ∙ ap (λ (x : List Slot). suc (heavy ms (reverse_aux (messages_in x) (stack_of (popped l))))) content-is

      popped-space : Space (popped l)
      popped-space = record { items = t.space.items; long = t.space.long; few = omega (arith, t.space.few); low = λ i k. t.space.low i (omega arith) }

      pub visitable : Visitable p.board.content (get_or p.starts m 0) (get_or p.ends m 0) (popped l)
      visitable = record {
        space = popped-space;
        codes = record {
          long = ready.room.contents.long;
          few = omega (arith, ready.closed m here, ready.room.contents.few);
          low = λ i k. ready.room.contents.low i (omega (arith, ready.closed m here));
        };
        ordered = ready.ordered m here;
        room = omega (arith, t.room, ap length whole, length-append (originals_in c) (under_all (reverse (messages_in c)) ++ under_all (stack_of (popped l))));
        stack =
            omega (
              arith,
              t.heavy,
              weight,
              heavy-length ms forest.older (reverse_aux (messages_in c) (stack_of (popped l))),
              length-reverse_aux (messages_in c) (stack_of (popped l)),
              stack-length (popped l) popped-space,
              ready.few,
            );
      }

      module _ (r : Listing) (v : Visited p.board.content (get_or p.starts m 0) (get_or p.ends m 0) (popped l) r) where
        pub falls : heavy ms (stack_of r) < heavy ms (stack_of l)
        falls = omega (arith, weight, ap (heavy ms) v.stack)

        items-are : items_of r ++ under_all (stack_of r) ≡ items_of l ++ under_all (stack_of l)
        items-are =
            ap₂ (λ (x y : List ℕ). x ++ under_all y) v.items (v.stack ∙ reverse_aux-eq (messages_in c) (stack_of (popped l)))
            ∙ ap (λ (x : List ℕ). (items_of l ++ originals_in c) ++ x) (joined-append (collected leaf_h ms) (reverse (messages_in c)) (stack_of (popped l)))
            ∙ append_assoc (items_of l) (originals_in c) (under_all (reverse (messages_in c)) ++ under_all (stack_of (popped l)))
            ∙ ap (λ (x : List ℕ). items_of l ++ x) (sym whole)

        pub again : Opening l₀ r
        again = record {
          space = v.space;
          items = items-are ∙ t.items;
          room =
              omega (
                arith,
                t.room,
                ap length items-are,
                length-append (items_of r) (under_all (stack_of r)),
                length-append (items_of l) (under_all (stack_of l)),
                items-length r v.space,
                items-length l t.space,
              );
          heavy = omega (arith, falls, t.heavy);
          low = λ x k. low x (count x (messages_in c)) refl k;
        }
          where
            low : (x n : ℕ) → count x (messages_in c) ≡ n → In x (stack_of r) → x < p.count
            low x zero e k =
                t.low x (omega (
                  arith,
                  ap (count x) v.stack,
                  count_reverse_aux x (messages_in c) (stack_of (popped l)),
                  ap (count x) stack_is,
                  count-cons x m (stack_of (popped l)),
                ))
            low x (suc n) e k = omega (arith, here, forest.older m x (omega (arith, ap (λ (y : List Slot). count x (messages_in y)) content-is)))
