-- What the written lists hold. Assumes nothing.
use mathlib.Core.Path.{◌≡◌, refl, sym, ap, ◌∙◌}
use mathlib.Core.Bool.{Bool, true, false, cond}
use mathlib.Core.List.{List, [], ◌∷◌, ◌++◌, map, append_assoc}
use Prim.Native.Nat.{ℕ, ◌+◌, ◌-◌, ◌≤◌, ◌<◌}
use native.Mathlib.Omega.{arith}
use lib.Dec.{ltb}
use lib.ListN.{length, get_or, take, drop, length-take}
use lib.Seq.{get_or-drop}
use Rattle.factor.specs.Limits.{max_variables, max_factors}
use Rattle.schedule.specs.Pass.{at}
use Rattle.plan.specs.Mask.{keys_in}
use Rattle.plan.specs.Pass.{pass_slot, messages_of, msg_at, PassReady}
use Rattle.plan.specs.Gather.{gathered_of, Held}
use Rattle.plan.specs.declared.pass.Pass.{Pass}
use Rattle.plan.specs.declared.gather.Gathered.{Gathered}
use Rattle.plan.proofs.Prefixes.{part-is}
use Rattle.plan.proofs.Unions.{at_msg}
use Rattle.lists.specs.Lists.{backward_shift, first_backward, slot_number, raised, Holds, HoldsGathered}
use Rattle.lists.proofs.Writing.{raised_is}

map_same : (f : ℕ → ℕ) (l : List ℕ) → ((x : ℕ) → f x ≡ x) → map f l ≡ l
map_same f [] h = refl
map_same f (x ∷ l) h = rw (h x, map_same f l h) refl

map-map : {A : Type 0} (f : A → ℕ) (g : ℕ → A) (h : ℕ → ℕ) (l : List ℕ) → ((x : ℕ) → h x ≡ f (g x)) → map h l ≡ map f (map g l)
map-map f g h [] e = refl
map-map f g h (x ∷ l) e = rw (e x, map-map f g h l e) refl

raised-none : (s : ℕ) → raised 0 s ≡ s
unfolding raised
raised-none s = go (ltb s max_factors)
  where
    go : (b : Bool) → cond b s (s + 0) ≡ s
    go true = refl
    go false = omega arith

pub message_holds : (p : Pass) (j shift : ℕ) (kept cleared slots : List ℕ) (k c n : ℕ) → j < p.count → shift ≤ backward_shift → PassReady max_variables p
    → take k kept ≡ map (λ i. 0 + i) (keys_in (get_or p.masks (max_factors + j) 0)) → k ≤ 0 + max_variables
    → take c cleared ≡ map (λ i. 0 + i) (keys_in (get_or p.cleared j 0)) → c ≤ 0 + max_variables
    → take n slots ≡ map (raised shift) (take (get_or p.ends j 0 - get_or p.starts j 0) (drop (get_or p.starts j 0) p.board.content))
    → n ≡ 0 + length (take (get_or p.ends j 0 - get_or p.starts j 0) (drop (get_or p.starts j 0) p.board.content))
    → Holds shift (at (messages_of p) j) (record { kept = kept; keeps = k; cleared = cleared; clears = c; slots = slots; count = n })
unfolding msg_at
message_holds p j shift kept cleared slots k c n l low ready ek hk ec hc en hn =
    rw (at_msg p j l)
    (record {
      kept = ek ∙ map_same (λ i. 0 + i) (keys_in (get_or p.masks (max_factors + j) 0)) (λ x. omega arith)
          ∙ ap keys_in (sym (get_or-drop max_factors p.masks j 0));
      cleared = ec ∙ map_same (λ i. 0 + i) (keys_in (get_or p.cleared j 0)) (λ x. omega arith);
      slots = en ∙ ap (map (raised shift)) (part-is (get_or p.starts j 0) (get_or p.ends j 0) p.board.content (ready.ordered j l))
          ∙ map-map (slot_number shift) pass_slot (raised shift) (drop (get_or p.starts j 0) (take (get_or p.ends j 0) p.board.content))
          (raised_is shift);
      few_kept = omega arith;
      few_cleared = omega arith;
      few =
          omega (
            arith,
            ready.closed j l,
            ready.room.contents.few,
            length-take (get_or p.ends j 0 - get_or p.starts j 0) (drop (get_or p.starts j 0) p.board.content),
          );
    })

pub gathered_holds : (q : Gathered) (k : ℕ) (zeros cleared s₁ s₂ s₃ : List ℕ) (c f b n : ℕ) → Held q
    → take c cleared ≡ map (λ i. 0 + i) (keys_in q.last) → c ≤ 0 + max_variables
    → take f s₁ ≡ map (λ i. max_factors + i) (keys_in q.forward) → f ≤ 0 + max_variables
    → take b s₂ ≡ take f s₁ ++ map (λ i. first_backward + i) (keys_in q.backward) → b ≤ f + max_variables
    → take n s₃ ≡ take b s₂ ++ map (raised 0) (take (q.count - q.covered) (drop q.covered q.items))
    → n ≡ b + length (take (q.count - q.covered) (drop q.covered q.items))
    → HoldsGathered k (gathered_of q) (record { kept = k ∷ zeros; keeps = 1; cleared = cleared; clears = c; slots = s₃; count = n })
unfolding gathered_of
gathered_holds q k zeros cleared s₁ s₂ s₃ c f b n held ec hc ef hf eb hb en hn =
    record {
      kept = refl;
      cleared = ec ∙ map_same (λ i. 0 + i) (keys_in q.last) (λ x. omega arith);
      slots = rw (en, eb, ef, part-is q.covered q.count q.items held.covered, map_same (raised 0) (drop q.covered (take q.count q.items)) raised-none)
          (append_assoc (map (λ i. max_factors + i) (keys_in q.forward)) (map (λ i. first_backward + i) (keys_in q.backward))
          (drop q.covered (take q.count q.items)));
      few_cleared = omega arith;
      few = omega (arith, held.items.few, held.covered, length-take (q.count - q.covered) (drop q.covered q.items));
    }
