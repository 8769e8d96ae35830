-- The alive messages: the loop of `alive_messages`.
-- Assumes nothing.
use mathlib.Core.Path.{◌≡◌, refl, sym, ap, ap₂, subst, ◌∙◌}
use mathlib.Core.Bool.{Bool, true, false, not, ◌&&◌, ◌||◌}
use mathlib.Core.Logic.{◌⊎◌, inl, inr}
use mathlib.Core.List.{List, [], ◌∷◌, ◌++◌, map, append-nil}
use Prim.Native.Nat.{ℕ, ◌+◌, ◌^◌, ◌≤◌, ◌<◌}
use native.Mathlib.Numerals.{add-one}
use native.Mathlib.Nat.{zero-add}
use native.Mathlib.Decide.{ℕ_discrete}
use native.Mathlib.Omega.{arith}
use borrow.Author.Tests.{le-leb, lt-leb, eq-eqb, ne_eqb}
use lib.Bits.{bit_and, bit_or, bit_xor}
use lib.Dec.{T, eqb, leb, eqb→eq, not_T}
use lib.ListN.{get_or}
use Rattle.factor.specs.Limits.{max_variables}
use Rattle.schedule.specs.Count.{mem, put_if, keep, from, joined, rising_where}
use Rattle.schedule.specs.Pass.{Slot, ClosedFactor, at}
use Rattle.schedule.specs.Gather.{messages_in, up_to, within, alive_among, alive_messages}
use Rattle.schedule.proofs.Counts.{or_e, and_l, keep_append, rising-same}
use Rattle.schedule.proofs.Sums.{joined-append, from_snoc}
use Rattle.plan.specs.Mask.{has, keys_in, Set}
use Rattle.plan.specs.Pass.{msg_at, messages_of}
use Rattle.plan.specs.Gather.{content_part, Inner, Alive}
use Rattle.plan.specs.declared.pass.Pass.{Pass}
use Rattle.plan.proofs.Digits.{differs, has-and, has-or, has-xor, has-zero, has-single}
use Rattle.plan.proofs.Prefixes.{or-false, map-append}
use Rattle.plan.proofs.Membership.{sure_false, keep-cons, keep-nil, rising_on}
use Rattle.plan.proofs.Sending.{messages-length}
use Rattle.plan.proofs.Unions.{at_msg, set-append, set-none}

-- the first i messages
abbrev pub first : Pass → ℕ → List ClosedFactor
first p i = map (msg_at p) (from 0 i)

abbrev pub inside : ℕ → Pass → ℕ → List ℕ
inside t p i = joined (λ m. messages_in m.content) (keep (up_to t) (first p i))

pub record AliveTo (t : ℕ) (p : Pass) (u w i : ℕ) : Type 0 where
  pub here : i ≤ p.count
  pub upto : (j : ℕ) → j < i → has j u ≡ leb (get_or p.steps j 0) t
  pub low : (j : ℕ) → T (has j u) → j < i
  pub within : Set (inside t p i) w

inside-nil : (t : ℕ) (p : Pass) → inside t p 0 ≡ []
unfolding joined keep from
inside-nil t p = refl

first_more : (p : Pass) (i : ℕ) → first p (i + 1) ≡ first p i ++ (msg_at p i ∷ [])
first_more p i =
    ap (first p) (add-one i) ∙ ap (map (msg_at p)) (from_snoc 0 i) ∙ map-append (msg_at p) (from 0 i) ((0 + i) ∷ [])
    ∙ ap (λ (n : ℕ). first p i ++ (msg_at p n ∷ [])) (zero-add i)

inside-more : (t : ℕ) (p : Pass) (i : ℕ) → inside t p (i + 1)
    ≡ inside t p i ++ joined (λ m. messages_in m.content) (put_if (up_to t (msg_at p i)) (msg_at p i) [])
inside-more t p i =
    ap (λ (l : List ClosedFactor). joined (λ m. messages_in m.content) (keep (up_to t) l)) (first_more p i)
    ∙ ap (joined (λ m. messages_in m.content)) (keep_append (up_to t) (first p i) (msg_at p i ∷ []))
    ∙ joined-append (λ m. messages_in m.content) (keep (up_to t) (first p i)) (keep (up_to t) (msg_at p i ∷ []))
    ∙ ap (λ (l : List ClosedFactor). inside t p i ++ joined (λ m. messages_in m.content) l)
    (keep-cons (up_to t) (msg_at p i) [] ∙ ap (put_if (up_to t (msg_at p i)) (msg_at p i)) (keep-nil (up_to t)))

step-at : (p : Pass) (i : ℕ) → (msg_at p i).step ≡ get_or p.steps i 0
unfolding msg_at
step-at p i = refl

content-at : (p : Pass) (i : ℕ) → (msg_at p i).content ≡ content_part (get_or p.starts i 0) (get_or p.ends i 0) p.board.content
unfolding msg_at
content-at p i = refl

inside_in : (t : ℕ) (p : Pass) (i : ℕ) → get_or p.steps i 0 ≤ t → inside t p (i + 1)
    ≡ inside t p i ++ messages_in (content_part (get_or p.starts i 0) (get_or p.ends i 0) p.board.content)
unfolding joined
inside_in t p i h =
    inside-more t p i ∙ ap (λ (b : Bool). inside t p i ++ joined (λ m. messages_in m.content) (put_if b (msg_at p i) []))
    (ap (λ (s : ℕ). leb s t) (step-at p i) ∙ le-leb (get_or p.steps i 0) t h)
    ∙ ap (λ (l : List ℕ). inside t p i ++ l) (append-nil (messages_in (msg_at p i).content))
    ∙ ap (λ (l : List Slot). inside t p i ++ messages_in l) (content-at p i)

inside_off : (t : ℕ) (p : Pass) (i : ℕ) → t < get_or p.steps i 0 → inside t p (i + 1) ≡ inside t p i
unfolding joined
inside_off t p i h =
    inside-more t p i ∙ ap (λ (b : Bool). inside t p i ++ joined (λ m. messages_in m.content) (put_if b (msg_at p i) []))
    (ap (λ (s : ℕ). leb s t) (step-at p i) ∙ lt-leb (get_or p.steps i 0) t h)
    ∙ append-nil (inside t p i)

module _ (t : ℕ) (p : Pass) where
  pub start : AliveTo t p 0 0 0
  start = record {
    here = omega arith;
    upto = λ j h. absurd (omega arith);
    low = λ j h. absurd (subst T (has-zero j) h);
    within = subst (λ (l : List ℕ). Set l 0) (sym (inside-nil t p)) set-none;
  }

  module _ (upto within i : ℕ) (a : AliveTo t p upto within i) (h : i < p.count) where
    pub more : (s r : ℕ) → get_or p.steps i 0 ≤ t → s ≡ 2 ^ i → Inner (get_or p.starts i 0) (get_or p.ends i 0) p.board.content r
        → AliveTo t p (bit_or upto s) (bit_or within r) (i + 1)
    more s r k e n = record {
      here = omega arith;
      upto = λ j l. is j (ℕ_discrete j i) l;
      low = λ j q. low j (or_e (has j upto) (has j s) (subst T (has-or j upto s) q));
      within = subst (λ (l : List ℕ). Set l (bit_or within r)) (sym (inside_in t p i k))
          (set-append (inside t p i) (messages_in (content_part (get_or p.starts i 0) (get_or p.ends i 0) p.board.content)) within r a.within n);
    }
      where
        one : (j : ℕ) → has j s ≡ eqb j i
        one j = ap (has j) e ∙ has-single j i

        or-true : (b : Bool) → b || true ≡ true
        or-true true = refl
        or-true false = refl

        is : (j : ℕ) → Dec (j ≡ i) → j < i + 1 → has j (bit_or upto s) ≡ leb (get_or p.steps j 0) t
        is j (yes q) l =
            has-or j upto s ∙ ap (λ (b : Bool). has j upto || b) (one j ∙ eq-eqb j i q) ∙ or-true (has j upto) ∙ sym (le-leb (get_or p.steps i 0) t k)
            ∙ ap (λ (x : ℕ). leb (get_or p.steps x 0) t) (sym q)
        is j (no q) l =
            has-or j upto s ∙ ap (λ (b : Bool). has j upto || b) (one j ∙ ne_eqb j i q) ∙ or-false (has j upto) ∙ a.upto j (omega arith)

        low : (j : ℕ) → T (has j upto) ⊎ T (has j s) → j < i + 1
        low j (inl q) = omega (arith, a.low j q)
        low j (inr q) = omega (arith, eqb→eq j i (subst T (one j) q))

    pub same : t < get_or p.steps i 0 → AliveTo t p upto within (i + 1)
    same k = record {
      here = omega arith;
      upto = λ j l. is j (ℕ_discrete j i) l;
      low = λ j q. omega (arith, a.low j q);
      within = subst (λ (l : List ℕ). Set l within) (sym (inside_off t p i k)) a.within;
    }
      where
        is : (j : ℕ) → Dec (j ≡ i) → j < i + 1 → has j upto ≡ leb (get_or p.steps j 0) t
        is j (yes q) l =
            sure_false (has j upto) (not_T (has j upto) (λ f. omega (arith, a.low j f))) ∙ sym (lt-leb (get_or p.steps i 0) t k)
            ∙ ap (λ (x : ℕ). leb (get_or p.steps x 0) t) (sym q)
        is j (no q) l = a.upto j (omega arith)

  within-is : inside t p p.count ≡ within t (messages_of p)
  unfolding within messages_of
  within-is = refl

  not-both : (a b : Bool) → differs a (a && b) ≡ a && not b
  not-both true b = refl
  not-both false b = refl

  pub done : (upto w i : ℕ) → AliveTo t p upto w i → p.count ≤ i → p.count ≤ max_variables → Alive t p (bit_xor upto (bit_and upto w))
  unfolding alive_messages alive_among keys_in
  done upto w i a h f =
      let e : i ≡ p.count = omega (arith, a.here) in
      record {
        is = rising_on p.count max_variables (λ j. has j r) f (λ j l. sure_false (has j r) (not_T (has j r) (λ q. omega (arith, low j q))))
            ∙ rising-same p.count (λ j. has j r) (λ j. up_to t (at (messages_of p) j) && not (mem j (within t (messages_of p)))) both
            ∙ ap (λ (n : ℕ). rising_where n (λ j. up_to t (at (messages_of p) j) && not (mem j (within t (messages_of p))))) (sym (messages-length p));
        low = low;
      }
    where
      r : ℕ
      r = bit_xor upto (bit_and upto w)

      has_r : (j : ℕ) → has j r ≡ has j upto && not (has j w)
      has_r j = has-xor j upto (bit_and upto w) ∙ ap (differs (has j upto)) (has-and j upto w) ∙ not-both (has j upto) (has j w)

      low : (j : ℕ) → T (has j r) → j < p.count
      low j q = omega (arith, a.here, a.low j (and_l (has j upto) (not (has j w)) (subst T (has_r j) q)))

      both : (j : ℕ) → j < p.count → has j r ≡ up_to t (at (messages_of p) j) && not (mem j (within t (messages_of p)))
      both j l =
          let e : i ≡ p.count = omega (arith, a.here) in
          has_r j
          ∙ ap₂ (λ (x y : Bool). x && not y)
          (a.upto j (omega (arith, a.here)) ∙ ap (λ (s : ℕ). leb s t) (sym (step-at p j)) ∙ ap (up_to t) (sym (at_msg p j l)))
          (a.within j ∙ ap (λ (n : ℕ). mem j (inside t p n)) e ∙ ap (mem j) within-is)
