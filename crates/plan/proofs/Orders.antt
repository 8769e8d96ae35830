-- A lent order, key by key: the keys met so far as a set. Assumes nothing.
use mathlib.Core.Path.{◌≡◌, sym, ap, subst, ◌∙◌}
use mathlib.Core.Bool.{true, false}
use mathlib.Core.Logic.{⊎_elim}
use mathlib.Core.List.{List, [], ◌∷◌}
use Prim.Native.Nat.{ℕ, suc, ◌+◌, ◌^◌, ◌≤◌, ◌<◌}
use native.Mathlib.Numerals.{add-one}
use native.Mathlib.Omega.{arith}
use native.Mathlib.Decide.{dec_lt}
use lib.Bits.{bit_and, bit_or}
use lib.Dec.{T, not_T, lt→ltb, ltb→lt}
use lib.ListN.{length, get_or, take, drop}
use lib.Seq.{split_at, take_all, take-suc}
use Rattle.schedule.specs.Count.{hit, count, In, each_once}
use Rattle.schedule.proofs.Counts.{hit-cases, hit_same, count-cons, count-nil, count-append}
use Rattle.schedule.proofs.Demand3.{from_once}
use Rattle.schedule.proofs.Orders.{each_counts, counts_each, order_long, order_low, few-each}
use Rattle.plan.specs.Mask.{Set}
use Rattle.plan.proofs.Membership.{sure_true, sure_false}
use Rattle.plan.proofs.Unions.{set-none, set-take, in_set, off_set}

-- ---- the test
module _ (n : ℕ) (order : List ℕ) where
  no_order : (T (each_once n order) → ⊥) → false ≡ each_once n order
  no_order h = sym (sure_false (each_once n order) (not_T (each_once n order) h))

  -- too short or too long
  pub unlike : (length order ≡ n → ⊥) → false ≡ each_once n order
  unlike h = no_order (λ t. h (order_long n order (each_counts n order t)))

  -- a key that isn't there
  pub not_there : (i : ℕ) → i < length order → n ≤ get_or order i 0 → false ≡ each_once n order
  not_there i l h = no_order (λ t. omega (arith, order_low n order (each_counts n order t) i l))

  -- the first i places name keys below n, none of them twice, and `met` is their set
  pub record Met (met i : ℕ) : Type 0 where
    pub low : (j : ℕ) → In j (take i order) → j < n
    pub once : (j : ℕ) → count j (take i order) ≤ 1
    pub set : Set (take i order) met

  pub met-none : Met 0 0
  met-none = record { low = λ j h. absurd (omega (arith, count-nil j)); once = λ j. omega (arith, count-nil j); set = set-none }

  module _ (met i key : ℕ) (l : i < length order) (m : Met met i) (e : key ≡ 2 ^ get_or order i 0) where
    abbrev k : ℕ
    k = get_or order i 0

    -- a key that was met before
    pub twice : (bit_and met key ≡ 0 → ⊥) → false ≡ each_once n order
    twice h =
        let before : 1 ≤ count k (take i order) = ltb→lt 0 (count k (take i order)) (subst T (sym (in_set met k key e h) ∙ m.set k) tt) in
        no_order (λ t. omega (
          arith,
          each_counts n order t k,
          from_once n k,
          ap (count k) (split_at order i 0 l),
          count-append k (take i order) (k ∷ drop (suc i) order),
          count-cons k k (drop (suc i) order),
          hit_same k,
        ))

    more : (j : ℕ) → count j (take (i + 1) order) ≡ count j (take i order) + hit j k
    more j =
        omega (
          arith,
          ap (λ (s : ℕ). count j (take s order)) (add-one i),
          ap (count j) (take-suc order i 0 l),
          count-append j (take i order) (k ∷ []),
          count-cons j k [],
          count-nil j,
        )

    -- a key that wasn't
    pub met-more : k < n → bit_and met key ≡ 0 → Met (bit_or met key) (i + 1)
    met-more h z = record {
      low = λ j s. ⊎_elim (λ w. omega (arith, w.0)) (λ w. m.low j (omega (arith, more j, w.1))) (hit-cases j k);
      once = λ j. ⊎_elim (λ w. omega (arith, more j, w.1, ap (λ (x : ℕ). count x (take i order)) w.0, new))
          (λ w. omega (arith, more j, w.1, m.once j)) (hit-cases j k);
      set = set-take order i met key l m.set e;
    }
      where
        new : count k (take i order) ≡ 0
        new = none (dec_lt 0 (count k (take i order)))
          where
            none : Dec (0 < count k (take i order)) → count k (take i order) ≡ 0
            none (yes s) = absurd (subst T (sym (m.set k) ∙ off_set met k key e z) (lt→ltb 0 (count k (take i order)) s))
            none (no s) = omega arith

  -- all were met
  pub met_all : (met i : ℕ) → length order ≡ n → n ≤ i → Met met i → true ≡ each_once n order
  met_all met i long h m =
      let e : take i order ≡ order = take_all i order (omega arith) in
      sym (sure_true (each_once n order) (counts_each n order (few-each n order long
      (λ x s. m.low x (omega (arith, ap (count x) e, s))) (λ x. omega (arith, ap (count x) e, m.once x)))))
