-- What the test of an order says in counts, and that as many different keys below n as there are keys make an order.
-- Assumes nothing.
use mathlib.Core.Path.{◌≡◌, refl, ap, subst, sym, ◌∙◌}
use mathlib.Core.Bool.{Bool, true}
use mathlib.Core.Logic.{⊎_elim}
use mathlib.Core.List.{List, [], ◌∷◌, Memᴰ}
use Prim.Native.Nat.{ℕ, ◌≤◌, ◌<◌}
use native.Mathlib.Omega.{arith}
use native.Mathlib.Decide.{dec_le, dec_lt}
use lib.Dec.{T, eqb, eqb→eq, ltb, ltb→lt, lt→ltb}
use lib.ListN.{length, get_or}
use Rattle.schedule.specs.Count.{count, In, all, from, each_once}
use Rattle.schedule.proofs.Counts.{and_i, and_l, and_r, hit-cases, count-cons, in_list, in_mem, mem_in, from-above, from_in}
use Rattle.schedule.proofs.Runs.{from-lt}
use Rattle.schedule.proofs.Sums.{sum-le, sum_perm, length-sum, length_from}

module _ {A : Type 0} (p : A → Bool) where
  all-at : (l : List A) {x : A} → T (all p l) → Memᴰ x l → T (p x)
  unfolding all
  all-at [] t m = elim m [ ]
  all-at (y ∷ l) t (Memᴰ.head e) = subst (λ (z : A). T (p z)) (sym e) (and_l (p y) (all p l) t)
  all-at (y ∷ l) t (Memᴰ.tail m) = all-at l (and_r (p y) (all p l) t) m

  all_of : (l : List A) → ((x : A) → Memᴰ x l → T (p x)) → T (all p l)
  unfolding all
  all_of [] h = tt
  all_of (y ∷ l) h = and_i (p y) (all p l) (h y (Memᴰ.head refl)) (all_of l (λ x m. h x (Memᴰ.tail m)))

module _ (n : ℕ) (order : List ℕ) where
  -- each number below n once, in counts
  abbrev pub Each : Type 0
  Each = (j : ℕ) → count j order ≡ count j (from 0 n)

  pub each_counts : T (each_once n order) → Each
  unfolding each_once
  each_counts t j = go (dec_lt j n)
    where
      low : T (all (λ x. ltb x n) order)
      low = and_l (all (λ x. ltb x n) order) (all (λ x. eqb (count x order) 1) (from 0 n)) t

      one : T (all (λ x. eqb (count x order) 1) (from 0 n))
      one = and_r (all (λ x. ltb x n) order) (all (λ x. eqb (count x order) 1) (from 0 n)) t

      go : Dec (j < n) → count j order ≡ count j (from 0 n)
      go (yes l) =
          let s : count j (from 0 n) ≡ 1 = from_in j 0 n (omega arith) (omega arith) in
          eqb→eq (count j order) 1 (all-at (λ x. eqb (count x order) 1) (from 0 n) one (in_mem (from 0 n) (omega arith))) ∙ sym s
      go (no l) = none (dec_le 1 (count j order))
        where
          none : Dec (1 ≤ count j order) → count j order ≡ count j (from 0 n)
          none (yes i) = absurd (omega (arith, ltb→lt j n (all-at (λ x. ltb x n) order low (in_mem order i))))
          none (no i) = omega (arith, from-above j 0 n (omega arith))

  pub counts_each : Each → T (each_once n order)
  unfolding each_once
  counts_each e =
      and_i (all (λ x. ltb x n) order) (all (λ x. eqb (count x order) 1) (from 0 n))
      (all_of (λ x. ltb x n) order (λ x m. lt→ltb x n (from-lt x n (omega (arith, e x, mem_in m)))))
      (all_of (λ x. eqb (count x order) 1) (from 0 n)
      (λ x m. let l : x < n = from-lt x n (mem_in m) in
      let s : count x order ≡ 1 = e x ∙ from_in x 0 n (omega arith) (omega arith) in subst (λ (c : ℕ). T (eqb c 1)) (sym s) tt))

  pub order_each : each_once n order ≡ true → Each
  order_each e = each_counts (subst T (sym e) tt)

  -- an order is as long as there are keys
  pub order_long : Each → length order ≡ n
  order_long e = omega (arith, length-sum order, sum_perm (λ x. 1) order (from 0 n) e, length-sum (from 0 n), length_from 0 n)

  -- and names keys alone
  pub order_low : Each → (i : ℕ) → i < length order → get_or order i 0 < n
  order_low e i l = from-lt (get_or order i 0) n (omega (arith, e (get_or order i 0), in_list order i l))

  -- as many as there are keys, each a key, none twice
  pub few-each : length order ≡ n → ((x : ℕ) → In x order → x < n) → ((x : ℕ) → count x order ≤ 1) → Each
  few-each long low once j = go (dec_le 1 (count j order)) (dec_lt j n)
    where
      most : (x : ℕ) → x < n → count x order ≤ count x (from 0 n)
      most x l = omega (arith, once x, from_in x 0 n (omega arith) (omega arith))

      -- with a key more there would be more than n
      crowded : count j order ≡ 0 → j < n → (x : ℕ) → count x (j ∷ order) ≤ count x (from 0 n)
      crowded z l x = by (dec_le 1 (count x order))
        where
          by : Dec (1 ≤ count x order) → count x (j ∷ order) ≤ count x (from 0 n)
          by (yes i) = ⊎_elim (λ w. absurd (omega (arith, ap (λ (y : ℕ). count y order) w.0)))
              (λ w. omega (arith, count-cons x j order, w.1, most x (low x i))) (hit-cases x j)
          by (no i) = ⊎_elim (λ w. omega (arith, count-cons x j order, w.1, from_in x 0 n (omega arith) (omega (arith, w.0))))
              (λ w. omega (arith, count-cons x j order, w.1)) (hit-cases x j)

      go : Dec (1 ≤ count j order) → Dec (j < n) → count j order ≡ count j (from 0 n)
      go (yes i) d = omega (arith, once j, from_in j 0 n (omega arith) (omega (arith, low j i)))
      go (no i) (no l) = omega (arith, from-above j 0 n (omega arith))
      go (no i) (yes l) =
          absurd (omega (
            arith,
            sum-le (λ x. 1) (j ∷ order) (from 0 n) (crowded (omega arith) l),
            length-sum (j ∷ order),
            length-sum (from 0 n),
            length_from 0 n,
          ))

-- the keys rising are an order
pub rising-each : (n : ℕ) → T (each_once n (from 0 n))
rising-each n = counts_each n (from 0 n) (λ j. refl)
