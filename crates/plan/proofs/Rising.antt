-- Keys and live originals rising in arrays, and that registered factors with an order are all that the plan asks.
-- Assumes nothing.
use mathlib.Core.Path.{◌≡◌, refl, sym, ap, ap₂, subst, ◌∙◌}
use mathlib.Core.Bool.{Bool, true, false, cond}
use mathlib.Core.List.{List, [], ◌∷◌, ◌++◌, append-nil}
use Prim.Native.Nat.{ℕ, zero, suc, ◌+◌, ◌≤◌, ◌<◌}
use native.Mathlib.Nat.{zero-add}
use native.Mathlib.Numerals.{add-one}
use native.Mathlib.Omega.{arith}
use native.Mathlib.Decide.{dec_lt}
use borrow.Author.Tests.{lt-ltb, le-ltb}
use lib.Dec.{T, ltb, ltb→lt}
use lib.ListN.{length, get_or, take, set, length-set}
use lib.Seq.{take-suc-set, get_or-set_same, get_or-set_other}
use Rattle.factor.specs.Limits.{max_factors}
use Rattle.schedule.specs.Count.{count, In, put_if, from}
use Rattle.schedule.proofs.Counts.{count-nil, rising_once}
use Rattle.schedule.proofs.Orders.{Each}
use Rattle.schedule.proofs.Sums.{from_snoc}
use Rattle.plan.specs.Mask.{has}
use Rattle.plan.specs.Factors.{touched_keys, keys_among, Masked, live_among, Lists}
use Rattle.plan.specs.Plan.{Ordered, Registered, Sound}
use Rattle.factor.specs.Factor.{absent}
use Rattle.factor.specs.declared.Factor.{Factor}
use Rattle.plan.specs.declared.factors.Lives.{Lives}
use Rattle.plan.proofs.Unions.{rising-more, rising-zero}

-- the first numbers of a rising list
pub take-from : (a m n : ℕ) → n ≤ m → take n (from a m) ≡ from a n
unfolding from
take-from a m zero h = refl
take-from a zero (suc n) h = absurd (omega arith)
take-from a (suc m) (suc n) h = ap (λ (l : List ℕ). a ∷ l) (take-from (suc a) m n (omega arith))

-- ---- an array that a loop fills with the numbers of its places
pub rise_more : (r : List ℕ) (i : ℕ) → i < length r → take i r ≡ from 0 i → take (i + 1) (set r i i) ≡ from 0 (i + 1)
rise_more r i h e =
    ap (λ (m : ℕ). take m (set r i i)) (add-one i) ∙ take-suc-set r i i h ∙ ap₂ (λ (l : List ℕ) (x : ℕ). l ++ (x ∷ [])) e (sym (zero-add i))
    ∙ sym (from_snoc 0 i) ∙ ap (from 0) (sym (add-one i))

-- ---- an array that a loop fills with the numbers of the live factors
module _ (factors : List Factor) where
  abbrev lives : ℕ → Bool
  lives i = (get_or factors i absent).live

  pub record Listed (r : List ℕ) (m i : ℕ) : Type 0 where
    pub here : m ≤ i
    pub long : length r ≡ max_factors
    pub low : (k : ℕ) → k < m → get_or r k 0 < i
    pub is : take m r ≡ live_among factors i

  pub listed-none : (r : List ℕ) → length r ≡ max_factors → Listed r 0 0
  listed-none r l = record { here = omega arith; long = l; low = λ k h. absurd (omega arith); is = sym (rising-zero lives) }

  module _ (r : List ℕ) (m i : ℕ) (h : i < max_factors) (t : Listed r m i) where
    pub listed-live : lives i ≡ true → Listed (set r m i) (m + 1) (i + 1)
    listed-live e = record {
      here = omega (arith, t.here);
      long = length-set r m i ∙ t.long;
      low = λ k l. at k l (dec_lt k m);
      is =
          ap (λ (n : ℕ). take n (set r m i)) (add-one m) ∙ take-suc-set r m i (omega (arith, t.long, t.here))
          ∙ ap₂ (λ (l : List ℕ) (b : Bool). l ++ put_if b i []) t.is (sym e) ∙ sym (rising-more lives i);
    }
      where
        at : (k : ℕ) → k < m + 1 → Dec (k < m) → get_or (set r m i) k 0 < i + 1
        at k l (yes g) = omega (arith, get_or-set_other r m k i 0 (λ e. omega arith), t.low k g)
        at k l (no g) =
            let e : k ≡ m = omega arith in
            rw e (omega (arith, get_or-set_same r m i 0 (omega (arith, t.long, t.here))))

    pub listed_other : lives i ≡ false → Listed r m (i + 1)
    listed_other e = record {
      here = omega (arith, t.here);
      long = t.long;
      low = λ k l. omega (arith, t.low k l);
      is =
          t.is ∙ sym (append-nil (live_among factors i)) ∙ ap (λ (b : Bool). live_among factors i ++ put_if b i []) (sym e)
          ∙ sym (rising-more lives i);
    }

  pub listed-done : (r : List ℕ) (m i n : ℕ) → Listed r m i → i ≡ n → n ≤ max_factors → Lists factors n (record { numbers = r; count = m })
  listed-done r m i n t e few = record {
    originals = record { few = omega (arith, t.here); low = λ k l. omega (arith, t.low k l) };
    are = t.is ∙ ap (live_among factors) e;
  }

-- The live originals, rising, are none twice; the keys are those of an order.
pub live-ordered : (factors : List Factor) (number : ℕ) (r : Lives) (keys : List ℕ) (n : ℕ) → Lists factors number r → Each n (take n keys)
    → Ordered r.numbers r.count keys n
live-ordered factors number r keys n l each = record {
  originals = l.originals;
  distinct = λ f. omega (arith, ap (count f) l.are, rising_once number (λ i. (get_or factors i absent).live) f);
  each = each;
}

-- ---- what the plan asks
module _ (factors : List Factor) (number n : ℕ) (reg : Registered factors number n) (keys : List ℕ) (masked : Masked factors number keys) where
  -- a key of any set is registered
  low : (i j : ℕ) → T (has j (get_or keys i 0)) → j < n
  low i j t = go (dec_lt i number)
    where
      listed : In j (keys_among factors number i)
      listed = ltb→lt 0 (count j (keys_among factors number i)) (subst T (masked i j) t)

      put : (b : Bool) → ltb i number ≡ b → In j (cond b (touched_keys (get_or factors i absent)) [])
      put b e = subst (λ (x : Bool). In j (cond x (touched_keys (get_or factors i absent)) [])) e listed

      go : Dec (i < number) → j < n
      go (yes h) = reg.below i h j (put true (lt-ltb i number h))
      go (no h) = absurd (omega (arith, put false (le-ltb i number (omega arith)), count-nil j))

  pub sound : (live order : List ℕ) (lives : ℕ) → Ordered live lives order n → Sound keys live lives order n
  sound live order lives o = record { few = reg.few; low = low; ordered = o }
