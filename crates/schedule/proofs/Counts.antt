-- What counts do under ++, joined, keep, any, rising.
-- Assumes nothing.
use mathlib.Core.Path.{◌≡◌, refl, ap, ap₂, subst, ◌∙◌}
use mathlib.Core.Logic.{◌≢◌, ◌⊎◌, inl, inr}
use mathlib.Core.Bool.{Bool, true, false, not, ◌&&◌, ◌||◌}
use mathlib.Core.List.{List, [], ◌∷◌, ◌++◌, reverse, reverse_aux, Memᴰ}
use Prim.Native.Nat.{ℕ, zero, suc, ◌+◌, ◌≤◌, ◌<◌}
use native.Mathlib.Omega.{arith}
use native.Mathlib.Decide.{ℕ_discrete, dec_lt}
use lib.Dec.{T, eqb, eqb→eq, eqb_refl, T_not, not_T}
use lib.ListN.{length, get_or}
use Rattle.schedule.specs.Count.{bit, hit, count, In, put_if, keep, any, sum_over, joined, from, rising_where}

-- ---- tests
pub sure : (b : Bool) → T b ⊎ T (not b)
sure true = inl tt
sure false = inr tt

pub and_l : (a b : Bool) → T (a && b) → T a
and_l true b t = tt
and_l false b t = absurd t

pub and_r : (a b : Bool) → T (a && b) → T b
and_r true b t = t
and_r false b t = absurd t

pub and_i : (a b : Bool) → T a → T b → T (a && b)
and_i true b s t = t
and_i false b s t = absurd s

pub and_no_l : (a b : Bool) → T (not a) → T (not (a && b))
and_no_l true b t = absurd t
and_no_l false b t = tt

pub and_no_r : (a b : Bool) → T (not b) → T (not (a && b))
and_no_r true b t = t
and_no_r false b t = tt

pub or_l : (a b : Bool) → T a → T (a || b)
or_l true b t = tt
or_l false b t = absurd t

pub or_r : (a b : Bool) → T b → T (a || b)
or_r true b t = tt
or_r false b t = t

pub or_e : (a b : Bool) → T (a || b) → T a ⊎ T b
or_e true b t = inl tt
or_e false b t = inr t

pub not-not : (b : Bool) → T b → T (not (not b))
not-not true t = tt
not-not false t = absurd t

pub un_not : (b : Bool) → T (not (not b)) → T b
un_not true t = tt
un_not false t = absurd t

-- ---- hits and counts
pub hit_same : (x : ℕ) → hit x x ≡ 1
unfolding hit
hit_same x = go (eqb x x) (eqb_refl x)
  where
    go : (b : Bool) → T b → bit b ≡ 1
    go true t = refl
    go false t = absurd t

pub hit_other : (x y : ℕ) → x ≢ y → hit x y ≡ 0
unfolding hit
hit_other x y h = go (eqb x y) (λ t. h (eqb→eq x y t))
  where
    go : (b : Bool) → (T b → ⊥) → bit b ≡ 0
    go true f = absurd (f tt)
    go false f = refl

pub hit-cases : (x y : ℕ) → ((x ≡ y) × (hit x y ≡ 1)) ⊎ ((x ≢ y) × (hit x y ≡ 0))
hit-cases x y = go (ℕ_discrete x y)
  where
    go : Dec (x ≡ y) → ((x ≡ y) × (hit x y ≡ 1)) ⊎ ((x ≢ y) × (hit x y ≡ 0))
    go (yes e) = inl (e, subst (λ (z : ℕ). hit x z ≡ 1) e (hit_same x))
    go (no n) = inr (n, hit_other x y n)

-- a number that is hit is the number
pub hit-eq : (x y : ℕ) → 1 ≤ hit x y → x ≡ y
hit-eq x y h = go (hit-cases x y)
  where
    go : ((x ≡ y) × (hit x y ≡ 1)) ⊎ ((x ≢ y) × (hit x y ≡ 0)) → x ≡ y
    go (inl e) = e.0
    go (inr e) = absurd (omega arith)

pub count-cons : (x y : ℕ) (l : List ℕ) → count x (y ∷ l) ≡ hit x y + count x l
unfolding count
count-cons x y l = refl

pub count-nil : (x : ℕ) → count x [] ≡ 0
unfolding count
count-nil x = refl

pub count-append : (x : ℕ) (a b : List ℕ) → count x (a ++ b) ≡ count x a + count x b
unfolding count
count-append x [] b = omega arith
count-append x (y ∷ a) b = omega (arith, count-append x a b)

pub count_reverse_aux : (x : ℕ) (a b : List ℕ) → count x (reverse_aux a b) ≡ count x a + count x b
unfolding count
count_reverse_aux x [] b = omega arith
count_reverse_aux x (y ∷ a) b = omega (arith, count_reverse_aux x a (y ∷ b))

pub count-reverse : (x : ℕ) (a : List ℕ) → count x (reverse a) ≡ count x a
unfolding count
count-reverse x a = omega (arith, count_reverse_aux x a [])

-- a member, by its place
pub in_list : (l : List ℕ) (i : ℕ) → i < length l → In (get_or l i 0) l
in_list [] i h = absurd (omega arith)
in_list (x ∷ l) zero h = omega (arith, count-cons x x l, hit_same x)
in_list (x ∷ l) (suc i) h = omega (arith, count-cons (get_or l i 0) x l, in_list l i (omega arith))

pub in_mem : {x : ℕ} (l : List ℕ) → In x l → Memᴰ x l
unfolding count
in_mem [] h = absurd (omega arith)
in_mem {x} (y ∷ l) h = go (hit-cases x y) (in_mem l)
  where
    go : ((x ≡ y) × (hit x y ≡ 1)) ⊎ ((x ≢ y) × (hit x y ≡ 0)) → (In x l → Memᴰ x l) → Memᴰ x (y ∷ l)
    go (inl e) f = Memᴰ.head e.0
    go (inr e) f = Memᴰ.tail (f (omega arith))

pub mem_in : {x : ℕ} {l : List ℕ} → Memᴰ x l → In x l
unfolding count
mem_in {x} (Memᴰ.head {x = y} {xs = l} e) = omega (arith, subst (λ (z : ℕ). hit x z ≡ 1) e (hit_same x))
mem_in (Memᴰ.tail m) = omega (arith, mem_in m)

module _ {A : Type 0} where
  pub sum-append : (g : A → ℕ) (a b : List A) → sum_over g (a ++ b) ≡ sum_over g a + sum_over g b
  unfolding sum_over
  sum-append g [] b = omega arith
  sum-append g (x ∷ a) b = omega (arith, sum-append g a b)

  pub count-joined : (x : ℕ) (g : A → List ℕ) (l : List A) → count x (joined g l) ≡ sum_over (λ e. count x (g e)) l
  unfolding sum_over joined count
  count-joined x g [] = refl
  count-joined x g (e ∷ l) = omega (arith, count-append x (g e) (joined g l), count-joined x g l)

  -- some member counts
  pub sum-some : (g : A → ℕ) (l : List A) → 1 ≤ sum_over g l → (e : A) × Memᴰ e l × (1 ≤ g e)
  unfolding sum_over
  sum-some g [] h = absurd (omega arith)
  sum-some g (e ∷ l) h = go (g e) refl (sum-some g l)
    where
      go : (k : ℕ) → g e ≡ k → (1 ≤ sum_over g l → (e : A) × Memᴰ e l × (1 ≤ g e)) → (d : A) × Memᴰ d (e ∷ l) × (1 ≤ g d)
      go zero q f = let r = f (omega arith) in (r.0, Memᴰ.tail r.1, r.2)
      go (suc k) q f = (e, Memᴰ.head refl, omega arith)

  pub sum-member : (g : A → ℕ) {e : A} {l : List A} → Memᴰ e l → g e ≤ sum_over g l
  unfolding sum_over
  sum-member g (Memᴰ.head {x = y} {xs = l} q) = omega (arith, ap g q)
  sum-member g (Memᴰ.tail {x = y} {xs = l} m) = omega (arith, sum-member g m)

  pub sum_same : (g h : A → ℕ) (l : List A) → ((e : A) → Memᴰ e l → g e ≡ h e) → sum_over g l ≡ sum_over h l
  unfolding sum_over
  sum_same g h [] f = refl
  sum_same g h (e ∷ l) f = omega (arith, f e (Memᴰ.head refl), sum_same g h l (λ d m. f d (Memᴰ.tail m)))

  -- a passed or a failed test over a list
  pub any_some : (p : A → Bool) (l : List A) → T (any p l) → (e : A) × Memᴰ e l × T (p e)
  unfolding any
  any_some p [] t = absurd t
  any_some p (e ∷ l) t = go (or_e (p e) (any p l) t) (any_some p l)
    where
      go : T (p e) ⊎ T (any p l) → (T (any p l) → (d : A) × Memᴰ d l × T (p d)) → (d : A) × Memᴰ d (e ∷ l) × T (p d)
      go (inl q) f = (e, Memᴰ.head refl, q)
      go (inr q) f = let r = f q in (r.0, Memᴰ.tail r.1, r.2)

  pub any_of : (p : A → Bool) {e : A} {l : List A} → Memᴰ e l → T (p e) → T (any p l)
  unfolding any
  any_of p {e} (Memᴰ.head {x = y} {xs = l} q) t = or_l (p y) (any p l) (rw q at t)
  any_of p (Memᴰ.tail {x = y} {xs = l} m) t = or_r (p y) (any p l) (any_of p m t)

  pub any_none : (p : A → Bool) {e : A} (l : List A) → Memᴰ e l → T (not (any p l)) → T (not (p e))
  any_none p {e} l m t = not_T (p e) (λ s. T_not (any p l) t (any_of p m s))

-- ---- keep and rising
pub keep_yes : (p : ℕ → Bool) (x : ℕ) (l : List ℕ) → T (p x) → count x (keep p l) ≡ count x l
unfolding keep count
keep_yes p x [] t = refl
keep_yes p x (y ∷ l) t = go (p y) refl (hit-cases x y) (keep_yes p x l t)
  where
    go : (b : Bool) → p y ≡ b → ((x ≡ y) × (hit x y ≡ 1)) ⊎ ((x ≢ y) × (hit x y ≡ 0)) → count x (keep p l) ≡ count x l
        → count x (put_if b y (keep p l)) ≡ hit x y + count x l
    go true q h ih = omega arith
    go false q (inl e) ih = absurd (rw (e.0, q) at t)
    go false q (inr e) ih = omega arith

pub keep_no : (p : ℕ → Bool) (x : ℕ) (l : List ℕ) → T (not (p x)) → count x (keep p l) ≡ 0
unfolding keep count
keep_no p x [] t = refl
keep_no p x (y ∷ l) t = go (p y) refl (hit-cases x y) (keep_no p x l t)
  where
    go : (b : Bool) → p y ≡ b → ((x ≡ y) × (hit x y ≡ 1)) ⊎ ((x ≢ y) × (hit x y ≡ 0)) → count x (keep p l) ≡ 0 → count x (put_if b y (keep p l)) ≡ 0
    go true q (inl e) ih = absurd (rw (e.0, q) at t)
    go true q (inr e) ih = omega arith
    go false q h ih = ih

pub keep_in : (p : ℕ → Bool) (x : ℕ) (l : List ℕ) → In x (keep p l) → In x l
keep_in p x l h = go (sure (p x))
  where
    go : T (p x) ⊎ T (not (p x)) → In x l
    go (inl t) = omega (arith, keep_yes p x l t)
    go (inr t) = absurd (omega (arith, keep_no p x l t))

module _ {A : Type 0} where
  pub keep_append : (p : A → Bool) (a b : List A) → keep p (a ++ b) ≡ keep p a ++ keep p b
  unfolding keep
  keep_append p [] b = refl
  keep_append p (x ∷ a) b = go (p x) (keep_append p a b)
    where
      go : (t : Bool) → keep p (a ++ b) ≡ keep p a ++ keep p b → put_if t x (keep p (a ++ b)) ≡ put_if t x (keep p a) ++ keep p b
      go true ih = ap (λ (r : List A). x ∷ r) ih
      go false ih = ih

  -- two tests that agree on the members keep the same
  pub keep_same : (p q : A → Bool) (l : List A) → ((x : A) → Memᴰ x l → p x ≡ q x) → keep p l ≡ keep q l
  unfolding keep
  keep_same p q [] h = refl
  keep_same p q (x ∷ l) h = ap₂ (λ (b : Bool) (r : List A). put_if b x r) (h x (Memᴰ.head refl)) (keep_same p q l (λ y m. h y (Memᴰ.tail m)))

pub from-below : (x a n : ℕ) → x < a → count x (from a n) ≡ 0
unfolding from count
from-below x a zero h = refl
from-below x a (suc n) h = omega (arith, hit_other x a (omega arith), from-below x (suc a) n (omega arith))

pub from-above : (x a n : ℕ) → a + n ≤ x → count x (from a n) ≡ 0
unfolding from count
from-above x a zero h = refl
from-above x a (suc n) h = omega (arith, hit_other x a (omega arith), from-above x (suc a) n (omega arith))

pub from_in : (x a n : ℕ) → a ≤ x → x < a + n → count x (from a n) ≡ 1
unfolding from count
from_in x a zero h k = absurd (omega arith)
from_in x a (suc n) h k = go (hit-cases x a) (λ i j. from_in x (suc a) n i j)
  where
    go : ((x ≡ a) × (hit x a ≡ 1)) ⊎ ((x ≢ a) × (hit x a ≡ 0)) → (suc a ≤ x → x < suc a + n → count x (from (suc a) n) ≡ 1)
        → hit x a + count x (from (suc a) n) ≡ 1
    go (inl e) f = omega (arith, from-below x (suc a) n (omega arith))
    go (inr e) f = omega (arith, f (omega arith) (omega arith))

pub rising_yes : (n : ℕ) (p : ℕ → Bool) (x : ℕ) → x < n → T (p x) → count x (rising_where n p) ≡ 1
unfolding rising_where
rising_yes n p x h t = keep_yes p x (from 0 n) t ∙ from_in x 0 n (omega arith) (omega arith)

pub rising_no : (n : ℕ) (p : ℕ → Bool) (x : ℕ) → T (not (p x)) → count x (rising_where n p) ≡ 0
unfolding rising_where
rising_no n p x t = keep_no p x (from 0 n) t

-- what stands in it passes the test, is below n, and stands in it once
pub rising_in : (n : ℕ) (p : ℕ → Bool) (x : ℕ) → In x (rising_where n p) → T (p x) × (x < n) × (count x (rising_where n p) ≡ 1)
unfolding rising_where
rising_in n p x h = go (sure (p x)) (dec_lt x n)
  where
    go : T (p x) ⊎ T (not (p x)) → Dec (x < n) → T (p x) × (x < n) × (count x (rising_where n p) ≡ 1)
    go (inl t) (yes l) = (t, l, rising_yes n p x l t)
    go (inl t) (no l) = absurd (omega (arith, keep_yes p x (from 0 n) t, from-above x 0 n (omega arith)))
    go (inr t) d = absurd (omega (arith, rising_no n p x t))

pub rising_once : (n : ℕ) (p : ℕ → Bool) (x : ℕ) → count x (rising_where n p) ≤ 1
rising_once n p x = go (dec_lt 0 (count x (rising_where n p)))
  where
    go : Dec (0 < count x (rising_where n p)) → count x (rising_where n p) ≤ 1
    go (yes h) = omega (arith, (rising_in n p x (omega arith)).2)
    go (no h) = omega arith

pub rising-same : (n : ℕ) (p q : ℕ → Bool) → ((j : ℕ) → j < n → p j ≡ q j) → rising_where n p ≡ rising_where n q
unfolding rising_where
rising-same n p q h = keep_same p q (from 0 n) (λ j m. below j m (dec_lt j n))
  where
    below : (j : ℕ) → Memᴰ j (from 0 n) → Dec (j < n) → p j ≡ q j
    below j m (yes l) = h j l
    below j m (no l) = absurd (omega (arith, mem_in m, from-above j 0 n (omega arith)))
