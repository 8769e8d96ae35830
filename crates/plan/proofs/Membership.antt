-- Membership as a test, under the functions on lists.
-- Assumes nothing.
use mathlib.Core.Path.{◌≡◌, refl, sym, ap, ap₂, ◌∙◌}
use mathlib.Core.Bool.{Bool, true, false, not, ◌&&◌, ◌||◌}
use mathlib.Core.Logic.{◌⊎◌, inl, inr}
use mathlib.Core.List.{List, [], ◌∷◌, ◌++◌, map, append-nil}
use Prim.Native.Nat.{ℕ, zero, suc, ◌+◌, ◌-◌, ◌≤◌, ◌<◌}
use native.Mathlib.Nat.{zero-add}
use native.Mathlib.Omega.{arith}
use borrow.Author.Tests.{lt-ltb}
use lib.Dec.{T, eqb, ltb}
use Rattle.schedule.specs.Count.{bit, hit, count, mem, put_if, keep, any, joined, from, rising_where}
use Rattle.schedule.specs.Pass.{keys_if}
use Rattle.schedule.proofs.Counts.{sure, keep_yes, keep_no, keep_append, rising_yes, rising_no}
use Rattle.schedule.proofs.Sums.{from-append}
use Rattle.plan.proofs.Prefixes.{or_assoc}

pub sure_true : (b : Bool) → T b → b ≡ true
sure_true true t = refl
sure_true false t = absurd t

pub sure_false : (b : Bool) → T (not b) → b ≡ false
sure_false true t = absurd t
sure_false false t = refl

pub mem-nil : (j : ℕ) → mem j [] ≡ false
unfolding count
mem-nil j = refl

pub mem-cons : (j k : ℕ) (l : List ℕ) → mem j (k ∷ l) ≡ eqb j k || mem j l
unfolding count hit
mem-cons j k l = go (eqb j k)
  where
    go : (b : Bool) → ltb 0 (bit b + count j l) ≡ b || mem j l
    go true = lt-ltb 0 (1 + count j l) (omega arith)
    go false = ap (ltb 0) (zero-add (count j l))

pub mem-append : (j : ℕ) (a b : List ℕ) → mem j (a ++ b) ≡ mem j a || mem j b
mem-append j [] b = ap (λ (t : Bool). t || mem j b) (sym (mem-nil j))
mem-append j (x ∷ a) b =
    mem-cons j x (a ++ b) ∙ ap (λ (t : Bool). eqb j x || t) (mem-append j a b) ∙ sym (or_assoc (eqb j x) (mem j a) (mem j b))
    ∙ ap (λ (t : Bool). t || mem j b) (sym (mem-cons j x a))

module _ {A : Type 0} where
  pub mem-joined : (j : ℕ) (g : A → List ℕ) (l : List A) → mem j (joined g l) ≡ any (λ s. mem j (g s)) l
  unfolding joined any
  mem-joined j g [] = mem-nil j
  mem-joined j g (s ∷ l) = mem-append j (g s) (joined g l) ∙ ap (λ (t : Bool). mem j (g s) || t) (mem-joined j g l)

  pub any_same : (p q : A → Bool) (l : List A) → ((x : A) → p x ≡ q x) → any p l ≡ any q l
  unfolding any
  any_same p q [] h = refl
  any_same p q (x ∷ l) h = ap₂ (λ (s t : Bool). s || t) (h x) (any_same p q l h)

pub any-map : {A B : Type 0} (p : B → Bool) (f : A → B) (l : List A) → any p (map f l) ≡ any (λ x. p (f x)) l
unfolding any
any-map p f [] = refl
any-map p f (x ∷ l) = ap (λ (t : Bool). p (f x) || t) (any-map p f l)

pub mem-keep : (j : ℕ) (p : ℕ → Bool) (l : List ℕ) → mem j (keep p l) ≡ p j && mem j l
mem-keep j p l = go (sure (p j))
  where
    go : T (p j) ⊎ T (not (p j)) → mem j (keep p l) ≡ p j && mem j l
    go (inl t) = ap (ltb 0) (keep_yes p j l t) ∙ ap (λ (b : Bool). b && mem j l) (sym (sure_true (p j) t))
    go (inr t) = ap (ltb 0) (keep_no p j l t) ∙ ap (λ (b : Bool). b && mem j l) (sym (sure_false (p j) t))

pub mem-rising : (n : ℕ) (p : ℕ → Bool) (j : ℕ) → (T (p j) → j < n) → mem j (rising_where n p) ≡ p j
mem-rising n p j h = go (sure (p j))
  where
    go : T (p j) ⊎ T (not (p j)) → mem j (rising_where n p) ≡ p j
    go (inl t) = ap (ltb 0) (rising_yes n p j (h t) t) ∙ sym (sure_true (p j) t)
    go (inr t) = ap (ltb 0) (rising_no n p j t) ∙ sym (sure_false (p j) t)

pub mem-if : (j : ℕ) (b : Bool) (ks : List ℕ) → mem j (keys_if b ks) ≡ b && mem j ks
mem-if j true ks = refl
mem-if j false ks = mem-nil j

-- ---- the numbers from a on
module _ {A : Type 0} where
  pub keep-cons : (p : A → Bool) (x : A) (l : List A) → keep p (x ∷ l) ≡ put_if (p x) x (keep p l)
  unfolding keep
  keep-cons p x l = refl

  pub keep-nil : (p : A → Bool) → keep p [] ≡ []
  unfolding keep
  keep-nil p = refl

keep-none : (p : ℕ → Bool) (a n : ℕ) → ((x : ℕ) → a ≤ x → p x ≡ false) → keep p (from a n) ≡ []
unfolding keep from
keep-none p a zero h = refl
keep-none p a (suc n) h = rw (h a (omega arith)) (keep-none p (suc a) n (λ x l. h x (omega arith)))

-- no number from n on passes the test
pub rising_on : (n m : ℕ) (p : ℕ → Bool) → n ≤ m → ((x : ℕ) → n ≤ x → p x ≡ false) → rising_where m p ≡ rising_where n p
unfolding rising_where
rising_on n m p h f =
    let e : m ≡ n + (m - n) = omega arith in
    ap (λ (k : ℕ). keep p (from 0 k)) e ∙ ap (keep p) (from-append 0 n (m - n)) ∙ keep_append p (from 0 n) (from (0 + n) (m - n))
    ∙ ap (λ (l : List ℕ). keep p (from 0 n) ++ l) (keep-none p (0 + n) (m - n) (λ x l. f x (omega arith))) ∙ append-nil (keep p (from 0 n))

pub map-from : {A : Type 0} (f g : ℕ → A) (a n : ℕ) → ((j : ℕ) → a ≤ j → j < a + n → f j ≡ g j) → map f (from a n) ≡ map g (from a n)
unfolding from
map-from f g a zero h = refl
map-from {A} f g a (suc n) h = ap₂ (λ (x : A) (l : List A). x ∷ l) (h a (omega arith) (omega arith))
    (map-from f g (suc a) n (λ j k l. h j (omega arith) (omega arith)))

-- the numbers below j come first
pub rising-split : (j n : ℕ) (p : ℕ → Bool) → j ≤ n → rising_where n p ≡ rising_where j p ++ keep p (from j (n - j))
unfolding rising_where
rising-split j n p h =
    let e : n ≡ j + (n - j) = omega arith in
    ap (λ (k : ℕ). keep p (from 0 k)) e ∙ ap (keep p) (from-append 0 j (n - j)) ∙ keep_append p (from 0 j) (from (0 + j) (n - j))
    ∙ ap (λ (k : ℕ). keep p (from 0 j) ++ keep p (from k (n - j))) (zero-add j)
