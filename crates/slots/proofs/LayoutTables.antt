-- Walks over a list of keys, and the tables of a layout entry by entry. Assumes nothing.
use Prim.Native.Nat.{ℕ, zero, suc, ◌+◌, ◌≤◌, ◌<◌}
use mathlib.Core.Path.{◌≡◌, refl, ap, ◌∙◌, sym, subst}
use mathlib.Core.Bool.{Bool, true, false, cond, ◌||◌}
use mathlib.Core.List.{List, [], ◌∷◌, ◌++◌}
use native.Mathlib.Omega.{arith}
use native.Mathlib.Numerals.{add-one}
use native.Mathlib.Nat.{add-zero}
use borrow.Author.Count.{below_more}
use borrow.Author.Tests.{eq-eqb, ne_eqb, eqb-true, eqb-false}
use lib.Dec.{eqb}
use lib.ListN.{length, get_or, set, drop}
use lib.Seq.{drop-cons, drop-length, ext_get_or, get_or-set_same, get_or-set_other}
use Rattle.std.proofs.Math.Bool.{or-false, or-true}
use Rattle.std.proofs.lemmas.Grind.{common_steps}
use Rattle.std.proofs.lemmas.List.Recursion.{or_push}
use Rattle.factor.specs.Limits.{max_variables}
use Rattle.slots.specs.Layouts.{member, column_in, dim_of, table, layout_of}

-- ---- one key of a list

module _ (l : List ℕ) (i : ℕ) (h : i < length l) where
  step : drop i l ≡ get_or l i 0 ∷ drop (i + 1) l
  step = rw add-one (drop-cons l i 0 h)

  pub member-here : (key : ℕ) → get_or l i 0 ≡ key → member key (drop i l) ≡ true
  member-here key e = rw (step, eq-eqb (get_or l i 0) key e)

  pub member-next : (key : ℕ) → (get_or l i 0 ≡ key → ⊥) → member key (drop i l) ≡ member key (drop (i + 1) l)
  member-next key e = rw (step, ne_eqb (get_or l i 0) key e)

  pub first-here : (sizes : List ℕ) (key : ℕ) → get_or l i 0 ≡ key → column_in sizes (drop i l) key ≡ 0
  first-here sizes key e = rw (step, eq-eqb (get_or l i 0) key e)

  pub first_next : (sizes : List ℕ) (key : ℕ) → (get_or l i 0 ≡ key → ⊥) → column_in sizes (drop i l) key
      ≡ get_or sizes (get_or l i 0) 0 + column_in sizes (drop (i + 1) l) key
  first_next sizes key e = rw (step, ne_eqb (get_or l i 0) key e)

  pub dim_next : (sizes : List ℕ) → dim_of sizes (drop i l) ≡ get_or sizes (get_or l i 0) 0 + dim_of sizes (drop (i + 1) l)
  dim_next sizes = rw step

-- at the end nothing is left
pub at-end : (l : List ℕ) (i : ℕ) → i ≡ length l → drop i l ≡ []
at-end l i e = rw e (drop-length l)

-- the columns of a key that a list has are within the list's dimension
pub first_fits : (sizes l : List ℕ) (key : ℕ) → member key l ≡ true → column_in sizes l key + get_or sizes key 0 ≤ dim_of sizes l
first_fits sizes [] key h = let z : ◌≡◌ {A = ℕ} 0 1 = cc in omega arith
first_fits sizes (j ∷ l) key h = go (eqb j key) refl h (first_fits sizes l key)
  where
    go : (b : Bool) → eqb j key ≡ b → (b || member key l) ≡ true → (member key l ≡ true → column_in sizes l key + get_or sizes key 0 ≤ dim_of sizes l)
        → cond b 0 (get_or sizes j 0 + column_in sizes l key) + get_or sizes key 0 ≤ get_or sizes j 0 + dim_of sizes l
    go true e m ih = let s : j ≡ key = eqb-true j key e in rw s (omega arith)
    go false e m ih = omega (arith, ih m)

-- ---- tables

length-table : {A : Type 0} (f : ℕ → A) (a n : ℕ) → length (table f a n) ≡ n
length-table f a zero = refl
length-table f a (suc n) = ap suc (length-table f (a + 1) n)

pub get_d_table : {A : Type 0} (f : ℕ → A) (a n i : ℕ) (d : A) → i < n → get_or (table f a n) i d ≡ f (a + i)
get_d_table f a (suc n) zero d h = ap f (sym (add-zero a))
get_d_table f a (suc n) (suc i) d h = get_d_table f (a + 1) n i d (omega arith) ∙ ap f (omega arith)
get_d_table f a zero i d h = absurd (omega arith)

-- a table that is written entry by entry
pub table_more : {A : Type 0} (f : ℕ → A) (d : A) (t : List A) (i : ℕ) (x : A) → i < length t → x ≡ f i → ((k : ℕ) → k < i → get_or t k d ≡ f k)
    → (k : ℕ) → k < i + 1 → get_or (set t i x) k d ≡ f k
table_more f d t i x l e h =
    below_more (λ k. get_or (set t i x) k d ≡ f k) i (λ k p. get_or-set_other t i k x d (omega arith) ∙ h k p) (get_or-set_same t i x d l ∙ e)

table_is : {A : Type 0} (f : ℕ → A) (d : A) (t : List A) (n : ℕ) → length t ≡ n → ((k : ℕ) → k < n → get_or t k d ≡ f k) → t ≡ table f 0 n
table_is f d t n e h =
    ext_get_or d t (table f 0 n) (e ∙ sym (length-table f 0 n)) (λ i l. h i (omega arith) ∙ sym (get_d_table f 0 n i d (omega arith) ∙ ap f (omega arith)))

pub layout_is : (gone : List Bool) (first kept cleared sizes : List ℕ) → length gone ≡ length sizes → length first ≡ length sizes
    → ((k : ℕ) → k < length sizes → get_or gone k false ≡ member k cleared)
    → ((k : ℕ) → k < length sizes → get_or first k 0 ≡ cond (member k cleared) (column_in sizes cleared k) (column_in sizes kept k))
    → record { cleared = gone; first = first; size = sizes } ≡ layout_of kept cleared sizes
unfolding layout_of
layout_is gone first kept cleared sizes eg ef hg hf =
    rw (
      table_is (λ k. member k cleared) false gone (length sizes) eg hg,
      table_is (λ k. cond (member k cleared) (column_in sizes cleared k) (column_in sizes kept k)) 0 first (length sizes) ef hf,
    )

-- ---- a list walked key by key

-- what stands in a table once the key x is written
module _ {A : Type 0} (r : List A) (x : ℕ) (y d : A) (f g : ℕ → A) (m : length r ≡ max_variables) (low : x < max_variables)
    (here : (key : ℕ) → x ≡ key → y ≡ f key) (other : (key : ℕ) → (x ≡ key → ⊥) → g key ≡ f key) where
  one_written : ((key : ℕ) → key < max_variables → get_or r key d ≡ g key) → (key : ℕ) → key < max_variables → get_or (set r x y) key d ≡ f key
  one_written h key b = go (eqb x key) refl
    where
      go : (t : Bool) → eqb x key ≡ t → get_or (set r x y) key d ≡ f key
      go true e =
          let k : x ≡ key = eqb-true x key e in
          subst (λ (n : ℕ). get_or (set r x y) n d ≡ f key) k (get_or-set_same r x y d (omega arith) ∙ here key k)
      go false e = get_or-set_other r x key y d (λ s. eqb-false x key e (sym s)) ∙ h key b ∙ other key (λ s. eqb-false x key e s)

pub member-push : (l : List ℕ) (x key : ℕ) → member key (l ++ (x ∷ [])) ≡ (member key l || eqb x key)
member-push l x key = or_push (member key) (λ j. eqb j key) refl (λ _ _. refl) l x

pub dim_of-push : (sizes l : List ℕ) (x : ℕ) → dim_of sizes (l ++ (x ∷ [])) ≡ dim_of sizes l + get_or sizes x 0
dim_of-push sizes [] x = omega arith
dim_of-push sizes (j ∷ l) x = omega (arith, dim_of-push sizes l x)

-- a key where a list of known keys is cut
pub key-known : (rest passed l : List ℕ) (x : ℕ) → rest ++ (x ∷ passed) ≡ l → ((i : ℕ) → i < length l → get_or l i 0 < max_variables) → x < max_variables
key-known rest passed l x e h = grind (arith, common_steps, e, h (length rest))

-- a key more is marked
pub marks-more : (r : List Bool) (l : List ℕ) (x : ℕ) → length r ≡ max_variables → x < max_variables
    → ((key : ℕ) → key < max_variables → get_or r key false ≡ member key l)
    → (key : ℕ) → key < max_variables → get_or (set r x true) key false ≡ member key (l ++ (x ∷ []))
marks-more r l x m low =
    one_written r x true false (λ key. member key (l ++ (x ∷ []))) (λ key. member key l) m low
    (λ key e. rw (member-push l x key, eq-eqb x key e) (sym (or-true (member key l))))
    (λ key e. rw (member-push l x key, ne_eqb x key e) (sym (or-false (member key l))))

-- a key more stands in front of those that were passed
pub firsts-more : (sizes r passed : List ℕ) (x column next : ℕ) → length r ≡ max_variables → x < max_variables → next ≡ column + get_or sizes x 0
    → ((key : ℕ) → key < max_variables → get_or r key 0 ≡ next + column_in sizes passed key)
    → (key : ℕ) → key < max_variables → get_or (set r x column) key 0 ≡ column + column_in sizes (x ∷ passed) key
firsts-more sizes r passed x column next m low en =
    one_written r x column 0 (λ key. column + column_in sizes (x ∷ passed) key) (λ key. next + column_in sizes passed key) m low
    (λ key e. rw (eq-eqb x key e) (omega arith)) (λ key e. rw (ne_eqb x key e) (omega arith))

-- ---- one table laid over another

pub cond_same : {b b' : Bool} {x x' y y' : ℕ} → b ≡ b' → x ≡ x' → y ≡ y' → cond b x y ≡ cond b' x' y'
cond_same eb ex ey = rw (eb, ex, ey)

-- the entries below i are chosen, those from i on are still as they were
pub record Chosen (gone : List Bool) (among before first : List ℕ) (i : ℕ) : Type 0 where
  pub below : (k : ℕ) → k < i → get_or first k 0 ≡ cond (get_or gone k false) (get_or among k 0) (get_or before k 0)
  pub above : (k : ℕ) → i ≤ k → get_or first k 0 ≡ get_or before k 0

pub chosen-then : {gone : List Bool} {among before first : List ℕ} {i : ℕ} → Chosen gone among before first i → i < length first → get_or gone i false ≡ true
    → Chosen gone among before (set first i (get_or among i 0)) (i + 1)
chosen-then {gone} {among} {before} {first} {i} c l e =
    record {
      below = table_more (λ k. cond (get_or gone k false) (get_or among k 0) (get_or before k 0)) 0 first i (get_or among i 0) l (rw e refl) c.below;
      above = λ k h. get_or-set_other first i k (get_or among i 0) 0 (omega arith) ∙ c.above k (omega arith);
    }

pub chosen-else : {gone : List Bool} {among before first : List ℕ} {i : ℕ} → Chosen gone among before first i → get_or gone i false ≡ false
    → Chosen gone among before first (i + 1)
chosen-else {gone} {among} {before} {first} {i} c e =
    record {
      below = below_more (λ k. get_or first k 0 ≡ cond (get_or gone k false) (get_or among k 0) (get_or before k 0)) i c.below (rw e (c.above i (omega arith)));
      above = λ k h. c.above k (omega arith);
    }
