-- How the text of a list grows by a member. Assumes nothing.
use Prim.Native.Nat.{ℕ, suc, ◌+◌, ◌-◌, ◌≤◌, ◌<◌}
use mathlib.Core.Path.{◌≡◌, refl, sym, ap, ◌∙◌}
use mathlib.Core.Bool.{Bool}
use mathlib.Core.List.{List, [], ◌∷◌, ◌++◌, map, append-nil, append_assoc}
use native.Mathlib.Omega.{arith}
use native.Mathlib.Nat.{zero-add}
use native.Mathlib.Numerals.{add-one}
use lib.ListN.{length, get_or, take, drop, length-map}
use lib.Seq.{take-suc, length-take-le}
use Rattle.std.proofs.lemmas.List.{take_more, drop-take}
use Rattle.schedule.specs.Count.{joined, put_if, from, rising_where}
use Rattle.schedule.proofs.Sums.{joined-append, length_from, from_snoc}
use Rattle.plan.proofs.Prefixes.{part_snoc, drop-none, map-append}
use Rattle.plan.proofs.Unions.{rising-more}
use Rattle.plan_text.specs.Text.{numbered}

-- ---- lists in a line

pub joined-nil : {A : Type 0} (f : A → List ℕ) → joined f [] ≡ []
unfolding joined
joined-nil f = refl

pub joined-one : {A : Type 0} (f : A → List ℕ) (x : A) → joined f (x ∷ []) ≡ f x
unfolding joined
joined-one f x = append-nil (f x)

pub joined-map : {A : Type 0} (f : A → List ℕ) (g : ℕ → A) (l : List ℕ) → joined (λ x. f (g x)) l ≡ joined f (map g l)
unfolding joined
joined-map f g [] = refl
joined-map f g (x ∷ l) = ap (λ (t : List ℕ). f (g x) ++ t) (joined-map f g l)

-- the first members of a list
pub joined-more : (f : ℕ → List ℕ) (l : List ℕ) (i x : ℕ) → i < length l → x ≡ get_or l i 0 → joined f (take i l) ++ f x ≡ joined f (take (i + 1) l)
joined-more f l i x h e =
    sym (ap (joined f) (take_more l i 0 h)
    ∙ joined-append f (take i l) (get_or l i 0 ∷ [])
    ∙ ap (λ (t : List ℕ). joined f (take i l) ++ t) (joined-one f (get_or l i 0) ∙ ap f (sym e)))

-- the members of a set below k, and k if it is one
pub member-more : (f : ℕ → List ℕ) (p : ℕ → Bool) (k : ℕ) → joined f (rising_where k p) ++ joined f (put_if (p k) k []) ≡ joined f (rising_where (k + 1) p)
member-more f p k = sym (ap (joined f) (rising-more p k) ∙ joined-append f (rising_where k p) (put_if (p k) k []))

-- the entries of an array from a place on, and the one at i
module _ (f : ℕ → List ℕ) (l : List ℕ) where
  pub part_none : (a : ℕ) → [] ≡ joined f (drop a (take a l))
  part_none a = sym (ap (joined f) (drop-none a a l (omega arith)) ∙ joined-nil f)

  pub part-more : (a i : ℕ) → a ≤ i → i < length l → joined f (drop a (take i l)) ++ f (get_or l i 0) ≡ joined f (drop a (take (i + 1) l))
  part-more a i h k =
      sym (ap (λ (n : ℕ). joined f (drop a (take n l))) (add-one i)
      ∙ ap (joined f) (part_snoc l a i 0 h k)
      ∙ joined-append f (drop a (take i l)) (get_or l i 0 ∷ [])
      ∙ ap (λ (t : List ℕ). joined f (drop a (take i l)) ++ t) (joined-one f (get_or l i 0)))

-- a part of an array, as a slice has it
pub slice_part : (a b : ℕ) (l : List ℕ) → a ≤ b → take (b - a) (drop a l) ≡ drop a (take b l)
slice_part a b l h = let e : b ≡ a + (b - a) = omega arith in sym (ap (λ (n : ℕ). drop a (take n l)) e ∙ drop-take a (b - a) l)

-- ---- numbered lines

numbered_more : {A : Type 0} (line : ℕ → A → List ℕ) (j : ℕ) (l : List A) (x : A) → numbered line j (l ++ (x ∷ [])) ≡ numbered line j l ++ line (j + length l) x
unfolding numbered
numbered_more line j [] x = append-nil (line j x) ∙ ap (λ (k : ℕ). line k x) (omega arith)
numbered_more line j (y ∷ l) x =
    ap (λ (t : List ℕ). line j y ++ t) (numbered_more line (suc j) l x ∙ ap (λ (k : ℕ). numbered line (suc j) l ++ line k x) (omega arith))
    ∙ sym (append_assoc (line j y) (numbered line (suc j) l) (line (j + suc (length l)) x))

module _ {A : Type 0} (line : ℕ → A → List ℕ) where
  -- of the first members that a function gives
  pub given-none : (g : ℕ → A) → [] ≡ numbered line 0 (map g (from 0 0))
  unfolding numbered from
  given-none g = refl

  pub given-more : (g : ℕ → A) (j : ℕ) → numbered line 0 (map g (from 0 j)) ++ line j (g j) ≡ numbered line 0 (map g (from 0 (j + 1)))
  given-more g j =
      let n : 0 + length (map g (from 0 j)) ≡ j = omega (arith, length-map (from 0 j) g, length_from 0 j) in
      sym (ap (λ (k : ℕ). numbered line 0 (map g (from 0 k))) (add-one j)
      ∙ ap (λ (t : List ℕ). numbered line 0 (map g t)) (from_snoc 0 j)
      ∙ ap (numbered line 0) (map-append g (from 0 j) ((0 + j) ∷ []))
      ∙ numbered_more line 0 (map g (from 0 j)) (g (0 + j))
      ∙ ap (λ (k : ℕ). numbered line 0 (map g (from 0 j)) ++ line k (g (0 + j))) n
      ∙ ap (λ (k : ℕ). numbered line 0 (map g (from 0 j)) ++ line j (g k)) (zero-add j))

  -- of the first entries of an array
  pub taken_none : {B : Type 0} (g : B → A) (l : List B) → [] ≡ numbered line 0 (map g (take 0 l))
  unfolding numbered
  taken_none g l = refl

  pub taken_more : {B : Type 0} (g : B → A) (l : List B) (k : ℕ) (d : B) → k < length l
      → numbered line 0 (map g (take k l)) ++ line k (g (get_or l k d)) ≡ numbered line 0 (map g (take (k + 1) l))
  taken_more g l k d h =
      let n : 0 + length (map g (take k l)) ≡ k = omega (arith, length-map (take k l) g, length-take-le k l (omega arith)) in
      sym (ap (λ (i : ℕ). numbered line 0 (map g (take i l))) (add-one k)
      ∙ ap (λ t. numbered line 0 (map g t)) (take-suc l k d h)
      ∙ ap (numbered line 0) (map-append g (take k l) (get_or l k d ∷ []))
      ∙ numbered_more line 0 (map g (take k l)) (g (get_or l k d))
      ∙ ap (λ (i : ℕ). numbered line 0 (map g (take k l)) ++ line i (g (get_or l k d))) n)
