-- Lists by their first elements; any, map and set.
-- Assumes nothing.
use mathlib.Core.Path.{◌≡◌, refl, sym, ap, ◌∙◌}
use mathlib.Core.Bool.{Bool, true, false, ◌||◌}
use mathlib.Core.List.{List, [], ◌∷◌, ◌++◌, map}
use Prim.Native.Nat.{ℕ, zero, suc, ◌+◌, ◌-◌, ◌≤◌, ◌<◌}
use native.Mathlib.Numerals.{add-one}
use native.Mathlib.Omega.{arith}
use lib.ListN.{length, get_or, take, drop, set}
use lib.Seq.{take-suc, take_all, length-take-le, drop-append-le}
use Rattle.std.proofs.lemmas.List.{drop-take}
use Rattle.schedule.specs.Count.{any}

pub or_assoc : (a b c : Bool) → (a || b) || c ≡ a || (b || c)
or_assoc true b c = refl
or_assoc false b c = refl

pub or-false : (a : Bool) → a || false ≡ a
or-false true = refl
or-false false = refl

module _ {A : Type 0} where
  pub any_append : (p : A → Bool) (a b : List A) → any p (a ++ b) ≡ any p a || any p b
  unfolding any
  any_append p [] b = refl
  any_append p (x ∷ a) b = ap (λ (t : Bool). p x || t) (any_append p a b) ∙ sym (or_assoc (p x) (any p a) (any p b))

  pub any_snoc : (p : A → Bool) (l : List A) (x : A) → any p (l ++ (x ∷ [])) ≡ any p l || p x
  unfolding any
  any_snoc p l x = any_append p l (x ∷ []) ∙ ap (λ (t : Bool). any p l || t) (or-false (p x))

  pub any-take : (p : A → Bool) (l : List A) (i : ℕ) (d : A) → i < length l → any p (take (i + 1) l) ≡ any p (take i l) || p (get_or l i d)
  any-take p l i d h = ap (λ (n : ℕ). any p (take n l)) (add-one i) ∙ ap (any p) (take-suc l i d h) ∙ any_snoc p (take i l) (get_or l i d)

  pub part_snoc : (l : List A) (a i : ℕ) (d : A) → a ≤ i → i < length l → drop a (take (suc i) l) ≡ drop a (take i l) ++ (get_or l i d ∷ [])
  part_snoc l a i d h k =
      ap (drop a) (take-suc l i d k) ∙ drop-append-le a (take i l) (get_or l i d ∷ []) (omega (arith, length-take-le i l (omega arith)))

  -- a slice from a to b, and its first places
  pub part-is : (a b : ℕ) (l : List A) → a ≤ b → take (b - a) (drop a l) ≡ drop a (take b l)
  part-is a b l h = let e : a + (b - a) ≡ b = omega arith in sym (drop-take a (b - a) l) ∙ ap (λ (n : ℕ). drop a (take n l)) e

  pub part_whole : (a b i : ℕ) (l : List A) → a ≤ b → length (take (b - a) (drop a l)) ≤ i → take i (take (b - a) (drop a l)) ≡ drop a (take b l)
  part_whole a b i l h k = take_all i (take (b - a) (drop a l)) k ∙ part-is a b l h

  pub drop-none : (a i : ℕ) (l : List A) → i ≤ a → drop a (take i l) ≡ []
  drop-none zero zero l h = refl
  drop-none zero (suc i) l h = absurd (omega arith)
  drop-none (suc a) zero l h = refl
  drop-none (suc a) (suc i) [] h = refl
  drop-none (suc a) (suc i) (x ∷ l) h = drop-none a i l (omega arith)

module _ {A B : Type 0} (f : A → B) where
  pub map-set : (l : List A) (i : ℕ) (x : A) → map f (set l i x) ≡ set (map f l) i (f x)
  map-set [] i x = refl
  map-set (y ∷ l) zero x = refl
  map-set (y ∷ l) (suc i) x = ap (λ (t : List B). f y ∷ t) (map-set l i x)

  pub map-take : (n : ℕ) (l : List A) → map f (take n l) ≡ take n (map f l)
  map-take zero l = refl
  map-take (suc n) [] = refl
  map-take (suc n) (y ∷ l) = ap (λ (t : List B). f y ∷ t) (map-take n l)

  pub map-drop : (n : ℕ) (l : List A) → map f (drop n l) ≡ drop n (map f l)
  map-drop zero l = refl
  map-drop (suc n) [] = refl
  map-drop (suc n) (y ∷ l) = map-drop n l

  pub map-append : (a b : List A) → map f (a ++ b) ≡ map f a ++ map f b
  map-append [] b = refl
  map-append (x ∷ a) b = ap (λ (t : List B). f x ∷ t) (map-append a b)
