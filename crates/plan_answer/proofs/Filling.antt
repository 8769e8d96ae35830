-- Arrays filled from the first place on: after i turns the first i places hold a list, the others what they held before. Assumes nothing.
use mathlib.Core.Path.{◌≡◌, refl, sym, ◌∙◌}
use mathlib.Core.List.{List, [], ◌∷◌, ◌++◌, map}
use Prim.Native.Nat.{ℕ, zero, suc, ◌+◌, ◌-◌, ◌<◌}
use native.Mathlib.Numerals.{add-one}
use native.Mathlib.Omega.{arith}
use lib.ListN.{length, get_or, take, drop, set, replicate, length-map}
use lib.Seq.{take-suc, take_all, drop-cons, set_at, append_snoc, length-take-le}
use Rattle.plan.proofs.Prefixes.{map-append}
use Rattle.plan_answer.specs.Answer.{padded}

module _ {A : Type 0} where
  -- one place more
  grown : (done before : List A) (i : ℕ) (x : A) → length done ≡ i → i < length before → set (done ++ drop i before) i x
      ≡ done ++ (x ∷ []) ++ drop (i + 1) before
  grown done before i x e h = rw (add-one i, drop-cons before i x h)
      (set_at done (get_or before i x) (drop (suc i) before) x i e ∙ sym (append_snoc done x (drop (suc i) before)))

  drop-replicate : (i n : ℕ) (blank : A) → drop i (replicate n blank) ≡ replicate (n - i) blank
  drop-replicate zero n blank = let e : n - 0 ≡ n = omega arith in rw e refl
  drop-replicate (suc i) zero blank = let e : 0 - suc i ≡ 0 = omega arith in rw e refl
  drop-replicate (suc i) (suc n) blank = let e : suc n - suc i ≡ n - i = omega arith in rw e (drop-replicate i n blank)

  -- the array was blank before
  pub padded-is : (blank : A) (n i : ℕ) (l : List A) → length l ≡ i → l ++ drop i (replicate n blank) ≡ padded blank n l
  unfolding padded
  padded-is blank n i l e = rw (e, drop-replicate i n blank) refl

module _ {A B : Type 0} (f : B → A) where
  -- one turn more, each place by a function of the source's
  pub map_more : (source : List B) (before array : List A) (i : ℕ) (d : B) (x : A) → i < length source → i < length before
      → array ≡ map f (take i source) ++ drop i before → x ≡ f (get_or source i d) → set array i x ≡ map f (take (i + 1) source) ++ drop (i + 1) before
  map_more source before array i d x l h e ex =
      rw (e, ex, add-one i, take-suc source i d l, map-append f (take i source) (get_or source i d ∷ []))
      (rw (add-one i) at (grown (map f (take i source)) before i (f (get_or source i d))
      (length-map (take i source) f ∙ length-take-le i source (omega arith)) h))

  pub map-done : (source : List B) (blank : A) (n i : ℕ) → i ≡ length source → map f (take i source) ++ drop i (replicate n blank)
      ≡ padded blank n (map f source)
  map-done source blank n i e = rw (take_all i source (omega arith)) (padded-is blank n i (map f source) (length-map source f ∙ sym e))
