-- A list given by its entries, and a loop that fills the front of a slice with it. Assumes nothing.
use Prim.Native.Nat.{ℕ, zero, suc, ◌+◌, ◌<◌}
use mathlib.Core.Path.{◌≡◌, refl, sym, ap, ◌∙◌}
use mathlib.Core.List.{List, [], ◌∷◌, ◌++◌}
use native.Mathlib.Omega.{arith}
use native.Mathlib.Numerals.{add-one}
use lib.ListN.{length, set, drop, length-append}
use lib.Seq.{drop-cons, set_at, append_snoc}
use Rattle.records.specs.Bytes.{listed}

module _ {A : Type 0} (f : ℕ → A) where
  pub listed-length : (n : ℕ) → length (listed f n) ≡ n
  unfolding listed
  listed-length zero = refl
  listed-length (suc n) = length-append (listed f n) (f n ∷ []) ∙ omega (arith, listed-length n)

  listed_more : (n : ℕ) → listed f (n + 1) ≡ listed f n ++ (f n ∷ [])
  unfolding listed
  listed_more n = rw add-one

  -- one entry more
  pub fill_more : (out₀ out : List A) (i : ℕ) (x : A) → i < length out₀ → out ≡ listed f i ++ drop i out₀ → x ≡ f i → set out i x
      ≡ listed f (i + 1) ++ drop (i + 1) out₀
  fill_more out₀ out i x l e v =
      ap (λ (s : List A). set s i x) (e ∙ ap (λ (s : List A). listed f i ++ s) (drop-cons out₀ i x l))
      ∙ set_at (listed f i) _ (drop (suc i) out₀) x i (listed-length i)
      ∙ sym (append_snoc (listed f i) x (drop (suc i) out₀))
      ∙ rw (v, listed_more, add-one)
