-- A mask that stands for a list of keys: the tests on masks are the tests on lists.
-- Assumes nothing.
use mathlib.Core.Path.{◌≡◌, refl, sym, ap, subst, ◌∙◌}
use mathlib.Core.Logic.{◌⊎◌, inl, inr}
use mathlib.Core.Bool.{Bool, true, false, not, ◌&&◌}
use mathlib.Core.List.{List, Memᴰ}
use Prim.Native.Nat.{ℕ}
use lib.Bits.{bit_and}
use lib.Dec.{T, eqb, eqb→eq, eqb_refl, ltb→lt, lt→ltb, T_not, not_T}
use Rattle.schedule.specs.Count.{count, mem, any}
use Rattle.schedule.specs.Pass.{outside, touches}
use Rattle.schedule.proofs.Counts.{sure, and_l, and_r, and_i, any_some, any_of, in_mem, mem_in}
use Rattle.plan.specs.Mask.{has, strays, meets}
use Rattle.plan.proofs.Digits.{has-and, has-zero, some-has, has_ext}

pub same_test : (a b : Bool) → (T a → T b) → (T b → T a) → a ≡ b
same_test true true f g = refl
same_test true false f g = absurd (f tt)
same_test false true f g = absurd (g tt)
same_test false false f g = refl

-- the mask m stands for the keys ks
abbrev pub Stands : ℕ → List ℕ → Type 0
Stands m ks = (j : ℕ) → has j m ≡ mem j ks

module _ (m a : ℕ) (ks ak : List ℕ) (hm : Stands m ks) (ha : Stands a ak) where
  to_mem : (j : ℕ) → T (has j m) → Memᴰ j ks
  to_mem j t = in_mem ks (ltb→lt 0 (count j ks) (subst T (hm j) t))

  of_mem : (j : ℕ) → Memᴰ j ks → T (has j m)
  of_mem j t = subst T (sym (hm j)) (lt→ltb 0 (count j ks) (mem_in t))

  pub meets-touches : meets a m ≡ touches ak ks
  unfolding touches
  meets-touches = same_test (meets a m) (touches ak ks) there back
    where
      found : (j : ℕ) × T (has j (bit_and m a)) → T (any (λ j. mem j ak) ks)
      found (j, t) =
          let b = subst T (has-and j m a) t in
          any_of (λ j. mem j ak) (to_mem j (and_l (has j m) (has j a) b)) (subst T (ha j) (and_r (has j m) (has j a) b))

      there : T (meets a m) → T (any (λ j. mem j ak) ks)
      there t = found (some-has (bit_and m a) (λ e. T_not (eqb (bit_and m a) 0) t (subst (λ (z : ℕ). T (eqb z 0)) (sym e) tt)))

      hit : (e : ℕ) × Memᴰ e ks × T (mem e ak) → bit_and m a ≡ 0 → ⊥
      hit (e, i, t) z = subst T (ap (has e) z ∙ has-zero e) (subst T (sym (has-and e m a)) (and_i (has e m) (has e a) (of_mem e i) (subst T (sym (ha e)) t)))

      back : T (any (λ j. mem j ak) ks) → T (meets a m)
      back t = not_T (eqb (bit_and m a) 0) (λ e. hit (any_some (λ j. mem j ak) ks t) (eqb→eq (bit_and m a) 0 e))

  pub strays-outside : strays a m ≡ outside ak ks
  unfolding outside
  strays-outside = same_test (strays a m) (outside ak ks) there back
    where
      none : T (not (any (λ j. not (mem j ak)) ks)) → (j : ℕ) → T (has j m) → T (has j a)
      none t j h = go (sure (has j a))
        where
          go : T (has j a) ⊎ T (not (has j a)) → T (has j a)
          go (inl s) = s
          go (inr s) = absurd (T_not (any (λ j. not (mem j ak)) ks) t (any_of (λ j. not (mem j ak)) (to_mem j h) (subst (λ (b : Bool). T (not b)) (ha j) s)))

      whole : T (not (any (λ j. not (mem j ak)) ks)) → bit_and m a ≡ m
      whole t = has_ext (bit_and m a) m (λ j. has-and j m a ∙ same_test (has j m && has j a) (has j m) (λ s. and_l (has j m) (has j a) s)
          (λ s. and_i (has j m) (has j a) s (none t j s)))

      there : T (strays a m) → T (any (λ j. not (mem j ak)) ks)
      there t = go (sure (any (λ j. not (mem j ak)) ks))
        where
          go : T (any (λ j. not (mem j ak)) ks) ⊎ T (not (any (λ j. not (mem j ak)) ks)) → T (any (λ j. not (mem j ak)) ks)
          go (inl s) = s
          go (inr s) = absurd (T_not (eqb (bit_and m a) m) t (subst (λ (z : ℕ). T (eqb z m)) (sym (whole s)) (eqb_refl m)))

      hit : (e : ℕ) × Memᴰ e ks × T (not (mem e ak)) → bit_and m a ≡ m → ⊥
      hit (e, i, t) z = T_not (mem e ak) t (subst T (ha e) (and_r (has e m) (has e a)
          (subst T (has-and e m a) (subst (λ (x : ℕ). T (has e x)) (sym z) (of_mem e i)))))

      back : T (any (λ j. not (mem j ak)) ks) → T (strays a m)
      back t = not_T (eqb (bit_and m a) m) (λ e. hit (any_some (λ j. not (mem j ak)) ks t) (eqb→eq (bit_and m a) m e))
