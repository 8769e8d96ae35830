-- What `all` over a range or a list answers, as tests by index. Assumes nothing.
use Prim.Native.Nat.{ℕ, zero, suc, ◌+◌, ◌≤◌}
use mathlib.Core.Path.{◌≡◌, refl, ap, sym, ◌∙◌}
use mathlib.Core.Bool.{Bool, true, false, ◌&&◌}
use mathlib.Core.List.{List, [], ◌∷◌}
use native.Mathlib.Omega.{arith}
use lib.ListN.{get_or, length, take}
use lib.Seq.{get_or-take, length-take-le}
use denote.Param.Members.{Mut}
use denote.Ref.{Bor}
use Rattle.std.specs.List.{list_all, range_with_len}
use Rattle.std.specs.Fn.{Called}
use Rattle.std.specs.Iterator.{ChecksAll}
use Rattle.std.specs.Slice.Iter.{iter_rest}
use Rattle.std.specs.declared.ops.Range.{Range}
use Rattle.std.specs.declared.slice.Iter.{Iter}
use Rattle.std.proofs.iter.Yields.{fronts, nat_range_steps}
use Rattle.std.proofs.lemmas.Iterator.{YieldsList-from_range, YieldsList-from_slice}
use Rattle.std.proofs.lemmas.Iterator.Search.{all_from_yields_List}
use Rattle.factor.specs.Counting.{all}
use Rattle.factor.proofs.Counting.{all_ext}

-- the first index apart from the others
pub all_front : (p : ℕ → Bool) (n : ℕ) → all p (suc n) ≡ (p 0 && all (λ j. p (suc j)) n)
unfolding all
all_front p zero = sym (and_true (p 0))
  where
    and_true : (b : Bool) → (b && true) ≡ b
    and_true true = refl
    and_true false = refl
all_front p (suc n) = ap (λ (b : Bool). b && p (suc n)) (all_front p n) ∙ assoc (p 0) (all (λ j. p (suc j)) n) (p (suc n))
  where
    assoc : (a b c : Bool) → ((a && b) && c) ≡ (a && (b && c))
    assoc true b c = refl
    assoc false b c = refl

listed : {A : Type 0} (test : A → Bool) (d : A) (xs : List A) → list_all test xs ≡ all (λ j. test (get_or xs j d)) (length xs)
unfolding all
listed test d [] = refl
listed test d (x ∷ xs) = ap (λ (b : Bool). test x && b) (listed test d xs) ∙ sym (all_front (λ j. test (get_or (x ∷ xs) j d)) (length xs))

-- `xs.iter().all(f)`, where f answers the test p
pub all_listed : {A F : Type 0} {g : Mut F (Bor A × Unit {0}) Bool} {s u : Iter A} {f : F} {r : Bool} (p : A → Bool) (d : A) (xs : List A)
    → ChecksAll fronts g s f r u
    → iter_rest s ≡ xs
    → ((x : Bor A) (b : Bool) (q : F) → Called g f (x, tt) b q → (q ≡ f) × (b ≡ p x.now))
    → r ≡ all (λ j. p (get_or xs j d)) (length xs)
all_listed p d xs ran e k = all_from_yields_List p _ _ _ ran (YieldsList-from_slice xs e) k ∙ listed p d xs

from : (p : ℕ → Bool) (a n : ℕ) → list_all p (range_with_len a n) ≡ all (λ j. p (a + j)) n
unfolding all
from p a zero = refl
from p a (suc n) =
    ap (λ (b : Bool). p a && b) (from p (a + 1) n ∙ all_ext _ _ n (λ j l. let e : a + 1 + j ≡ a + suc j = omega arith in ap p e))
    ∙ ap (λ (k : ℕ). p k && all (λ j. p (a + suc j)) n) (let e : a ≡ a + 0 = omega arith in e)
    ∙ sym (all_front (λ j. p (a + j)) n)

ranged : (p : ℕ → Bool) (n : ℕ) → list_all p (range_with_len 0 n) ≡ all p n
ranged p n = from p 0 n ∙ all_ext _ _ n (λ j l. let e : 0 + j ≡ j = omega arith in ap p e)

-- `(0..n).all(f)`, where f answers the test p
pub all_ranged : {F : Type 0} {g : Mut F (ℕ × Unit {0}) Bool} {s u : Range ℕ} {f : F} {r : Bool} (p : ℕ → Bool) (n : ℕ) → ChecksAll nat_range_steps g s f r u
    → s ≡ record { start = 0; end = n }
    → ((x : ℕ) (b : Bool) (q : F) → Called g f (x, tt) b q → (q ≡ f) × (b ≡ p x))
    → r ≡ all p n
all_ranged p n ran e k = all_from_yields_List p _ _ _ ran (YieldsList-from_range 0 n n e (omega arith)) k ∙ ranged p n

-- the same over the first n elements of a list
pub all_first : {A F : Type 0} {g : Mut F (Bor A × Unit {0}) Bool} {s u : Iter A} {f : F} {r : Bool} (p : A → Bool) (d : A) (xs : List A) (n : ℕ)
    → ChecksAll fronts g s f r u
    → iter_rest s ≡ take n xs
    → n ≤ length xs
    → ((x : Bor A) (b : Bool) (q : F) → Called g f (x, tt) b q → (q ≡ f) × (b ≡ p x.now))
    → r ≡ all (λ j. p (get_or xs j d)) n
all_first p d xs n ran e l k =
    all_listed p d (take n xs) ran e k ∙ ap (λ (m : ℕ). all (λ j. p (get_or (take n xs) j d)) m) (length-take-le n xs l)
    ∙ all_ext _ _ n (λ j i. ap p (get_or-take n xs j d i))
