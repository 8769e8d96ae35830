-- A mask of n bits is the set of its members. Assumes nothing.
use mathlib.Core.Path.{◌≡◌, refl, ◌∙◌}
use mathlib.Core.Bool.{Bool, true, false}
use mathlib.Core.List.{List, ◌∷◌}
use Prim.Native.Nat.{ℕ, zero, suc, ◌+◌, ◌*◌, ◌/◌, ◌%◌, ◌^◌, ◌<◌}
use native.Mathlib.Nat.{mod-lt, pow-suc, div-add-mod'}
use native.Mathlib.Omega.{arith}
use lib.Dec.{eqb}
use Rattle.schedule.specs.Count.{sum_over, put_if, keep, from, rising_where}
use Rattle.plan.specs.Mask.{has, keys_in}
use Rattle.plan_answer.specs.Answer.{set_of}

with_one : (j : ℕ) (l : List ℕ) → set_of (j ∷ l) ≡ 2 ^ j + set_of l
unfolding set_of sum_over
with_one j l = refl

-- members that are all one higher make a set of twice the number
raised : (p : ℕ → Bool) (a n : ℕ) → set_of (keep p (from (suc a) n)) ≡ 2 * set_of (keep (λ j. p (suc j)) (from a n))
unfolding keep from set_of sum_over
raised p a zero = refl
raised p a (suc n) = go (p (suc a)) (keep p (from (suc (suc a)) n)) (keep (λ j. p (suc j)) (from (suc a) n)) (raised p (suc a) n)
  where
    go : (b : Bool) (l k : List ℕ) → set_of l ≡ 2 * set_of k → set_of (put_if b (suc a) l) ≡ 2 * set_of (put_if b a k)
    go true l k e = omega (arith, with_one (suc a) l, with_one a k, pow-suc 2 a)
    go false l k e = e

-- the lowest bit
lowest : (x : ℕ) (l : List ℕ) → x < 2 → set_of (put_if (eqb x 1) 0 l) ≡ x + set_of l
lowest zero l h = omega arith
lowest (suc zero) l h = with_one 0 l
lowest (suc (suc x)) l h = absurd (omega arith)

set-rising : (n m : ℕ) → m < 2 ^ n → set_of (rising_where n (λ j. has j m)) ≡ m
unfolding rising_where keep from has set_of sum_over
set-rising zero m h = omega arith
set-rising (suc n) m h =
    lowest (m % 2) (keep (λ j. has j m) (from 1 n)) (mod-lt m (omega arith))
    ∙ omega (arith, raised (λ j. has j m) 0 n, set-rising n (m / 2) (omega (arith, pow-suc 2 n, div-add-mod' m 2)), div-add-mod' m 2)

pub set_members : (m : ℕ) → m < 2 ^ 32 → set_of (keys_in m) ≡ m
unfolding keys_in
set_members m h = set-rising 32 m h
