-- The walk parts the slots: those taken pass the test, those left fail it, and nothing is lost or doubled.
-- Assumes nothing.
use mathlib.Core.Path.{◌≡◌, refl, sym, ap, subst}
use mathlib.Core.Logic.{◌⊎◌, inl, inr}
use mathlib.Core.Bool.{Bool, true, false, not, cond}
use mathlib.Core.List.Memᴰ
use mathlib.Core.List.{List, [], ◌∷◌, ◌++◌, Memᴰ}
use Prim.Native.Nat.{ℕ, zero, suc, ◌+◌, ◌≤◌}
use native.Mathlib.Omega.{arith}
use lib.Dec.{T}
use lib.ListN.{length}
use lib.Seq.{append_snoc}
use Rattle.schedule.specs.Count.{sum_over}
use Rattle.schedule.specs.Pass.{Slot, Walked, last_of, init_of, filled, rest_after, with_slot, walk}
use Rattle.schedule.proofs.Counts.{sum_same}

last_sum : (g : Slot → ℕ) (s : Slot) (l : List Slot) → g (last_of s l) + sum_over g (init_of s l) ≡ g s + sum_over g l
unfolding sum_over
last_sum g s [] = refl
last_sum g s (r ∷ l) = omega (arith, last_sum g r l)

next-sum : (g : Slot → ℕ) (b : Bool) (l : List Slot) → sum_over g (rest_after b l) ≡ sum_over g l
unfolding sum_over filled
next-sum g true [] = refl
next-sum g true (s ∷ l) = last_sum g s l
next-sum g false l = refl

init_length : (s : Slot) (l : List Slot) → length (init_of s l) ≡ length l
init_length s [] = refl
init_length s (r ∷ l) = ap suc (init_length r l)

next-length : (b : Bool) (l : List Slot) → length (rest_after b l) ≡ length l
unfolding filled
next-length true [] = refl
next-length true (s ∷ l) = ap suc (init_length s l)
next-length false l = refl

last_mem : (s : Slot) (l : List Slot) → Memᴰ (last_of s l) (s ∷ l)
last_mem s [] = Memᴰ.head refl
last_mem s (r ∷ l) = Memᴰ.tail (last_mem r l)

init_mem : {e : Slot} (s : Slot) (l : List Slot) → Memᴰ e (init_of s l) → Memᴰ e (s ∷ l)
init_mem s [] m = absurd (Memᴰ.not-nil m)
init_mem {e} s (r ∷ l) m = go (Memᴰ.cases_cons m) (init_mem r l)
  where
    go : (e ≡ s) ⊎ Memᴰ e (init_of r l) → (Memᴰ e (init_of r l) → Memᴰ e (r ∷ l)) → Memᴰ e (s ∷ r ∷ l)
    go (inl q) f = Memᴰ.head q
    go (inr q) f = Memᴰ.tail (f q)

next-mem : {e : Slot} (b : Bool) (l : List Slot) → Memᴰ e (rest_after b l) → Memᴰ e l
unfolding filled
next-mem true [] m = m
next-mem {e} true (s ∷ l) m = go (Memᴰ.cases_cons m)
  where
    go : (e ≡ last_of s l) ⊎ Memᴰ e (init_of s l) → Memᴰ e (s ∷ l)
    go (inl q) = subst (λ (z : Slot). Memᴰ z (s ∷ l)) (sym q) (last_mem s l)
    go (inr q) = init_mem s l q
next-mem false l m = m

pub walk-sum : (g : Slot → ℕ) (p : Slot → Bool) (d : ℕ) (l : List Slot) → sum_over g (walk p d l).taken + sum_over g (walk p d l).left ≡ sum_over g l
unfolding walk sum_over
walk-sum g p zero l = omega arith
walk-sum g p (suc d) [] = refl
walk-sum g p (suc d) (s ∷ l) = go (p s) (walk-sum g p d (rest_after (p s) l))
  where
    go : (b : Bool) → sum_over g (walk p d (rest_after b l)).taken + sum_over g (walk p d (rest_after b l)).left ≡ sum_over g (rest_after b l)
        → sum_over g (with_slot b s (walk p d (rest_after b l))).taken + sum_over g (with_slot b s (walk p d (rest_after b l))).left ≡ g s + sum_over g l
    go true ih = omega (arith, next-sum g true l)
    go false ih = omega arith

pub walk-taken : (p : Slot → Bool) (d : ℕ) (l : List Slot) {e : Slot} → Memᴰ e (walk p d l).taken → Memᴰ e l × T (p e)
unfolding walk
walk-taken p zero l m = absurd (Memᴰ.not-nil m)
walk-taken p (suc d) [] m = absurd (Memᴰ.not-nil m)
walk-taken p (suc d) (s ∷ l) {e} m = go (p s) refl m (λ b n. walk-taken p d (rest_after b l) n)
  where
    up : (b : Bool) → Memᴰ e (rest_after b l) × T (p e) → Memᴰ e (s ∷ l) × T (p e)
    up b r = (Memᴰ.tail (next-mem b l r.0), r.1)

    now : p s ≡ true → (e ≡ s) ⊎ Memᴰ e (walk p d (rest_after true l)).taken
        → ((b : Bool) → Memᴰ e (walk p d (rest_after b l)).taken → Memᴰ e (rest_after b l) × T (p e)) → Memᴰ e (s ∷ l) × T (p e)
    now q (inl r) ih = (Memᴰ.head r, rw (r, q) tt)
    now q (inr r) ih = up true (ih true r)

    go : (b : Bool) → p s ≡ b → Memᴰ e (with_slot b s (walk p d (rest_after b l))).taken
        → ((b : Bool) → Memᴰ e (walk p d (rest_after b l)).taken → Memᴰ e (rest_after b l) × T (p e)) → Memᴰ e (s ∷ l) × T (p e)
    go true q m ih = now q (Memᴰ.cases_cons m) ih
    go false q m ih = up false (ih false m)

-- with fuel enough, what is left fails the test
pub walk-left : (p : Slot → Bool) (d : ℕ) (l : List Slot) {e : Slot} → length l ≤ d → Memᴰ e (walk p d l).left → Memᴰ e l × T (not (p e))
unfolding walk
walk-left p zero [] h m = absurd (Memᴰ.not-nil m)
walk-left p zero (s ∷ l) h m = absurd (omega arith)
walk-left p (suc d) [] h m = absurd (Memᴰ.not-nil m)
walk-left p (suc d) (s ∷ l) {e} h m = go (p s) refl m (λ b n. walk-left p d (rest_after b l) (omega (arith, next-length b l)) n)
  where
    up : (b : Bool) → Memᴰ e (rest_after b l) × T (not (p e)) → Memᴰ e (s ∷ l) × T (not (p e))
    up b r = (Memᴰ.tail (next-mem b l r.0), r.1)

    now : p s ≡ false → (e ≡ s) ⊎ Memᴰ e (walk p d (rest_after false l)).left
        → ((b : Bool) → Memᴰ e (walk p d (rest_after b l)).left → Memᴰ e (rest_after b l) × T (not (p e))) → Memᴰ e (s ∷ l) × T (not (p e))
    now q (inl r) ih = (Memᴰ.head r, rw (r, q) tt)
    now q (inr r) ih = up false (ih false r)

    go : (b : Bool) → p s ≡ b → Memᴰ e (with_slot b s (walk p d (rest_after b l))).left
        → ((b : Bool) → Memᴰ e (walk p d (rest_after b l)).left → Memᴰ e (rest_after b l) × T (not (p e))) → Memᴰ e (s ∷ l) × T (not (p e))
    go true q m ih = up true (ih true m)
    go false q m ih = now q (Memᴰ.cases_cons m) ih

-- ---- what a walk takes, as a sum over all slots

if_so : (b : Bool) (x : ℕ) → T b → cond b x 0 ≡ x
if_so true x t = refl
if_so false x t = absurd t

pub if-not : (b : Bool) (x : ℕ) → T (not b) → cond b x 0 ≡ 0
if-not true x t = absurd t
if-not false x t = refl

sum-none : (g : Slot → ℕ) (l : List Slot) → ((s : Slot) → Memᴰ s l → g s ≡ 0) → sum_over g l ≡ 0
unfolding sum_over
sum-none g [] h = refl
sum-none g (s ∷ l) h = omega (arith, h s (Memᴰ.head refl), sum-none g l (λ r i. h r (Memᴰ.tail i)))

pub taken-sum : (g : Slot → ℕ) (p : Slot → Bool) (l : List Slot) → sum_over g (walk p (length l) l).taken ≡ sum_over (λ s. cond (p s) (g s) 0) l
taken-sum g p l =
    omega (
      arith,
      walk-sum (λ s. cond (p s) (g s) 0) p (length l) l,
      sum_same (λ s. cond (p s) (g s) 0) g (walk p (length l) l).taken (λ s i. if_so (p s) (g s) (walk-taken p (length l) l i).1),
      sum-none (λ s. cond (p s) (g s) 0) (walk p (length l) l).left (λ s i. if-not (p s) (g s) (walk-left p (length l) l (omega arith) i).1),
    )

-- ---- for a loop over an array: what has been taken and passed over, ahead of what the rest of the walk gives
abbrev pub ahead : List Slot → List Slot → Walked → Walked
ahead a b w = record { taken = a ++ w.taken; left = b ++ w.left }

-- one turn of the loop: the slot in its place is taken, or passed over
pub walk_on_taken : (p : Slot → Bool) (a b : List Slot) (s : Slot) (rest : List Slot) → p s ≡ true
    → ahead a b (walk p (length (s ∷ rest)) (s ∷ rest)) ≡ ahead (a ++ (s ∷ [])) b (walk p (length (filled rest)) (filled rest))
unfolding walk
walk_on_taken p a b s rest e = rw (e, next-length true rest, append_snoc a s (walk p (length rest) (filled rest)).taken)

pub walk_on_left : (p : Slot → Bool) (a b : List Slot) (s : Slot) (rest : List Slot) → p s ≡ false
    → ahead a b (walk p (length (s ∷ rest)) (s ∷ rest)) ≡ ahead a (b ++ (s ∷ [])) (walk p (length rest) rest)
unfolding walk
walk_on_left p a b s rest e = rw (e, append_snoc b s (walk p (length rest) rest).left)
