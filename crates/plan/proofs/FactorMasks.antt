-- The sets of the factors' keys.
-- Assumes nothing.
use mathlib.Core.Path.{◌≡◌, refl, sym, ap, ◌∙◌}
use mathlib.Core.Bool.{Bool, cond}
use mathlib.Core.List.{List, []}
use Prim.Native.Nat.{ℕ, ◌≤◌, ◌<◌}
use native.Mathlib.Decide.{dec_lt}
use native.Mathlib.Omega.{arith}
use borrow.Author.Tests.{lt-ltb, le-ltb}
use lib.ListN.{length, get_or, replicate}
use Rattle.factor.specs.Limits.{max_factors}
use Rattle.schedule.specs.Count.{mem}
use Rattle.plan.specs.Mask.{has, Set}
use Rattle.plan.specs.Factors.{touched_keys, keys_among, Masked}
use Rattle.factor.specs.Factor.{absent}
use Rattle.factor.specs.declared.Factor.{Factor}
use Rattle.plan.proofs.Begins.{zero-at}
use Rattle.plan.proofs.Digits.{has-zero}
use Rattle.plan.proofs.Membership.{mem-nil}

pub record MaskedTo (factors : List Factor) (r : List ℕ) (i : ℕ) : Type 0 where
  pub long : length r ≡ max_factors
  pub done : (k : ℕ) → k < i → Set (touched_keys (get_or factors k absent)) (get_or r k 0)
  pub rest : (k : ℕ) → i ≤ k → get_or r k 0 ≡ 0

pub masked_none : (factors : List Factor) → MaskedTo factors (replicate max_factors 0) 0
masked_none factors = record { long = refl; done = λ k h. absurd (omega arith); rest = λ k h. zero-at max_factors k }

pub masked_done : (factors : List Factor) (r : List ℕ) (number i : ℕ) → MaskedTo factors r i → i ≡ number → Masked factors number r
masked_done factors r number i t e k j = go (dec_lt k number)
  where
    go : Dec (k < number) → has j (get_or r k 0) ≡ mem j (keys_among factors number k)
    go (yes h) = t.done k (omega arith) j ∙ ap (λ (b : Bool). mem j (cond b (touched_keys (get_or factors k absent)) [])) (sym (lt-ltb k number h))
    go (no h) = ap (has j) (t.rest k (omega arith)) ∙ has-zero j ∙ sym (mem-nil j)
        ∙ ap (λ (b : Bool). mem j (cond b (touched_keys (get_or factors k absent)) [])) (sym (le-ltb k number (omega arith)))
