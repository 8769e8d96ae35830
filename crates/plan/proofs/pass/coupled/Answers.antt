-- Before each turn r holds the coupled keys of the slots before i; a slot adds its keys exactly if it touches a key that is not active.
-- Assumes nothing.
use borrow.Author.Tests.{eq-eqb, ne_eqb}
use mathlib.Core.Path.{◌≡◌, sym, ap, ap₂, ◌∙◌}
use mathlib.Core.Bool.{Bool, not, ◌&&◌, ◌||◌}
use mathlib.Core.List.{List}
use mathlib.Core.Logic.{◌⊎◌, inl, inr}
use Prim.Native.Nat.{ℕ, ◌+◌, ◌<◌}
use lib.Bits.{bit_and, bit_or}
use lib.ListN.{length, get_or, take}
use Rattle.schedule.specs.Count.{any}
use Rattle.plan.specs.Mask.{has, strays}
use Rattle.plan.specs.Pass.{Coupled}
use Rattle.plan.proofs.Digits.{has-or, has-zero}
use Rattle.plan.proofs.Prefixes.{or-false, any-take}
use Rattle.plan.proofs.pass.coupled.Goals as goal
use Rattle.plan.proofs.pass.coupled.Goals.{then-m-active, else-m-active}

more : (masks slots : List ℕ) (active r i : ℕ) → i < length slots → Coupled masks active (take i slots) r → (m r' : ℕ) → m ≡ get_or masks (get_or slots i 0) 0
    → ((bit_and m active ≡ m → ⊥) × (r' ≡ bit_or r m)) ⊎ ((bit_and m active ≡ m) × (r' ≡ r)) → Coupled masks active (take (i + 1) slots) r'
more masks slots active r i h inv m r' e (inl w) j =
    ap (has j) w.1 ∙ has-or j r m
    ∙ ap₂ (λ (x y : Bool). x || y) (inv j)
    (ap (λ (t : Bool). not t && has j m) (sym (ne_eqb (bit_and m active) m w.0)) ∙ ap (λ (z : ℕ). strays active z && has j z) e)
    ∙ sym (any-take (λ x. strays active (get_or masks x 0) && has j (get_or masks x 0)) slots i 0 h)
more masks slots active r i h inv m r' e (inr w) j =
    ap (has j) w.1 ∙ inv j ∙ sym (or-false (any (λ x. strays active (get_or masks x 0) && has j (get_or masks x 0)) (take i slots)))
    ∙ ap (λ (t : Bool). any (λ x. strays active (get_or masks x 0) && has j (get_or masks x 0)) (take i slots) || t)
    (ap (λ (t : Bool). not t && has j m) (sym (eq-eqb (bit_and m active) m w.0)) ∙ ap (λ (z : ℕ). strays active z && has j z) e)
    ∙ sym (any-take (λ x. strays active (get_or masks x 0) && has j (get_or masks x 0)) slots i 0 h)

pub loop-s-init : goal.loop-s-init
unfolding any
loop-s-init c = λ j. has-zero j

pub loop-s-preserved : goal.loop-s-preserved
loop-s-preserved c =
    let args = c.args in
    let loop = c.loop-s in
    more args.masks.now (take args.used args.slots.now) args.active loop.r loop.s-index c.loop-s-test.true loop.invariant _ c.if-m-active.r
    (ap (λ (x : ℕ). get_or args.masks.now x 0) c.from.ensures)
    (elim c.if-m-active.branch [ then-m-active w ↦ inl (w.if-m-active.true, w.r-is) | else-m-active w ↦ inr (w.if-m-active.false, w.r-is) ])
