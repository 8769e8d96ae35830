-- What a store holds after a factor's numbers are stored. Assumes nothing.
use Prim.Native.Nat.{ℕ, ◌+◌, ◌≤◌}
use mathlib.Core.Path.{◌≡◌, refl}
use mathlib.Core.List.{List, ◌++◌}
use native.Mathlib.Omega.{arith}
use lib.Ieee.{Float}
use lib.ListN.{length, length-append}
use Rattle.factor.specs.Factor.{lay}
use Rattle.cholesky.specs.Forms.{exchanged}
use Rattle.std.specs.Prelude.{Result, Ok, Err}
use Rattle.cholesky.specs.declared.Fault.{Fault}
use Rattle.cholesky.specs.declared.Fault.TheVariants.{Pivot, NotFinite}
use Rattle.factor.specs.Storing.{form_laid}
use Rattle.factor.proofs.Laying.{two-laid}
use Rattle.cholesky.specs.Answers.{end_of, told}

-- A, xi and W laid one after the other
three : (st a xi w s₁ s₂ s₃ : List Float) (at n : ℕ) → at ≤ length st → length xi ≡ n → s₁ ≡ lay st at a → s₂ ≡ lay s₁ (at + length a) xi → s₃
    ≡ lay s₂ (at + length a + n) w
    → s₃ ≡ lay st at (a ++ xi ++ w)
three st a xi w s₁ s₂ s₃ at n l x e₁ e₂ e₃ =
    two-laid st (a ++ xi) at l w s₂ s₃ (at + length a + n) (omega (arith, length-append a xi)) (two-laid st a at l xi s₁ s₂ (at + length a) refl e₁ e₂) e₃

module _ (n at : ℕ) (a mean variance store l₁ xi₁ xi₂ w₂ : List Float) (r : Result (Unit {0}) Fault) (el : l₁ ≡ variance) (ex : xi₁ ≡ mean)
    (ew : exchanged n xi₁ l₁ ≡ told r xi₂ w₂) where
  came : exchanged n mean variance ≡ told r xi₂ w₂
  came = rw (ex, el) at ew

  -- an exchange that stops leaves the store
  pub stopped : (why : Fault) → r ≡ Err why → (r ≡ end_of (exchanged n mean variance)) × (store ≡ form_laid (exchanged n mean variance) a store at)
  unfolding told end_of
  stopped Pivot p = let e = came in rw (e, p) (refl, refl)
  stopped NotFinite p = let e = came in rw (e, p) (refl, refl)

  pub when_done : (u : Unit {0}) → r ≡ Ok u → (s₁ s₂ s₃ : List Float) → at ≤ length store → length xi₂ ≡ n → s₁ ≡ lay store at a
      → s₂ ≡ lay s₁ (at + length a) xi₂
      → s₃ ≡ lay s₂ (at + length a + n) w₂
      → (Ok tt ≡ end_of (exchanged n mean variance)) × (s₃ ≡ form_laid (exchanged n mean variance) a store at)
  unfolding told end_of
  when_done u p s₁ s₂ s₃ l x e₁ e₂ e₃ =
      let e = came in
      let t : s₃ ≡ lay store at (a ++ xi₂ ++ w₂) = three store a xi₂ w₂ s₁ s₂ s₃ at n l x e₁ e₂ e₃ in
      rw (e, p) (refl, t)
