-- `records::kinds::meaning` meets its contract, by the table. Assumes nothing.
use Prim.Native.Nat.{ℕ, zero, suc}
use native.Mathlib.Omega.{arith}
use mathlib.Core.Path.{◌≡◌, refl, sym}
use lib.Ieee.{of_bits}
use Rattle.std.specs.Prelude.{None}
use Rattle.records.specs.Records.{meaning}
use Rattle.records.proofs.Flags.{flag_0, flag_1, flag_2, no_flag}
use Rattle.records.proofs.kinds.meaning.Goals as goal

past-the-table : (flag : ℕ) → (flag ≡ 0 → ⊥) → (flag ≡ 1 → ⊥) → (flag ≡ 2 → ⊥) → None ≡ meaning flag
past-the-table zero h i j = absurd (h refl)
past-the-table (suc zero) h i j = absurd (i refl)
past-the-table (suc (suc zero)) h i j = absurd (j refl)
past-the-table (suc (suc (suc n))) h i j = sym (no_flag n)

pub returns-in-0 : goal.returns-in-0
unfolding of_bits
returns-in-0 c = rw c.in-0.is (sym flag_0)

pub returns-in-1 : goal.returns-in-1
returns-in-1 c = rw c.in-1.is (sym flag_1)

pub returns-in-2 : goal.returns-in-2
unfolding of_bits
returns-in-2 c = rw c.in-2.is (sym flag_2)

pub returns-in_default : goal.returns-in_default
returns-in_default c = past-the-table _ (λ e. omega arith) (λ e. omega arith) (λ e. omega arith)
