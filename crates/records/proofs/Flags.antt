-- What each flag means; and that a variance which is made where a record has none is never turned back: its triangles agree, and no pivot of it is
-- refused. Assumes nothing.
use Prim.Native.Nat.{ℕ, zero, suc}
use mathlib.Core.Path.{◌≡◌, refl, sym}
use mathlib.Core.Bool.{false}
use mathlib.Core.List.{List}
use mathlib.Core.Logic.{◌≢◌}
use lib.IntN.{negsuc}
use lib.Ieee.{Float, fin, sub, mul, div, lt}
use Rattle.std.specs.Prelude.{Some, None}
use Rattle.root.specs.Root.{root_of}
use Rattle.matrix.specs.Sums.{one}
use Rattle.matrix.specs.Triangles.{diagonal_of}
use Rattle.cholesky.specs.Factor.{pivot_of}
use Rattle.cholesky.proofs.Diagonal.{Rooted, one-rooted}
use Rattle.factor.specs.declared.Factor.{Factor}
use Rattle.graph.specs.Registration.{refuse, factor_verdict}
use Rattle.graph.specs.declared.Graph.{Graph}
use Rattle.graph.specs.declared.refusal.Refusal.TheVariants.{VariancePivot, NotSymmetric}
use Rattle.graph.proofs.Triangles.{diagonal_symmetry, diagonal_pivots}
use Rattle.records.specs.Records.{quarter, meaning}
use Rattle.records.specs.declared.kinds.Flag.TheVariants.{Diagonal, Given}

-- ---- the table, entry by entry

pub flag_0 : meaning 0 ≡ Some (Diagonal quarter)
unfolding meaning
flag_0 = refl

pub flag_1 : meaning 1 ≡ Some Given
unfolding meaning
flag_1 = refl

pub flag_2 : meaning 2 ≡ Some (Diagonal one)
unfolding meaning
flag_2 = refl

pub no_flag : (n : ℕ) → meaning (suc (suc (suc n))) ≡ None
unfolding meaning
no_flag n = refl

-- ---- what is made

abbrev half : Float
half = fin false 1 (negsuc 0)

quarter-rooted : Rooted quarter half
unfolding pivot_of root_of sub mul div lt
quarter-rooted = record { root = refl; kept = refl; zero_over = refl }

-- what holds of a quarter and of 1 holds of every number that a flag puts on the diagonal
of_made : (P : Float → Type 0) → P quarter → P one → (flag : ℕ) (x : Float) → meaning flag ≡ Some (Diagonal x) → P x
of_made P p q zero x e = let z : quarter ≡ x = cc (flag_0, e) in rw (sym z) p
of_made P p q (suc zero) x e = cc (flag_1, e)
of_made P p q (suc (suc zero)) x e = let z : one ≡ x = cc (flag_2, e) in rw (sym z) q
of_made P p q (suc (suc (suc n))) x e = cc (no_flag n, e)

module _ (g : Graph) (f : Factor) (a mean store : List Float) where
  pub made_symmetry : (flag : ℕ) (x : Float) → meaning flag ≡ Some (Diagonal x) → factor_verdict g f a mean (diagonal_of x f.rows) store ≢ refuse NotSymmetric
  made_symmetry = of_made (λ x. factor_verdict g f a mean (diagonal_of x f.rows) store ≢ refuse NotSymmetric)
      (diagonal_symmetry g f a mean store quarter refl) (diagonal_symmetry g f a mean store one refl)

  pub made_pivots : (flag : ℕ) (x : Float) → meaning flag ≡ Some (Diagonal x) → factor_verdict g f a mean (diagonal_of x f.rows) store ≢ refuse VariancePivot
  made_pivots = of_made (λ x. factor_verdict g f a mean (diagonal_of x f.rows) store ≢ refuse VariancePivot)
      (diagonal_pivots g f a mean store quarter half quarter-rooted) (diagonal_pivots g f a mean store one one one-rooted)
