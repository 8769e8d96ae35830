-- One factor, added part by part, is what the definition adds; and what its parts ask for. Assumes nothing.
use Prim.Native.Nat.{ℕ, ◌+◌, ◌*◌, ◌≤◌}
use mathlib.Core.Path.{◌≡◌, ap, ◌∙◌}
use mathlib.Core.Bool.{Bool, true, false, cond}
use mathlib.Core.List.{List}
use native.Mathlib.Omega.{arith}
use native.Mathlib.Nat.{mul-le-mul}
use lib.ListN.{length, get_or}
use lib.Ieee.{Float}
use Rattle.matrix.specs.Views.{columns, part}
use Rattle.matrix.specs.Sums.{one}
use Rattle.matrix.specs.Triangles.{filled_diagonal}
use Rattle.matrix.specs.declared.View.{View}
use Rattle.matrix.specs.declared.Update.TheVariants.{Add, Store}
use Rattle.workspace.specs.Blocks.{corner, stamp}
use Rattle.workspace.specs.Sums.{Sums, change}
use Rattle.workspace.specs.declared.Frame.{Frame}
use Rattle.workspace.specs.declared.Part.TheVariants.{S, H, A, Xi, W}
use Rattle.slots.specs.declared.Branch.{Branch}
use Rattle.slots.specs.declared.Branch.TheVariants.{Z, X}
use Rattle.slots.specs.declared.layout.Layout.{Layout}
use Rattle.slots.specs.Layouts.{spot_of}
use Rattle.slots.specs.Views.{with_keys, with_rows, with_prior, with_view, view_of}
use Rattle.slots.specs.Fitting.{Fitted, BranchFits, Wide}
use Rattle.slots.specs.declared.layout.Spot.{Spot}
use Rattle.slots.proofs.Adding.{fits-part}

module _ (branch : Branch) (f : Frame) (row y : ℕ) (xi w : List Float) (σ : Sums) where
  pub rows_x : branch ≡ X → σ ≡ with_rows branch f row y xi w σ
  unfolding with_rows
  rows_x e = rw e

  pub rows_z : (σ₁ σ₂ : Sums) (u v : View) → branch ≡ Z → u ≡ corner f.rows row 0 → v ≡ corner f.rows row row → σ₁
      ≡ change Xi (λ c. stamp Store u y xi (columns y) c 1) σ
      → σ₂ ≡ change W (λ c. stamp Store v y w (columns y) c y) σ₁ → σ₂ ≡ with_rows branch f row y xi w σ
  unfolding with_rows
  rows_z σ₁ σ₂ u v e eu ev e₁ e₂ = rw (e, e₂, e₁, eu, ev)

module _ (branch : Branch) (f : Frame) (row : ℕ) (k : Spot) (xi w : List Float) (σ σ₁ σ₂ : Sums) where
  pub prior-cleared : (u v : View) → k.cleared ≡ true → u ≡ corner f.cleared k.at 0 → v ≡ corner f.cleared k.at k.at
      → σ₁ ≡ change H (λ c. stamp Add u k.size xi (columns k.size) c 1) σ → σ₂
      ≡ change S (λ c. stamp Add v k.size w (columns k.size) c k.size) σ₁
      → σ₂ ≡ with_prior branch k.cleared f row k xi w σ
  unfolding with_prior
  prior-cleared u v g eu ev e₁ e₂ = rw (g, e₂, e₁, eu, ev)

  pub prior_x : (u v : View) → k.cleared ≡ false → branch ≡ X → u ≡ corner f.rows k.at 0 → v ≡ corner f.rows k.at k.at
      → σ₁ ≡ change Xi (λ c. stamp Add u k.size xi (columns k.size) c 1) σ → σ₂
      ≡ change W (λ c. stamp Add v k.size w (columns k.size) c k.size) σ₁
      → σ₂ ≡ with_prior branch k.cleared f row k xi w σ
  unfolding with_prior
  prior_x u v g x eu ev e₁ e₂ = rw (g, x, e₂, e₁, eu, ev)

  pub prior_z : (v : View) → k.cleared ≡ false → branch ≡ Z → v ≡ corner f.rows row k.at → σ₁ ≡ with_rows branch f row k.size xi w σ → σ₂
      ≡ change A (λ c. filled_diagonal v one c k.size) σ₁
      → σ₂ ≡ with_prior branch k.cleared f row k xi w σ
  unfolding with_prior
  prior_z v g x ev e₁ e₂ = rw (g, x, e₂, e₁, ev, x)

module _ (branch : Branch) (f : Frame) (m : Layout) (row : ℕ) (p : Bool) (keys : List ℕ) (y d : ℕ) (t : List Float) (σ σ₁ : Sums) where
  pub view_prior : (k : Spot) → p ≡ true → k ≡ spot_of m (get_or keys 0 0)
      → σ₁ ≡ with_prior branch k.cleared f row k (part t (y * d) (y * d + y)) (part t (y * d + y) (y * d + y + y * y)) σ
      → σ₁ ≡ with_view branch f m row (view_of p keys y d t) σ
  unfolding with_view
  view_prior k ep ek e = rw (ep, e, ek)

  pub view_other : (σ₂ : Sums) → p ≡ false → σ₁ ≡ with_rows branch f row y (part t (y * d) (y * d + y)) (part t (y * d + y) (y * d + y + y * y)) σ
      → σ₂ ≡ with_keys branch f m row keys y (part t 0 (y * d)) (part t (y * d) (y * d + y)) (part t (y * d + y) (y * d + y + y * y)) σ₁ (length keys)
      → σ₂ ≡ with_view branch f m row (view_of p keys y d t) σ
  unfolding with_view
  view_other σ₂ ep e₁ e₂ = rw (ep, e₂, e₁)

-- what the calls ask for
module _ {f : Frame} {m : Layout} {branch : Branch} {row : ℕ} {p : Bool} {keys : List ℕ} {y d tl len : ℕ} (h : Fitted f m branch row p keys y d tl len) where
  pub branch_prior : p ≡ true → BranchFits branch f row (cond (spot_of m (get_or keys 0 0)).cleared 0 (spot_of m (get_or keys 0 0)).size)
  branch_prior e = record { square = h.square; inside = λ x. rw e at (h.inside x) }

  pub branch_other : p ≡ false → BranchFits branch f row y
  branch_other e = record { square = h.square; inside = λ x. rw e at (h.inside x) }

  pub wide_other : (len : ℕ) → p ≡ false → y * d ≤ len → Wide m.size keys y len
  wide_other len e g = record { count = h.count; width = rw (h.of_other e) h.narrow; rows = h.rows; whole = rw (h.of_other e) (omega arith) }

  -- all offsets are small
  pub offsets : (y * d ≤ 1024) × (y * y ≤ 1024)
  offsets = (mul-le-mul h.rows h.narrow, mul-le-mul h.rows h.rows)

  pub part_sizes : (t : List Float) → len ≡ length t
      → (y ≤ length (part t (y * d) (y * d + y))) × (y * y ≤ length (part t (y * d + y) (y * d + y + y * y))) × (y * d ≤ length (part t 0 (y * d)))
  part_sizes t e = (
    fits-part t (y * d) (y * d + y) y (omega arith) (omega arith),
    fits-part t (y * d + y) (y * d + y + y * y) (y * y) (omega arith) (omega arith),
    fits-part t 0 (y * d) (y * d) (omega arith) (omega arith),
  )

  pub prior_sizes : (t : List Float) (k : Spot) → len ≡ length t → p ≡ true → k ≡ spot_of m (get_or keys 0 0)
      → (k.size ≤ length (part t (y * d) (y * d + y))) × (k.size * k.size ≤ length (part t (y * d + y) (y * d + y + y * y)))
  prior_sizes t k e ep ek =
      let s : k.size ≡ y = ap (λ (o : Spot). o.size) ek ∙ h.of_prior ep in
      let q = part_sizes t e in
      (rw s q.0, rw s q.1)
