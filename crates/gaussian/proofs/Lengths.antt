-- A message has the rows that its factors tell, and A, xi and W of the lengths of those rows: no change of an elimination alters a length. Assumes nothing.
use Prim.Native.Nat.{ℕ, zero, suc, ◌*◌, ◌≤◌}
use mathlib.Core.Path.{◌≡◌, refl, ◌∙◌, subst}
use mathlib.Core.Bool.{Bool, true, false, cond}
use mathlib.Core.List.{List, ◌++◌}
use native.Mathlib.Omega.{arith}
use borrow.Author.Tests.{leb-true}
use lib.Dec.{leb}
use lib.ListN.{length, length-replicate}
use lib.Ieee.{Float}
use Rattle.matrix.specs.Views.{place, entry}
use Rattle.matrix.specs.Sums.{plus_zero, one}
use Rattle.matrix.specs.Finite.{all_finite}
use Rattle.matrix.specs.Triangles.{filled_diagonal, filled_upper, filled_column}
use Rattle.matrix.specs.declared.View.{View}
use Rattle.matrix.specs.declared.Update.{Update}
use Rattle.matrix.proofs.Dense.{product-length}
use Rattle.matrix.proofs.Entries.{steps-length, sweep-length, block-length}
use Rattle.cholesky.specs.Factor.{Left, whole, stuck}
use Rattle.workspace.specs.Blocks.{stamp, stamp_entry}
use Rattle.workspace.specs.Sums.{Sums, change, turns}
use Rattle.workspace.specs.Frames.{frame_of}
use Rattle.workspace.specs.declared.Frame.{Frame}
use Rattle.workspace.specs.declared.Part.{Part}
use Rattle.workspace.specs.declared.Part.TheVariants.{S, H, G, A, Xi, W}
use Rattle.slots.specs.Layouts.{dim_of, layout_of, spot_of}
use Rattle.slots.specs.Views.{FactorView, prior, likelihood, rows_of_all, with_product, with_products, with_own, with_key, with_keys, with_rows, with_prior}
use Rattle.slots.specs.Views.{with_view, with_views}
use Rattle.slots.specs.declared.Branch.{Branch}
use Rattle.slots.specs.declared.Branch.TheVariants.{Z, X}
use Rattle.slots.specs.declared.layout.Layout.{Layout}
use Rattle.slots.specs.declared.layout.Spot.{Spot}
use Rattle.std.specs.Prelude.{Option, Some, None}
use Rattle.matrix.specs.declared.View.{View}
use Rattle.gaussian.specs.Elimination.{branch_of, rows_for, message_rows, begun, lost, ended, factorised, Outcome, pivot, not_finite, message}
use Rattle.gaussian.specs.Elimination.{outcome, in_branch, branched, nth, eliminate}
use Rattle.gaussian.specs.Asked.{Sized}

-- A, xi and W of r rows over d columns
record Long (r d : ℕ) (σ : Sums) : Type 0 where
  of_a : length σ.a ≡ r * d
  of_xi : length σ.xi ≡ r
  of_w : length σ.w ≡ r * r

stamp-length : (how : Update) (v : View) (m : ℕ) (a : List Float) (av : View) (n : ℕ) (c : List Float) → length (stamp how v m a av c n) ≡ length c
unfolding stamp
stamp-length how v m a av n c = block-length v m (stamp_entry how a av) c n

diagonal-length : (v : View) (n : ℕ) (c : List Float) → length (filled_diagonal v one c n) ≡ length c
unfolding filled_diagonal
diagonal-length v n c = steps-length (λ d. place v d d) (λ d t. one) c n

upper_length : (v : View) (n : ℕ) (c : List Float) → length (filled_upper v c n) ≡ length c
unfolding filled_upper filled_column
upper_length v n c = sweep-length (λ j t. filled_column v j t j) c n (λ j t. steps-length (λ i. place v i j) (λ i t. entry t v j i) t j)

module _ (r d : ℕ) where
  -- ---- changes

  changed : (p : Part) (g : List Float → List Float) (σ : Sums) → ((c : List Float) → length (g c) ≡ length c) → Long r d σ → Long r d (change p g σ)
  unfolding change
  changed S g σ h l = record { of_a = l.of_a; of_xi = l.of_xi; of_w = l.of_w }
  changed H g σ h l = record { of_a = l.of_a; of_xi = l.of_xi; of_w = l.of_w }
  changed G g σ h l = record { of_a = l.of_a; of_xi = l.of_xi; of_w = l.of_w }
  changed A g σ h l = record { of_a = h σ.a ∙ l.of_a; of_xi = l.of_xi; of_w = l.of_w }
  changed Xi g σ h l = record { of_a = l.of_a; of_xi = h σ.xi ∙ l.of_xi; of_w = l.of_w }
  changed W g σ h l = record { of_a = l.of_a; of_xi = l.of_xi; of_w = h σ.w ∙ l.of_w }

  turned : (g : ℕ → Sums → Sums) (σ : Sums) (n : ℕ) → ((i : ℕ) (σ : Sums) → Long r d σ → Long r d (g i σ)) → Long r d σ → Long r d (turns g σ n)
  unfolding turns
  turned g σ zero h l = l
  turned g σ (suc n) h l = h n (turns g σ n) (turned g σ n h l)

  -- ---- factors

  of_product : (p : Option (Part × View)) (s : ℕ) (t : List Float) (y : ℕ) (o : List Float) (n : ℕ) (σ : Sums) → Long r d σ → Long r d (with_product p s t y o n σ)
  unfolding with_product
  of_product None s t y o n σ l = l
  of_product (Some (p, v)) s t y o n σ l = changed p _ σ (λ c. product-length _ _ _ _ _ _ _ _ c _) l

  of_own : (branch : Branch) (gone : Bool) (f : Frame) (row : ℕ) (k : Spot) (b xi w : List Float) (y : ℕ) (σ : Sums) → Long r d σ
      → Long r d (with_own branch gone f row k b xi w y σ)
  unfolding with_own
  of_own X true f row k b xi w y σ l = changed H _ σ (λ c. product-length _ _ _ _ _ _ _ _ c _) l
  of_own X false f row k b xi w y σ l = changed Xi _ σ (λ c. product-length _ _ _ _ _ _ _ _ c _) l
  of_own Z true f row k b xi w y σ l = changed G _ _ (λ c. product-length _ _ _ _ _ _ _ _ c _) (changed H _ σ (λ c. product-length _ _ _ _ _ _ _ _ c _) l)
  of_own Z false f row k b xi w y σ l = changed A _ σ (λ c. stamp-length _ _ _ _ _ _ c) l

  of_key : (branch : Branch) (f : Frame) (m : Layout) (row : ℕ) (keys : List ℕ) (y : ℕ) (a xi w : List Float) (k : Spot) (b : List Float) (σ : Sums)
      → Long r d σ → Long r d (with_key branch f m row keys y a xi w k b σ)
  unfolding with_key with_products
  of_key branch f m row keys y a xi w k b σ l = turned _ _ (length keys) (λ j σ h. of_product _ _ _ _ _ _ σ h) (of_own branch k.cleared f row k b xi w y σ l)

  of_rows : (branch : Branch) (f : Frame) (row y : ℕ) (xi w : List Float) (σ : Sums) → Long r d σ → Long r d (with_rows branch f row y xi w σ)
  unfolding with_rows
  of_rows X f row y xi w σ l = l
  of_rows Z f row y xi w σ l = changed W _ _ (λ c. stamp-length _ _ _ _ _ _ c) (changed Xi _ σ (λ c. stamp-length _ _ _ _ _ _ c) l)

  of_prior : (branch : Branch) (gone : Bool) (f : Frame) (row : ℕ) (k : Spot) (xi w : List Float) (σ : Sums) → Long r d σ
      → Long r d (with_prior branch gone f row k xi w σ)
  unfolding with_prior
  of_prior branch true f row k xi w σ l = changed S _ _ (λ c. stamp-length _ _ _ _ _ _ c) (changed H _ σ (λ c. stamp-length _ _ _ _ _ _ c) l)
  of_prior X false f row k xi w σ l = changed W _ _ (λ c. stamp-length _ _ _ _ _ _ c) (changed Xi _ σ (λ c. stamp-length _ _ _ _ _ _ c) l)
  of_prior Z false f row k xi w σ l = changed A _ _ (λ c. diagonal-length _ _ c) (of_rows Z f row k.size xi w σ l)

  of_view : (branch : Branch) (f : Frame) (m : Layout) (row : ℕ) (v : FactorView) (σ : Sums) → Long r d σ → Long r d (with_view branch f m row v σ)
  unfolding with_view with_keys
  of_view branch f m row (prior key xi w) σ l = of_prior branch (spot_of m key).cleared f row (spot_of m key) xi w σ l
  of_view branch f m row (likelihood keys y a xi w) σ l = turned _ _ (length keys) (λ i σ h. of_key branch f m row keys y a xi w _ _ σ h)
      (of_rows branch f row y xi w σ l)

  of_views : (branch : Branch) (f : Frame) (m : Layout) (view : ℕ → FactorView) (σ : Sums) (n : ℕ) → Long r d σ → Long r d (with_views branch f m view σ n)
  unfolding with_views
  of_views branch f m view σ n l = turned _ σ n (λ i σ h. of_view branch f m (rows_of_all m view i) (view i) σ h) l

-- ---- the beginning and the end

of_begun : (branch : Branch) (f : Frame) → Long f.rows f.kept (begun branch f)
unfolding begun
of_begun Z f = record { of_a = length-replicate _ plus_zero; of_xi = length-replicate _ plus_zero; of_w = length-replicate _ plus_zero }
of_begun X f = record { of_a = diagonal-length _ _ _ ∙ length-replicate _ plus_zero; of_xi = length-replicate _ plus_zero; of_w = length-replicate _ plus_zero }

of_lost : (r d : ℕ) (branch : Branch) (f : Frame) (σ : Sums) → Long r d σ → Long r d (lost branch f σ)
unfolding lost
of_lost r d Z f σ l = record { of_a = l.of_a; of_xi = product-length _ _ _ _ _ _ _ _ _ _ ∙ l.of_xi; of_w = product-length _ _ _ _ _ _ _ _ _ _ ∙ l.of_w }
of_lost r d X f σ l =
    record {
      of_a = l.of_a;
      of_xi = product-length _ _ _ _ _ _ _ _ _ _ ∙ l.of_xi;
      of_w = product-length _ _ _ _ _ _ _ _ _ _
          ∙ (upper_length _ _ σ.w ∙ l.of_w);
    }

of_factor : (r d : ℕ) (σ : Sums) (t : List Float) → Long r d σ → Long r d (change S (λ c. t) σ)
unfolding change
of_factor r d σ t l = record { of_a = l.of_a; of_xi = l.of_xi; of_w = l.of_w }

-- that a message has its rows and lengths; of a refusal nothing is said
abbrev SizedIn : ℕ → ℕ → Outcome → Type 0
SizedIn y d pivot = pivot ≡ pivot
SizedIn y d not_finite = not_finite ≡ not_finite
SizedIn y d (message r a xi w) = Sized y d r a xi w

of_message : (y d r : ℕ) (σ : Sums) → r ≡ message_rows y d → Long r d σ → (b : Bool) → SizedIn y d (cond b (message r σ.a σ.xi σ.w) not_finite)
of_message y d r σ e l true = record { of_rows = e; of_a = l.of_a; of_xi = l.of_xi; of_w = l.of_w }
of_message y d r σ e l false = refl

of_ended : (y : ℕ) (branch : Branch) (f : Frame) (σ : Sums) → f.rows ≡ message_rows y f.kept → Long f.rows f.kept σ → (F : Left)
    → SizedIn y f.kept (outcome f.rows (ended branch f σ F))
unfolding ended outcome
of_ended y branch f σ e l (stuck t) = refl
of_ended y branch f σ e l (whole t) =
    let ρ : Sums = lost branch f (change S (λ c. t) σ) in
    of_message y f.kept f.rows ρ e (of_lost f.rows f.kept branch f _ (of_factor f.rows f.kept σ t l)) (all_finite (ρ.a ++ (ρ.xi ++ ρ.w)))

of_run : (y : ℕ) (branch : Branch) (f : Frame) (m : Layout) (view : ℕ → FactorView) (n : ℕ) → f.rows ≡ message_rows y f.kept
    → SizedIn y f.kept (in_branch branch f m view n)
unfolding in_branch factorised
of_run y branch f m view n e = of_ended y branch f _ e (of_views f.rows f.kept branch f m view (begun branch f) n (of_begun branch f)) _

of_branched : (u d y : ℕ) (m : Layout) (view : ℕ → FactorView) (n : ℕ) → SizedIn y d (branched u d y m view n)
unfolding branched frame_of
of_branched u d y m view n = of_run y (branch_of y d) (frame_of u (message_rows y d) d) m view n refl

of_eliminate : (views : List FactorView) (kept cleared sizes : List ℕ)
    → SizedIn (rows_of_all (layout_of kept cleared sizes) (nth views) (length views)) (dim_of sizes kept) (eliminate views kept cleared sizes)
unfolding eliminate
of_eliminate views kept cleared sizes = of_branched _ _ _ _ _ _

pub message_sized : (views : List FactorView) (kept cleared sizes : List ℕ) (r : ℕ) (a xi w : List Float) → eliminate views kept cleared sizes
    ≡ message r a xi w
    → Sized (rows_of_all (layout_of kept cleared sizes) (nth views) (length views)) (dim_of sizes kept) r a xi w
message_sized views kept cleared sizes r a xi w e = subst (SizedIn _ _) e (of_eliminate views kept cleared sizes)

-- a message has at most as many rows as kept columns
pub rows_few : (y d : ℕ) → message_rows y d ≤ d
rows_few y d = go (leb y d) (leb-true y d)
  where
    go : (b : Bool) → (b ≡ true → y ≤ d) → rows_for (cond b Z X) y d ≤ d
    go true h = h refl
    go false h = omega arith
