-- The factors read one by one are those of the list. Assumes nothing.
use Prim.Native.Nat.{ℕ, zero, suc, ◌<◌}
use mathlib.Core.Path.{◌≡◌, refl, ap, ◌∙◌, sym}
use mathlib.Core.List.{List, [], ◌∷◌, map}
use native.Mathlib.Omega.{arith}
use lib.ListN.{length, get_or, length-map}
use lib.Ieee.{Float}
use Rattle.workspace.specs.Sums.{Sums, turns}
use Rattle.workspace.specs.Frames.{frame_of}
use Rattle.workspace.specs.declared.Frame.{Frame}
use Rattle.slots.specs.Layouts.{dim_of, layout_of}
use Rattle.slots.specs.Views.{FactorView, rows_of_all, with_views}
use Rattle.slots.specs.Tables.{head_of, read_view, view_at}
use Rattle.slots.specs.declared.Branch.{Branch}
use Rattle.slots.specs.declared.layout.Layout.{Layout}
use Rattle.gaussian.specs.Elimination.{branch_of, message_rows, begun, factorised, outcome, in_branch, branched, nth, eliminate, numbers_in}
use Rattle.gaussian.specs.Answers.{eliminated_as, left_in, views_of, branched_at}
use Rattle.std.specs.Prelude.{Result}
use Rattle.cholesky.specs.declared.Fault.{Fault}
use Rattle.gaussian.proofs.Branches.{left-same}

pub get_d_map : {A : Type 0} (g : ℕ → A) (l : List ℕ) (i : ℕ) (d : A) → i < length l → get_or (map g l) i d ≡ g (get_or l i 0)
get_d_map g [] i d h = absurd (omega arith)
get_d_map g (x ∷ l) zero d h = refl
get_d_map g (x ∷ l) (suc i) d h = get_d_map g l i d (omega arith)

module _ (m : Layout) (s t : ℕ → FactorView) where
  rows_same : (n : ℕ) → ((i : ℕ) → i < n → s i ≡ t i) → rows_of_all m s n ≡ rows_of_all m t n
  unfolding rows_of_all
  rows_same zero h = refl
  rows_same (suc n) h = rw (rows_same n (λ i l. h i (omega arith)), h n (omega arith))

  views_same : (branch : Branch) (f : Frame) (σ : Sums) (n : ℕ) → ((i : ℕ) → i < n → s i ≡ t i) → with_views branch f m s σ n ≡ with_views branch f m t σ n
  unfolding with_views turns
  views_same branch f σ zero h = refl
  views_same branch f σ (suc n) h = rw (views_same branch f σ n (λ i l. h i (omega arith)), rows_same n (λ i l. h i (omega arith)), h n (omega arith))

  branched-same : (u d y n : ℕ) → ((i : ℕ) → i < n → s i ≡ t i) → branched u d y m s n ≡ branched u d y m t n
  unfolding branched in_branch
  branched-same u d y n h =
      let f : Frame = frame_of u (message_rows y d) d in
      ap (λ (σ : Sums). outcome f.rows (factorised (branch_of y d) f σ)) (views_same (branch_of y d) f (begun (branch_of y d) f) n h)

module _ (factors messages : List Float) (keys heads slots kept cleared sizes : List ℕ) where
  pub listed-is : branched_at (dim_of sizes cleared) (dim_of sizes kept) (layout_of kept cleared sizes) factors messages keys heads slots
      ≡ eliminate (views_of factors messages keys heads slots) kept cleared sizes
  unfolding branched_at eliminate views_of view_at
  listed-is =
      let m : Layout = layout_of kept cleared sizes in
      let g : ℕ → FactorView = λ number. read_view factors messages keys (head_of heads number) in
      let e : (i : ℕ) → i < length slots → view_at factors messages keys heads slots i ≡ nth (map g slots) i = λ i h. sym (get_d_map g slots i _ h) in
      rw (length-map slots g, ← rows_same m (view_at factors messages keys heads slots) (nth (map g slots)) (length slots) e)
      (branched-same m (view_at factors messages keys heads slots) (nth (map g slots)) (dim_of sizes cleared) (dim_of sizes kept)
      (rows_of_all m (view_at factors messages keys heads slots) (length slots)) (length slots) e)

  pub slots-are : (u d : ℕ) (m : Layout) (a : Result ℕ Fault) (t : List Float) → u ≡ dim_of sizes cleared → d ≡ dim_of sizes kept → m ≡ layout_of kept cleared sizes
      → a ≡ eliminated_as (branched_at u d m factors messages keys heads slots) → left_in u d t (branched_at u d m factors messages keys heads slots)
      ≡ numbers_in (branched_at u d m factors messages keys heads slots)
      → (a ≡ eliminated_as (eliminate (views_of factors messages keys heads slots) kept cleared sizes))
      × (left_in (dim_of sizes cleared) (dim_of sizes kept) t (eliminate (views_of factors messages keys heads slots) kept cleared sizes)
      ≡ numbers_in (eliminate (views_of factors messages keys heads slots) kept cleared sizes))
  slots-are u d m a t eu ed em ea et =
      let g : branched_at u d m factors messages keys heads slots ≡ eliminate (views_of factors messages keys heads slots) kept cleared sizes = rw
      (eu, ed, em) listed-is in
      (ea ∙ ap eliminated_as g, left-same _ _ _ _ t _ _ eu ed g et)

  pub rows-listed : rows_of_all (layout_of kept cleared sizes) (view_at factors messages keys heads slots) (length slots)
      ≡ rows_of_all (layout_of kept cleared sizes) (nth (views_of factors messages keys heads slots)) (length (views_of factors messages keys heads slots))
  unfolding views_of view_at
  rows-listed =
      let g : ℕ → FactorView = λ number. read_view factors messages keys (head_of heads number) in
      rw (length-map slots g) (rows_same (layout_of kept cleared sizes) (view_at factors messages keys heads slots) (nth (map g slots)) (length slots)
      (λ i h. sym (get_d_map g slots i _ h)))
