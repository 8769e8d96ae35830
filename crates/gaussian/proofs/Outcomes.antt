-- What the answer of an elimination tells of its outcome, and that the message in the work store is the one that is sent, or that the marginal is
-- made of. Assumes nothing.
use Prim.Native.Nat.{ℕ, ◌+◌, ◌-◌, ◌*◌, ◌≤◌}
use mathlib.Core.Path.{◌≡◌, refl, ap, ◌∙◌, sym}
use mathlib.Core.List.{List, [], ◌++◌}
use native.Mathlib.Omega.{arith}
use lib.ListN.{length, take, drop, length-append}
use lib.Seq.{take-append_seam, drop-append_seam, drop-append-add, take-length}
use lib.Ieee.{Float}
use Rattle.matrix.specs.Views.{part, splice}
use Rattle.workspace.specs.Frames.{frame_of}
use Rattle.workspace.specs.declared.Frame.{Frame}
use Rattle.factor.specs.Limits.{max_variables}
use Rattle.slots.specs.Layouts.{dim_of, layout_of}
use Rattle.slots.specs.Tables.{rows_by_all}
use Rattle.gaussian.specs.Elimination.{Outcome, pivot, not_finite, message, eliminate, numbers_in}
use Rattle.gaussian.specs.Answers.{eliminated_as, message_stored, left_in, views_of, marginal_from, marginal_of}
use Rattle.gaussian.specs.Asked.{Asked, Roomy, Sized}
use Rattle.std.specs.Prelude.{Result, Ok, Err}
use Rattle.cholesky.specs.declared.Fault.{Fault}
use Rattle.cholesky.specs.declared.Fault.TheVariants.{Pivot, NotFinite}
use Rattle.gaussian.specs.declared.marginal.Marginal.{Marginal}
use Rattle.gaussian.specs.declared.marginal.MarginalFault.{MarginalFault}
use Rattle.gaussian.specs.declared.marginal.MarginalFault.TheVariants as fault
use Rattle.gaussian.proofs.Enough.{enough}
use Rattle.gaussian.proofs.Listing.{rows-listed}
use Rattle.gaussian.proofs.Lengths.{message_sized, rows_few}
use Rattle.slots.specs.Views.{factor_numbers}

-- ---- the answer

pub at-pivot : (o : Outcome) → eliminated_as o ≡ Err Pivot → o ≡ pivot
unfolding eliminated_as
at-pivot pivot e = refl
at-pivot not_finite e = cc
at-pivot (message r a xi w) e = cc

pub at_unbounded : (o : Outcome) → eliminated_as o ≡ Err NotFinite → o ≡ not_finite
unfolding eliminated_as
at_unbounded pivot e = cc
at_unbounded not_finite e = refl
at_unbounded (message r a xi w) e = cc

-- a message of r rows
pub record Came (o : Outcome) (r : ℕ) : Type 0 where
  pub a : List Float
  pub xi : List Float
  pub w : List Float
  pub is : o ≡ message r a xi w

pub at_rows : (o : Outcome) (r : ℕ) → eliminated_as o ≡ Ok r → Came o r
unfolding eliminated_as
at_rows pivot r e = record { a = []; xi = []; w = []; is = cc }
at_rows not_finite r e = record { a = []; xi = []; w = []; is = cc }
at_rows (message k a xi w) r e = let g : k ≡ r = cc in record { a = a; xi = xi; w = w; is = ap (λ (n : ℕ). message n a xi w) g }

-- ---- a refusal

pub refusal-stored : (o : Outcome) (why : Fault) (l : List Float) (to : ℕ) → Err why ≡ eliminated_as o → l ≡ message_stored l to o
unfolding eliminated_as message_stored
refusal-stored pivot why l to e = refl
refusal-stored not_finite why l to e = refl
refusal-stored (message r a xi w) why l to e = absurd cc

pub marginal-pivot : (key s : ℕ) (o : Outcome) → Err Pivot ≡ eliminated_as o → Err fault.ClearedPivot ≡ marginal_from key s o
unfolding marginal_from
marginal-pivot key s o e = rw (at-pivot o (sym e)) refl

pub marginal_unbounded : (key s : ℕ) (o : Outcome) → Err NotFinite ≡ eliminated_as o → Err fault.NotFinite ≡ marginal_from key s o
unfolding marginal_from
marginal_unbounded key s o e = rw (at_unbounded o (sym e)) refl

-- ---- a message, by its parts

module _ (n k : ℕ) (a xi w : List Float) (la : length a ≡ n) (lx : length xi ≡ k) (lw : length w ≡ k * k) where
  pub whole_length : length (a ++ (xi ++ w)) ≡ n + k + k * k
  whole_length = simp length-append (omega arith)

  pub first_part : part (a ++ (xi ++ w)) 0 n ≡ a
  first_part = let e : n - 0 ≡ length a = omega arith in ap (λ (i : ℕ). take i (a ++ (xi ++ w))) e ∙ take-append_seam a (xi ++ w)

  after-a : drop n (a ++ (xi ++ w)) ≡ xi ++ w
  after-a = ap (λ (i : ℕ). drop i (a ++ (xi ++ w))) (sym la) ∙ drop-append_seam a (xi ++ w)

  pub second-part : part (a ++ (xi ++ w)) n (n + k) ≡ xi
  second-part = let e : n + k - n ≡ length xi = omega arith in rw (after-a, e) (take-append_seam xi w)

  pub third-part : part (a ++ (xi ++ w)) (n + k) (n + k + k * k) ≡ w
  third-part =
      let e : n + k + k * k - (n + k) ≡ length w = omega arith in
      let b : n + k ≡ length a + length xi = omega arith in
      rw (e, b, drop-append-add a (xi ++ w) (length xi), drop-append_seam xi w) (take-length w)

-- ---- a message of an elimination

-- its rows by the table of heads, and its lengths
pub asked_sized : {kept cleared sizes : List ℕ} {factors messages : List Float} {work : ℕ} {keys heads slots : List ℕ} → length sizes ≡ max_variables
    → Asked kept cleared sizes factors messages work keys heads slots → (r : ℕ) (a xi w : List Float)
    → eliminate (views_of factors messages keys heads slots) kept cleared sizes ≡ message r a xi w
    → Sized (rows_by_all (layout_of kept cleared sizes) keys heads slots (length slots)) (dim_of sizes kept) r a xi w
asked_sized {kept} {cleared} {sizes} {factors} {messages} {work} {keys} {heads} {slots} len q r a xi w e =
    rw ((enough len q).rows, rows-listed factors messages keys heads slots kept cleared sizes)
    (message_sized (views_of factors messages keys heads slots) kept cleared sizes r a xi w e)

module _ {kept cleared sizes : List ℕ} {factors messages : List Float} {work : ℕ} {keys heads slots : List ℕ} (len : length sizes ≡ max_variables)
    (q : Asked kept cleared sizes factors messages work keys heads slots) (x : Result ℕ Fault)
    (ex : x ≡ eliminated_as (eliminate (views_of factors messages keys heads slots) kept cleared sizes)) (r : ℕ) (er : x ≡ Ok r) where
  came : Came (eliminate (views_of factors messages keys heads slots) kept cleared sizes) r
  came = at_rows _ r (sym ex ∙ er)

  sized : Sized (rows_by_all (layout_of kept cleared sizes) keys heads slots (length slots)) (dim_of sizes kept) r came.a came.xi came.w
  sized = asked_sized len q r came.a came.xi came.w came.is

  pub few_rows : r ≤ dim_of sizes kept
  few_rows = rw sized.of_rows (rows_few _ _)

  pub has_room : (to n : ℕ) → Roomy kept cleared sizes keys heads slots to n → to + factor_numbers r (dim_of sizes kept) ≤ n
  has_room to n h = rw sized.of_rows h

  module _ (t : List Float) (et : left_in (dim_of sizes cleared) (dim_of sizes kept) t (eliminate (views_of factors messages keys heads slots) kept cleared sizes)
      ≡ numbers_in (eliminate (views_of factors messages keys heads slots) kept cleared sizes)) where
    standing : part t (frame_of (dim_of sizes cleared) r (dim_of sizes kept)).a (frame_of (dim_of sizes cleared) r (dim_of sizes kept)).end
        ≡ came.a ++ (came.xi ++ came.w)
    unfolding left_in numbers_in
    standing = rw came.is at et

    pub message_sent : (l y : List Float) (to : ℕ)
        → y ≡ splice l to (to + factor_numbers r (dim_of sizes kept)) (part t (frame_of (dim_of sizes cleared) r (dim_of sizes kept)).a
        (frame_of (dim_of sizes cleared) r (dim_of sizes kept)).end)
        → (Ok r ≡ eliminated_as (eliminate (views_of factors messages keys heads slots) kept cleared sizes)) ×
        (y ≡ message_stored l to (eliminate (views_of factors messages keys heads slots) kept cleared sizes))
    unfolding message_stored
    message_sent l y to ey = (
      sym er ∙ ex,
      ey ∙ rw (
        came.is,
        standing,
        whole_length (r * dim_of sizes kept) r came.a came.xi came.w sized.of_a sized.of_xi
            sized.of_w,
      ),
    )

    marginal-kept : (key : ℕ) → marginal_of key (dim_of sizes kept) r
        (part t (frame_of (dim_of sizes cleared) r (dim_of sizes kept)).a (frame_of (dim_of sizes cleared) r (dim_of sizes kept)).end)
        ≡ marginal_from key (dim_of sizes kept) (eliminate (views_of factors messages keys heads slots) kept cleared sizes)
    unfolding marginal_of marginal_from
    marginal-kept key =
        let n : ℕ = r * dim_of sizes kept in
        let p₁ = first_part n r came.a came.xi came.w sized.of_a sized.of_xi sized.of_w in
        let p₂ = second-part n r came.a came.xi came.w sized.of_a sized.of_xi sized.of_w in
        let p₃ = third-part n r came.a came.xi came.w sized.of_a sized.of_xi sized.of_w in
        rw (came.is, standing, p₁, p₂, p₃)

    pub marginal-message : (key s n u : ℕ) (f : Frame) (y : Result Marginal MarginalFault) → n ≡ s → n ≡ dim_of sizes kept → u ≡ dim_of sizes cleared → f ≡ frame_of u r n
        → y ≡ marginal_of key n r (part t f.a f.end) → y ≡ marginal_from key s (eliminate (views_of factors messages keys heads slots) kept cleared sizes)
    marginal-message key s n u f y es en eu ef ey =
        let g : y ≡ marginal_of key n r (part t (frame_of u r n).a (frame_of u r n).end) = rw ef at ey in
        rw (← es, en) ((rw (eu, en) at g) ∙ marginal-kept key)
