-- In the marginals of all keys, the mean and the variance of a component stand where `mean_place` and `variance_place` say. Assumes nothing.
use Prim.Native.Nat.{ℕ, zero, suc, ◌+◌, ◌-◌, ◌*◌, ◌≤◌, ◌<◌}
use mathlib.Core.Path.{◌≡◌, ap, ◌∙◌}
use mathlib.Core.List.{List, [], ◌∷◌, ◌++◌}
use native.Mathlib.Omega.{arith}
use native.Mathlib.Nat.{mul-le-mul}
use lib.Ieee.{Float, nan}
use lib.ListN.{length, get_or, length-append, get_or-append}
use lib.Seq.{get_or-append-add}
use Rattle.graph.specs.Moments.{moment_numbers, start_of, mean_place, variance_place}
use Rattle.graph.proofs.Moments.{start_none, start_more}
use Rattle.marginals.specs.Marginals.{Found, found, refused, marginals_in}

-- the marginals of the keys from j on, all found, each with as many numbers as its key's size asks for
pub data Whole (sizes : List ℕ) : (j : ℕ) → List Found → Type 0 where
  none : {j : ℕ} → Whole sizes j []
  one : {j : ℕ} {mean covariance : List Float} {rest : List Found} → length mean ≡ get_or sizes j 0 → length covariance ≡ get_or sizes j 0 * get_or sizes j 0
      → Whole sizes (j + 1) rest → Whole sizes j (found mean covariance ∷ rest)

start_rises : (sizes : List ℕ) (j i : ℕ) → start_of sizes j ≤ start_of sizes (j + i)
start_rises sizes j zero = let e : j + 0 ≡ j = omega arith in omega (arith, ap (start_of sizes) e)
start_rises sizes j (suc i) = let e : j + suc i ≡ j + i + 1 = omega arith in omega
    (arith, ap (start_of sizes) e, start_rises sizes j i, start_more sizes (j + i))

-- a key's numbers, from where they begin behind those of the key j
numbers-at : (sizes : List ℕ) (j i : ℕ) (all : List Found) (mean covariance : List Float) → Whole sizes j all → get_or all i (found [] [])
    ≡ found mean covariance → i < length all
    → (x : ℕ) → x < moment_numbers (get_or sizes (j + i) 0) → get_or (marginals_in all) (start_of sizes (j + i) - start_of sizes j + x) nan
    ≡ get_or (mean ++ covariance) x nan
unfolding marginals_in
numbers-at sizes j i [] mean covariance w e l x h = absurd (omega arith)
numbers-at sizes j zero (refused _ ∷ rest) mean covariance w e l x h = elim w [ ]
numbers-at sizes j (suc i) (refused _ ∷ rest) mean covariance w e l x h = elim w [ ]
numbers-at sizes j zero (found m c ∷ rest) mean covariance (one hm hc w) e l x h =
    let k : j + 0 ≡ j = omega arith in
    let p : start_of sizes (j + 0) - start_of sizes j + x ≡ x = omega (arith, ap (start_of sizes) k) in
    let n : x < length (m ++ c) = omega (arith, length-append m c, ap (λ (z : ℕ). moment_numbers (get_or sizes z 0)) k) in
    ap (λ (z : ℕ). get_or ((m ++ c) ++ marginals_in rest) z nan) p ∙ get_or-append (m ++ c) (marginals_in rest) nan x n
    ∙ ap (λ (f : Found). get_or (numbers_of f) x nan) e
  where
    numbers_of : Found → List Float
    numbers_of (found m c) = m ++ c
    numbers_of (refused why) = []
numbers-at sizes j (suc i) (found m c ∷ rest) mean covariance (one hm hc w) e l x h =
    let k : j + suc i ≡ j + 1 + i = omega arith in
    let p : start_of sizes (j + suc i) - start_of sizes j + x ≡ length (m ++ c) + (start_of sizes (j + 1 + i) - start_of sizes (j + 1) + x) =
    omega (arith, ap (start_of sizes) k, start_more sizes j, start_rises sizes (j + 1) i, length-append m c) in
    ap (λ (z : ℕ). get_or ((m ++ c) ++ marginals_in rest) z nan) p ∙ get_or-append-add (m ++ c) (marginals_in rest)
    (start_of sizes (j + 1 + i) - start_of sizes (j + 1) + x) nan
    ∙ numbers-at sizes (j + 1) i rest mean covariance w e (omega arith) x (omega (arith, ap (λ (z : ℕ). moment_numbers (get_or sizes z 0)) k))

module _ (sizes : List ℕ) (all : List Found) (w : Whole sizes 0 all) (k : ℕ) (mean covariance : List Float)
    (e : get_or all k (found [] []) ≡ found mean covariance) (l : k < length all)
    (hm : length mean ≡ get_or sizes k 0) (c : ℕ) (h : c < get_or sizes k 0) where
  at_key : (x : ℕ) → x < moment_numbers (get_or sizes k 0) → get_or (marginals_in all) (start_of sizes k + x) nan ≡ get_or (mean ++ covariance) x nan
  at_key x lx =
      let z : 0 + k ≡ k = omega arith in
      let p : start_of sizes k + x ≡ start_of sizes (0 + k) - start_of sizes 0 + x = omega (arith, ap (start_of sizes) z, start_none sizes) in
      ap (λ (y : ℕ). get_or (marginals_in all) y nan) p ∙ numbers-at sizes 0 k all mean covariance w e l x
      (omega (arith, ap (λ (y : ℕ). moment_numbers (get_or sizes y 0)) z))

  pub mean_there : get_or (marginals_in all) (mean_place sizes k c) nan ≡ get_or mean c nan
  mean_there = at_key c (omega arith) ∙ get_or-append mean covariance nan c (omega (arith, hm))

  pub variance_there : get_or (marginals_in all) (variance_place sizes k c) nan ≡ get_or covariance (c * get_or sizes k 0 + c) nan
  variance_there =
      let s : ℕ = get_or sizes k 0 in
      let x : ℕ = c * s + c in
      let most : c * s + s ≤ s * s = square c s h in
      let p : variance_place sizes k c ≡ start_of sizes k + (s + x) = omega arith in
      let q : s + x ≡ length mean + x = omega (arith, hm) in
      ap (λ (y : ℕ). get_or (marginals_in all) y nan) p ∙ at_key (s + x) (omega arith) ∙ ap (λ (y : ℕ). get_or (mean ++ covariance) y nan) q
      ∙ get_or-append-add mean covariance x nan
    where
      square : (c s : ℕ) → c < s → c * s + s ≤ s * s
      square c s l = let k : suc c ≤ s = omega arith in let m : s ≤ s = omega arith in omega (arith, mul-le-mul k m)
