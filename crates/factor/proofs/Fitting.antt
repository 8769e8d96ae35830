-- The records that fit are those that the registering calls make. Assumes nothing.
use Prim.Native.Nat.{ℕ, zero, suc, ◌+◌, ◌-◌, ◌<◌, ◌≤◌}
use mathlib.Core.Path.{◌≡◌, refl, sym, ap, ◌∙◌}
use mathlib.Core.Bool.{Bool, true, false, cond}
use mathlib.Core.List.{List, [], ◌∷◌, ◌++◌}
use native.Mathlib.Omega.{arith}
use native.Mathlib.Decide.{dec_lt}
use borrow.Author.Tests.{ltb-true, ltb-false, leb-true, eqb-true, eq-eqb, lt-ltb, le-ltb, le-leb, not-true}
use lib.Dec.{ltb, leb, eqb}
use lib.ListN.{length, get_or, set, replicate, take, length-replicate, length-append, get_or-append}
use lib.Seq.{get_or-set_other, get_or-append-add, get_or-take, length-take-le, ext_get_or}
use Rattle.factor.specs.Limits.{max_keys, max_rows}
use Rattle.factor.specs.Counting.{every}
use Rattle.factor.specs.Factor.{key_at, size_of, above, rising, known, no_factor, prior_of, observation_of, with_live, key_fits, rows_fit, fits, is_clear}
use Rattle.factor.specs.declared.Factor.{Factor}
use Rattle.factor.proofs.Counting.{every-at, every_2, every_3, pick_true, pick-false, by_test, all-at, all_of}

-- ---- what a record that fits tells

abbrev OfPrior : List ℕ → Factor → Bool
OfPrior sizes f = every (eqb f.touched 1 ∷ eqb f.rows (size_of sizes (key_at f 0)) ∷ [])

abbrev OfRows : Factor → Bool
OfRows f = every (leb 1 f.rows ∷ leb f.rows max_rows ∷ [])

abbrev Used : ℕ → Factor → ℕ → Bool
Used n f j = every (ltb (key_at f j) n ∷ above f.keys j ∷ [])

module _ (sizes : List ℕ) (n : ℕ) (f : Factor) (h : fits sizes n f ≡ true) where
  pub fits_touched : f.touched ≤ max_keys
  unfolding fits
  fits_touched = leb-true _ _ (every-at _ 0 h)

  place-fits : (j : ℕ) → j < max_keys → key_fits n f j ≡ true
  unfolding fits
  place-fits j l = all-at (λ i. key_fits n f i) max_keys j (every-at _ 2 h) l

  used : (j : ℕ) → j < f.touched → Used n f j ≡ true
  unfolding key_fits
  used j l =
      let m : f.touched ≤ max_keys = fits_touched in
      pick_true _ (eqb (key_at f j) 0) (lt-ltb j f.touched l) (place-fits j (omega arith))

  pub fits-key : (j : ℕ) → j < f.touched → key_at f j < n
  fits-key j l = ltb-true _ _ (every-at _ 0 (used j l))

  pub fits-above : (j : ℕ) → j < f.touched → above f.keys j ≡ true
  fits-above j l = every-at _ 1 (used j l)

  pub fits_unused : (j : ℕ) → f.touched ≤ j → j < max_keys → key_at f j ≡ 0
  unfolding key_fits
  fits_unused j l m = eqb-true _ _ (pick-false (Used n f j) (eqb (key_at f j) 0) (le-ltb j f.touched l) (place-fits j m))

  pub prior_touched : f.prior ≡ true → f.touched ≡ 1
  unfolding fits rows_fit
  prior_touched p = eqb-true _ _ (every-at _ 0 (pick_true (OfPrior sizes f) (OfRows f) p (every-at _ 1 h)))

  pub prior-rows : f.prior ≡ true → f.rows ≡ size_of sizes (key_at f 0)
  unfolding fits rows_fit
  prior-rows p = eqb-true _ _ (every-at _ 1 (pick_true (OfPrior sizes f) (OfRows f) p (every-at _ 1 h)))

  observed : f.prior ≡ false → OfRows f ≡ true
  unfolding fits rows_fit
  observed p = pick-false (OfPrior sizes f) (OfRows f) p (every-at _ 1 h)

  pub some-rows : f.prior ≡ false → 1 ≤ f.rows
  some-rows p = leb-true _ _ (every-at _ 0 (observed p))

  pub few_rows : f.prior ≡ false → f.rows ≤ max_rows
  few_rows p = leb-true _ _ (every-at _ 1 (observed p))

-- ---- a record that fits still does when there are more variables

module _ (sizes more : List ℕ) (n m : ℕ) (l : n ≤ m) (kept : (i : ℕ) → i < n → size_of sizes i ≡ size_of more i) (f : Factor) (h : fits sizes n f ≡ true) where
  rows_more : rows_fit more f ≡ true
  unfolding rows_fit
  rows_more =
      by_test f.prior (OfPrior more f) (OfRows f)
      (λ p.
      let t : f.touched ≡ 1 = prior_touched sizes n f h p in
      let k : key_at f 0 < n = fits-key sizes n f h 0 (omega arith) in
      every_2 _ _ (eq-eqb _ _ t) (eq-eqb _ _ (prior-rows sizes n f h p ∙ kept (key_at f 0) k)))
      (λ p. observed sizes n f h p)

  key_more : (j : ℕ) → j < max_keys → key_fits m f j ≡ true
  unfolding key_fits
  key_more j b =
      by_test (ltb j f.touched) (Used m f j) (eqb (key_at f j) 0)
      (λ t.
      let u : j < f.touched = ltb-true _ _ t in
      let k : key_at f j < n = fits-key sizes n f h j u in
      let q : key_at f j < m = omega arith in
      every_2 _ _ (lt-ltb _ _ q) (fits-above sizes n f h j u))
      (λ t. eq-eqb _ _ (fits_unused sizes n f h j (ltb-false _ _ t) b))

  pub fits_more : fits more m f ≡ true
  unfolding fits
  fits_more = every_3 _ _ _ (le-leb _ _ (fits_touched sizes n f h)) rows_more (all_of (λ j. key_fits m f j) max_keys key_more)

-- ---- the records that the calls make fit

zeros : (n j : ℕ) → ◌≡◌ {A = ℕ} (get_or (replicate n 0) j 0) 0
zeros zero j = refl
zeros (suc n) zero = refl
zeros (suc n) (suc j) = zeros n j

module _ (sizes : List ℕ) (n key : ℕ) (l : key < n) where
  prior-key : (j : ℕ) → key_fits n (prior_of key (size_of sizes key)) j ≡ true
  unfolding key_fits above
  prior-key j =
      by_test (ltb j 1) _ _
      (λ t.
      let a : j < 1 = ltb-true j 1 t in
      let e : j ≡ 0 = omega arith in
      rw e (every_2 _ _ (lt-ltb _ _ l) refl))
      (λ t.
      let a : 1 ≤ j = ltb-false j 1 t in
      eq-eqb _ _ (get_or-set_other (replicate max_keys 0) 0 j key 0 (λ x. omega arith) ∙ zeros max_keys j))

  pub prior-fits : fits sizes n (prior_of key (size_of sizes key)) ≡ true
  unfolding fits rows_fit
  prior-fits =
      every_3 _ _ _ refl (every_2 _ _ refl (eq-eqb (size_of sizes key) (size_of sizes key) refl))
      (all_of (λ j. key_fits n (prior_of key (size_of sizes key)) j) max_keys (λ j m. prior-key j))

module _ (keys : List ℕ) where
  key_in_lem : (k j : ℕ) → j < length keys → get_or (keys ++ replicate k 0) j 0 ≡ get_or keys j 0
  key_in_lem k j l = get_or-append keys (replicate k 0) 0 j l

  key_out : (k j : ℕ) → length keys ≤ j → get_or (keys ++ replicate k 0) j 0 ≡ 0
  key_out k j l =
      let e : j ≡ length keys + (j - length keys) = omega arith in
      ap (λ (i : ℕ). get_or (keys ++ replicate k 0) i 0) e ∙ get_or-append-add keys (replicate k 0) (j - length keys) 0 ∙ zeros k (j - length keys)

  pub observation-long : length keys ≤ max_keys → length (keys ++ replicate (max_keys - length keys) 0) ≡ max_keys
  observation-long few = simp (length-append, length-replicate) (omega arith)

  module _ (sizes : List ℕ) (n y : ℕ) (few : length keys ≤ max_keys) (some : 1 ≤ y) (most : y ≤ max_rows) (up : rising keys ≡ true)
      (there : known n keys ≡ true) where
    above_as : (j : ℕ) → j < length keys → above (keys ++ replicate (max_keys - length keys) 0) j ≡ true
    unfolding above
    above_as j l =
        let a : get_or (keys ++ replicate (max_keys - length keys) 0) (j - 1) 0 ≡ get_or keys (j - 1) 0 = key_in_lem (max_keys - length keys) (j - 1) (omega arith) in
        let b : get_or (keys ++ replicate (max_keys - length keys) 0) j 0 ≡ get_or keys j 0 = key_in_lem (max_keys - length keys) j l in
        ap (λ (x : ℕ). cond (eqb j 0) true (ltb x (get_or (keys ++ replicate (max_keys - length keys) 0) j 0))) a
        ∙ ap (λ (x : ℕ). cond (eqb j 0) true (ltb (get_or keys (j - 1) 0) x)) b
        ∙ all-at (λ i. above keys i) (length keys) j up l

    observation-key : (j : ℕ) → key_fits n (observation_of keys y) j ≡ true
    unfolding key_fits
    observation-key j =
        by_test (ltb j (length keys)) _ _
        (λ t.
        let a : j < length keys = ltb-true _ _ t in
        every_2 _ _ (ap (λ (x : ℕ). ltb x n) (key_in_lem (max_keys - length keys) j a) ∙ all-at (λ i. ltb (get_or keys i 0) n) (length keys) j there a)
        (above_as j a))
        (λ t. eq-eqb _ _ (key_out (max_keys - length keys) j (ltb-false _ _ t)))

    pub observation-fits : fits sizes n (observation_of keys y) ≡ true
    unfolding fits rows_fit
    observation-fits =
        every_3 _ _ _ (le-leb _ _ few) (every_2 _ _ (le-leb _ _ some) (le-leb _ _ most))
        (all_of (λ j. key_fits n (observation_of keys y) j) max_keys (λ j m. observation-key j))

-- ---- a record that fits is, but for its live state, one that a call makes

pub clear-is : (f : Factor) → length f.keys ≡ max_keys → is_clear f ≡ true → f ≡ no_factor
unfolding is_clear
clear-is f n e =
    let p : f.prior ≡ false = not-true f.prior (every-at _ 0 e) in
    let a : f.live ≡ false = not-true f.live (every-at _ 1 e) in
    let t : f.touched ≡ 0 = eqb-true f.touched 0 (every-at _ 2 e) in
    let r : f.rows ≡ 0 = eqb-true f.rows 0 (every-at _ 3 e) in
    let k : f.keys ≡ replicate max_keys 0 =
    ext_get_or 0 f.keys (replicate max_keys 0) n (λ j l. eqb-true (key_at f j) 0
    (all-at (λ i. eqb (key_at f i) 0) max_keys j (every-at _ 4 e) (omega arith)) ∙ sym (zeros max_keys j)) in
    λ i. record { prior = p i; touched = t i; rows = r i; keys = k i; live = a i }

-- fitting doesn't look at the live state
pub fits-live : (sizes : List ℕ) (n : ℕ) (f : Factor) (b : Bool) → fits sizes n (with_live f b) ≡ fits sizes n f
unfolding fits rows_fit key_fits
fits-live sizes n f b = refl

module _ (sizes : List ℕ) (n : ℕ) (f : Factor) (long : length f.keys ≡ max_keys) (h : fits sizes n f ≡ true) where
  pub prior-is : f.prior ≡ true → with_live f true ≡ prior_of (key_at f 0) (size_of sizes (key_at f 0))
  prior-is p =
      let t : f.touched ≡ 1 = prior_touched sizes n f h p in
      let r : f.rows ≡ size_of sizes (key_at f 0) = prior-rows sizes n f h p in
      let k : f.keys ≡ set (replicate max_keys 0) 0 (key_at f 0) = ext_get_or 0 f.keys (set (replicate max_keys 0) 0 (key_at f 0)) long
      (λ j l. go j (omega arith) t) in
      λ i. record { prior = p i; touched = t i; rows = r i; keys = k i; live = true }
    where
      go : (j : ℕ) → j < max_keys → f.touched ≡ 1 → key_at f j ≡ get_or (set (replicate max_keys 0) 0 (key_at f 0)) j 0
      go zero l t = refl
      go (suc j) l t = fits_unused sizes n f h (suc j) (omega arith) l
          ∙ sym (get_or-set_other (replicate max_keys 0) 0 (suc j) (key_at f 0) 0 (λ x. omega arith) ∙ zeros max_keys (suc j))

  -- the keys that an observation touches
  abbrev pub touches : List ℕ
  touches = take f.touched f.keys

  pub touches-long : length touches ≡ f.touched
  touches-long = length-take-le f.touched f.keys (omega (arith, fits_touched sizes n f h))

  touches_at : (j : ℕ) → j < f.touched → get_or touches j 0 ≡ key_at f j
  touches_at j l = get_or-take f.touched f.keys j 0 l

  pub touches-rising : rising touches ≡ true
  unfolding above
  touches-rising = all_of (λ j. above touches j) (length touches) (λ j l. up j (omega (arith, touches-long)))
    where
      up : (j : ℕ) → j < f.touched → cond (eqb j 0) true (ltb (get_or touches (j - 1) 0) (get_or touches j 0)) ≡ true
      up j l =
          ap (λ (x : ℕ). cond (eqb j 0) true (ltb x (get_or touches j 0))) (touches_at (j - 1) (omega arith))
          ∙ ap (λ (x : ℕ). cond (eqb j 0) true (ltb (key_at f (j - 1)) x)) (touches_at j l)
          ∙ fits-above sizes n f h j l

  pub touches-known : known n touches ≡ true
  touches-known = all_of (λ j. ltb (get_or touches j 0) n) (length touches) (λ j l. there j (omega (arith, touches-long)))
    where
      there : (j : ℕ) → j < f.touched → ltb (get_or touches j 0) n ≡ true
      there j l = ap (λ (x : ℕ). ltb x n) (touches_at j l) ∙ lt-ltb _ _ (fits-key sizes n f h j l)

  pub observation-is : f.prior ≡ false → with_live f true ≡ observation_of touches f.rows
  observation-is p =
      let few : length touches ≤ max_keys = omega (arith, touches-long, fits_touched sizes n f h) in
      let k : f.keys ≡ touches ++ replicate (max_keys - length touches) 0 =
      ext_get_or 0 f.keys (touches ++ replicate (max_keys - length touches) 0) (long ∙ sym (observation-long touches few))
      (λ j l. go j (omega arith) (dec_lt j f.touched)) in
      λ i. record { prior = p i; touched = sym touches-long i; rows = f.rows; keys = k i; live = true }
    where
      go : (j : ℕ) → j < max_keys → Dec (j < f.touched) → key_at f j ≡ get_or (touches ++ replicate (max_keys - length touches) 0) j 0
      go j l (yes m) = sym (key_in_lem touches (max_keys - length touches) j (omega (arith, touches-long)) ∙ touches_at j m)
      go j l (no m) = fits_unused sizes n f h j (omega arith) l ∙ sym (key_out touches (max_keys - length touches) j (omega (arith, touches-long)))
