-- In keys that rise an earlier one is smaller. Those of a record that fits do: so each key is found at its own block, and the blocks take no more columns
-- than there are. Assumes nothing.
use Prim.Native.Nat.{ℕ, zero, suc, ◌+◌, ◌-◌, ◌<◌, ◌≤◌}
use mathlib.Core.Path.{◌≡◌, refl, sym, ap}
use mathlib.Core.Bool.{true, cond}
use mathlib.Core.List.{List}
use native.Mathlib.Numerals.{add-one}
use Rattle.std.specs.Prelude.{Some, None}
use native.Mathlib.Omega.{arith}
use native.Mathlib.Decide.{dec_lt}
use borrow.Author.Tests.{ltb-true, eq-eqb, ne_eqb}
use lib.Dec.{ltb, eqb}
use lib.ListN.{get_or, length}
use Rattle.factor.specs.Counting.{sum}
use Rattle.factor.specs.Factor.{above, rising, key_at, size_of, fits, first_column, width, find_from, find_key}
use Rattle.factor.specs.declared.Factor.{Factor}
use Rattle.factor.proofs.Counting.{all-at, sum_more, sum-le}
use Rattle.factor.proofs.Blocks.{first-none, first_more}
use Rattle.factor.proofs.Fitting.{fits-above}

-- in keys of which each is above the one before it, an earlier key is smaller
module _ (keys : List ℕ) (n : ℕ) (up : (j : ℕ) → j < n → above keys j ≡ true) where
  next-above : (j : ℕ) → j + 1 < n → get_or keys j 0 < get_or keys (j + 1) 0
  unfolding above
  next-above j l =
      let z : (j + 1 ≡ 0 → ⊥) = λ e. omega arith in
      let d : j + 1 - 1 ≡ j = omega arith in
      let a : ltb (get_or keys (j + 1 - 1) 0) (get_or keys (j + 1) 0) ≡ true = rw (ne_eqb (j + 1) 0 z) at (up (j + 1) l) in
      ltb-true _ _ (rw d at a)

  earlier_below : (i j : ℕ) → i < j → j < n → get_or keys i 0 < get_or keys j 0
  earlier_below i zero l m = absurd (omega arith)
  earlier_below i (suc j) l m = go (dec_lt i j) (λ k. earlier_below i j k (omega arith))
    where
      last : get_or keys j 0 < get_or keys (suc j) 0
      last = rw add-one at (next-above j (omega arith))

      go : Dec (i < j) → (i < j → get_or keys i 0 < get_or keys j 0) → get_or keys i 0 < get_or keys (suc j) 0
      go (yes k) r = let a : get_or keys i 0 < get_or keys j 0 = r k in let b : get_or keys j 0 < get_or keys (suc j) 0 = last in omega arith
      go (no k) r = let e : i ≡ j = omega arith in rw e last

pub rising-below : (keys : List ℕ) → rising keys ≡ true → (i j : ℕ) → i < j → j < length keys → get_or keys i 0 < get_or keys j 0
rising-below keys up = earlier_below keys (length keys) (λ j l. all-at (λ i. above keys i) (length keys) j up l)

module _ (sizes keys : List ℕ) (key : ℕ) where
  absent-from : (j n : ℕ) → ((i : ℕ) → j ≤ i → i < j + n → get_or keys i 0 ≡ key → ⊥) → find_from sizes keys key j n ≡ None
  unfolding find_from
  absent-from j zero other = refl
  absent-from j (suc n) other =
      rw (ne_eqb (get_or keys j 0) key (other j (omega arith) (omega arith)))
      (absent-from (j + 1) n (λ i a b. other i (omega arith) (omega arith)))

  -- a key that stands at no place is not found
  pub find_absent : (n : ℕ) → ((j : ℕ) → j < n → get_or keys j 0 ≡ key → ⊥) → find_from sizes keys key 0 n ≡ None
  find_absent n other = absent-from 0 n (λ i a b. other i (omega arith))

  module _ (i : ℕ) (same : get_or keys i 0 ≡ key) where
    first-from : (j n : ℕ) → j ≤ i → i < j + n → ((k : ℕ) → j ≤ k → k < i → get_or keys k 0 ≡ key → ⊥)
        → find_from sizes keys key j n ≡ Some (first_column sizes keys i, size_of sizes (get_or keys i 0))
    unfolding find_from
    first-from j zero a b other = absurd (omega arith)
    first-from j (suc n) a b other = go (dec_lt j i) (λ q. first-from (j + 1) n (omega arith) (omega arith) (λ k x y. other k (omega arith) y))
      where
        go : Dec (j < i) → (j < i → find_from sizes keys key (j + 1) n ≡ Some (first_column sizes keys i, size_of sizes (get_or keys i 0)))
            → cond (eqb (get_or keys j 0) key) (Some (first_column sizes keys j, size_of sizes (get_or keys j 0))) (find_from sizes keys key (j + 1) n)
            ≡ Some (first_column sizes keys i, size_of sizes (get_or keys i 0))
        go (yes q) r = rw (ne_eqb (get_or keys j 0) key (other j (omega arith) q)) (r q)
        go (no q) r = let e : j ≡ i = omega arith in rw (e, eq-eqb (get_or keys i 0) key same)

    -- a key that stands first at place i is found there
    pub find_first : (n : ℕ) → i < n → ((j : ℕ) → j < i → get_or keys j 0 ≡ key → ⊥)
        → find_from sizes keys key 0 n ≡ Some (first_column sizes keys i, size_of sizes (get_or keys i 0))
    find_first n l other = first-from 0 n (omega arith) (omega arith) (λ k x y. other k y)

module _ (sizes : List ℕ) (n : ℕ) (f : Factor) (h : fits sizes n f ≡ true) where
  key_below : (i j : ℕ) → i < j → j < f.touched → key_at f i < key_at f j
  key_below = earlier_below f.keys f.touched (fits-above sizes n f h)

  -- each key of the factor is found at its own block
  pub find_at : (i : ℕ) → i < f.touched → find_key sizes f (key_at f i) ≡ Some (first_column sizes f.keys i, size_of sizes (key_at f i))
  find_at i l = find_first sizes f.keys (key_at f i) i refl f.touched l (λ j m e. let a : key_at f j < key_at f i = key_below j i m l in omega arith)

  -- the columns to a key are among those of all keys up to it
  columns_to : (j : ℕ) → j < f.touched → first_column sizes f.keys (j + 1) ≤ sum (size_of sizes) (key_at f j + 1)
  columns_to zero l =
      let a : first_column sizes f.keys (0 + 1) ≡ first_column sizes f.keys 0 + size_of sizes (key_at f 0) = first_more sizes f.keys 0
      (key_at f 0) (size_of sizes (key_at f 0)) refl refl in
      omega (arith, first-none sizes f.keys, sum_more (size_of sizes) (key_at f 0))
  columns_to (suc j) l =
      let b : first_column sizes f.keys (j + 1) ≤ sum (size_of sizes) (key_at f j + 1) = columns_to j (omega arith) in
      let e : first_column sizes f.keys (suc j) ≡ first_column sizes f.keys (j + 1) = ap (first_column sizes f.keys) (sym (add-one j)) in
      let a : first_column sizes f.keys (suc j + 1) ≡ first_column sizes f.keys (suc j) + size_of sizes (key_at f (suc j)) = first_more sizes
      f.keys (suc j) (key_at f (suc j)) (size_of sizes (key_at f (suc j))) refl refl in
      let c : key_at f j < key_at f (suc j) = key_below j (suc j) (omega arith) l in
      omega (arith, sum-le (size_of sizes) (key_at f j + 1) (key_at f (suc j)) (omega arith), sum_more (size_of sizes) (key_at f (suc j)))

  -- the total width is at most that of all variables before a key past the last one
  pub width-within : (m : ℕ) → ((j : ℕ) → j < f.touched → key_at f j < m) → width sizes f ≤ sum (size_of sizes) m
  width-within m there = go f.touched refl
    where
      go : (t : ℕ) → f.touched ≡ t → first_column sizes f.keys t ≤ sum (size_of sizes) m
      go zero e = omega (arith, first-none sizes f.keys)
      go (suc j) e =
          let a : first_column sizes f.keys (j + 1) ≤ sum (size_of sizes) (key_at f j + 1) = columns_to j (omega arith) in
          let b : first_column sizes f.keys (suc j) ≡ first_column sizes f.keys (j + 1) = ap (first_column sizes f.keys) (sym (add-one j)) in
          let k : key_at f j < m = there j (omega arith) in
          omega (arith, sum-le (size_of sizes) (key_at f j + 1) m (omega arith))
