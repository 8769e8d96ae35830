-- The lookup of a key, and what it answers where keys rise: the same as a search through all of them, and how many keys were read. Assumes nothing.
use Prim.Native.Nat.{ℕ, zero, suc, ◌+◌, ◌-◌, ◌<◌, ◌≤◌, min}
use mathlib.Core.Path.{◌≡◌, refl, sym, ap, ◌∙◌}
use mathlib.Core.Bool.{Bool, true, false, cond}
use mathlib.Core.List.{List, [], ◌∷◌}
use Rattle.std.specs.Prelude.{Option, Some, None}
use native.Mathlib.Nat.{min-eq_left, min-eq_right}
use native.Mathlib.Omega.{arith}
use native.Mathlib.Decide.{dec_lt}
use borrow.Author.Tests.{ltb-true, ltb-false, lt-ltb, le-ltb, eq-eqb, eqb-true, ne_eqb}
use lib.Dec.{ltb, eqb}
use lib.ListN.{get_or, length, take, length-take}
use lib.Seq.{length-take-le, get_or-take, take_all, take-length}
use Rattle.factor.specs.Limits.{max_keys}
use Rattle.factor.specs.Counting.{sum}
use Rattle.factor.specs.Factor.{rising, below, looked, lookup, key_at, size_of, fits, first_column, width, block_at, find, find_key}
use Rattle.factor.specs.declared.Factor.{Factor}
use Rattle.factor.specs.declared.lists.Looked.{Looked}
use Rattle.factor.proofs.Counting.{sum_ext, sum_ones, sum-stop}
use Rattle.factor.proofs.Blocks.{block-ends}
use Rattle.factor.proofs.Fitting.{fits_touched, touches-rising}
use Rattle.factor.proofs.KeyOrder.{rising-below, find_first, find_absent}

-- ---- the keys before the end of the search

module _ (key : ℕ) where
  -- they are below the one sought
  before-below : (keys : List ℕ) (i : ℕ) → i < below keys key → get_or keys i 0 < key
  unfolding below
  before-below [] i l = absurd (omega arith)
  before-below (k ∷ keys) i l = go (ltb k key) refl i l (before-below keys)
    where
      go : (b : Bool) → ltb k key ≡ b → (i : ℕ) → i < cond b (suc (below keys key)) 0 → ((j : ℕ) → j < below keys key → get_or keys j 0 < key)
          → get_or (k ∷ keys) i 0 < key
      go true e zero l h = ltb-true k key e
      go true e (suc i) l h = h i (omega arith)
      go false e i l h = absurd (omega arith)

  -- there are no more of them than keys
  below-within : (keys : List ℕ) → below keys key ≤ length keys
  unfolding below
  below-within [] = omega arith
  below-within (k ∷ keys) = go (ltb k key) (below-within keys)
    where
      go : (b : Bool) → below keys key ≤ length keys → cond b (suc (below keys key)) 0 ≤ length (k ∷ keys)
      go true h = omega arith
      go false h = omega arith

  -- the next, if there is one, isn't below
  next-not-below : (keys : List ℕ) → below keys key < length keys → key ≤ get_or keys (below keys key) 0
  unfolding below
  next-not-below [] l = absurd (omega arith)
  next-not-below (k ∷ keys) l = go (ltb k key) refl l (next-not-below keys)
    where
      go : (b : Bool) → ltb k key ≡ b → cond b (suc (below keys key)) 0 < length (k ∷ keys)
          → (below keys key < length keys → key ≤ get_or keys (below keys key) 0)
          → key ≤ get_or (k ∷ keys) (cond b (suc (below keys key)) 0) 0
      go true e l h = h (omega arith)
      go false e l h = ltb-false k key e

-- ---- one key read: so many were passed

module _ (keys : List ℕ) (key : ℕ) (j here : ℕ) (so_far : j ≤ below keys key) (e : here ≡ get_or keys j 0) where
  -- a key that is below is passed
  pub passed : j < length keys → here < key → j + 1 ≤ below keys key
  passed l b = go (dec_lt j (below keys key))
    where
      go : Dec (j < below keys key) → j + 1 ≤ below keys key
      go (yes q) = omega arith
      go (no q) =
          let s : j ≡ below keys key = omega arith in
          let n : key ≤ get_or keys j 0 = rw s (next-not-below key keys (omega arith)) in
          absurd (omega arith)

  -- one that isn't ends the search
  ended : key ≤ here → below keys key ≡ j
  ended n = go (dec_lt j (below keys key))
    where
      go : Dec (j < below keys key) → below keys key ≡ j
      go (yes q) = let b : get_or keys j 0 < key = before-below key keys j q in absurd (omega arith)
      go (no q) = omega arith

  pub larger_here : j < length keys → key < here → looked None (j + 1) ≡ lookup keys key
  unfolding lookup
  larger_here l more = rw (ended (omega arith), lt-ltb j (length keys) l, ne_eqb key (get_or keys j 0) (λ x. omega arith))

  pub found_here : j < length keys → key ≤ here → here ≤ key → looked (Some j) (j + 1) ≡ lookup keys key
  unfolding lookup
  found_here l n m = rw (ended n, lt-ltb j (length keys) l, eq-eqb key (get_or keys j 0) (omega arith))

pub past_the_last : (keys : List ℕ) (key j n : ℕ) → j ≤ below keys key → length keys ≤ j → n ≡ length keys → looked None n ≡ lookup keys key
unfolding lookup
past_the_last keys key j n so_far l e =
    let s : below keys key ≡ length keys = omega (arith, below-within key keys) in
    rw (s, le-ltb (length keys) (length keys) (omega arith), e)

-- ---- what is answered

module _ (keys : List ℕ) (key : ℕ) where
  -- a place that is told has the key, and all before it are below
  pub place-has : (j : ℕ) → (lookup keys key).place ≡ Some j → (j < length keys) × (get_or keys j 0 ≡ key) × ((i : ℕ) → i < j → get_or keys i 0 < key)
  unfolding lookup
  place-has j h = go (ltb (below keys key) (length keys)) (eqb key (get_or keys (below keys key) 0)) refl refl h
    where
      go : (b c : Bool) → ltb (below keys key) (length keys) ≡ b → eqb key (get_or keys (below keys key) 0) ≡ c
          → (cond b (looked (cond c (Some (below keys key)) None) (below keys key + 1)) (looked None (below keys key))).place ≡ Some j
          → (j < length keys) × (get_or keys j 0 ≡ key) × ((i : ℕ) → i < j → get_or keys i 0 < key)
      go true true l e s =
          let p : below keys key ≡ j = cc in
          rw (sym p) (ltb-true _ _ l, sym (eqb-true key (get_or keys (below keys key) 0) e), before-below key keys)
      go true false l e s = absurd (let z : ◌≡◌ {A = ℕ} 0 1 = cc in omega arith)
      go false c l e s = absurd (let z : ◌≡◌ {A = ℕ} 0 1 = cc in omega arith)

  -- read are the keys before the end, and the next if there is one
  read_is : (lookup keys key).read ≡ below keys key + cond (ltb (below keys key) (length keys)) 1 0
  unfolding lookup
  read_is = go (ltb (below keys key) (length keys))
    where
      go : (b : Bool) → (cond b (looked (cond (eqb key (get_or keys (below keys key) 0)) (Some (below keys key)) None) (below keys key + 1))
          (looked None (below keys key))).read ≡ below keys key + cond b 1 0
      go true = refl
      go false = omega arith

  -- no more than there are
  pub read-within : (lookup keys key).read ≤ length keys
  read-within = rw read_is (go (ltb (below keys key) (length keys)) refl)
    where
      go : (b : Bool) → ltb (below keys key) (length keys) ≡ b → below keys key + cond b 1 0 ≤ length keys
      go true e = let l : below keys key < length keys = ltb-true _ _ e in omega arith
      go false e = omega (arith, below-within key keys)

  module _ (up : rising keys ≡ true) where
    -- no key from the end of the search on is below
    not-below : (i : ℕ) → below keys key ≤ i → i < length keys → key ≤ get_or keys i 0
    not-below i l m = go (dec_lt (below keys key) i)
      where
        next : key ≤ get_or keys (below keys key) 0
        next = next-not-below key keys (omega arith)

        go : Dec (below keys key < i) → key ≤ get_or keys i 0
        go (yes q) = omega (arith, rising-below keys up (below keys key) i q m, next)
        go (no q) = let s : i ≡ below keys key = omega arith in rw s next

    -- where none is told, no place has the key
    pub place_lacks : (lookup keys key).place ≡ None → (i : ℕ) → i < length keys → get_or keys i 0 ≡ key → ⊥
    place_lacks h i l same = go (dec_lt (below keys key) i)
      where
        go : Dec (below keys key < i) → ⊥
        go (yes q) = omega (arith, rising-below keys up (below keys key) i q l, not-below (below keys key) (omega arith) (omega arith))
        go (no q) =
            let f : looked (Some i) (i + 1) ≡ lookup keys key = found_here keys key i (get_or keys i 0) (omega arith) refl l (omega arith) (omega arith) in
            let z : ◌≡◌ {A = ℕ} 0 1 = cc in
            omega arith

    -- the keys below, wherever they stand, are those before the end
    below-counted : sum (λ i. cond (ltb (get_or keys i 0) key) 1 0) (length keys) ≡ below keys key
    below-counted =
        sum-stop (λ i. cond (ltb (get_or keys i 0) key) 1 0) (below keys key) (length keys) (below-within key keys)
        (λ i l m. rw (le-ltb (get_or keys i 0) key (not-below i l m)))
        ∙ sum_ext (λ i. cond (ltb (get_or keys i 0) key) 1 0) (λ i. 1) (below keys key) (λ i l. rw (lt-ltb (get_or keys i 0) key (before-below key keys i l)))
        ∙ sum_ones (below keys key)

    -- read is each key below the one sought, and the next if there is one
    pub read-counted : let n = sum (λ i. cond (ltb (get_or keys i 0) key) 1 0) (length keys) in (lookup keys key).read ≡ n + cond (ltb n (length keys)) 1 0
    read-counted = rw below-counted read_is

-- ---- among the first n keys, or all where there are fewer

take-least : (n : ℕ) (l : List ℕ) → take (min n (length l)) l ≡ take n l
take-least n l = go (dec_lt n (length l))
  where
    go : Dec (n < length l) → take (min n (length l)) l ≡ take n l
    go (yes q) = let h : n ≤ length l = omega arith in ap (λ (m : ℕ). take m l) (min-eq_left h)
    go (no q) = let h : length l ≤ n = omega arith in ap (λ (m : ℕ). take m l) (min-eq_right h) ∙ take-length l ∙ sym (take_all n l h)

module _ (l : List ℕ) (key n : ℕ) where
  -- as many as there are were lent
  pub lent : (used : ℕ) (r : Looked) → used ≡ min n (length l) → r ≡ lookup (take (used - 0) l) key → r ≡ lookup (take n l) key
  lent used r eu er = let d : used - 0 ≡ min n (length l) = omega arith in er ∙ ap (λ (k : List ℕ). lookup k key) (rw d (take-least n l))

  pub place-within : (j : ℕ) → (lookup (take n l) key).place ≡ Some j → (j < n) × (j < length l)
  place-within j h = let b : j < length (take n l) = (place-has (take n l) key j h).0 in (omega (arith, length-take n l), omega (arith, length-take n l))

  pub few-read : (lookup (take n l) key).read ≤ n
  few-read = omega (arith, read-within (take n l) key, length-take n l)

-- ---- of a factor

module _ (sizes : List ℕ) (f : Factor) (key : ℕ) where
  -- the keys that it touches
  abbrev keys : List ℕ
  keys = take f.touched f.keys

  told-within : (j : ℕ) → (lookup keys key).place ≡ Some j → j < f.touched
  told-within j h = (place-within f.keys key f.touched j h).0

  -- a block that is found ends within the width
  pub found-ends : (first size : ℕ) → (find sizes f key).found ≡ Some (first, size) → first + size ≤ width sizes f
  found-ends first size e = go (lookup keys key).place refl e
    where
      go : (p : Option ℕ) → (lookup keys key).place ≡ p → block_at sizes f.keys p ≡ Some (first, size) → first + size ≤ width sizes f
      go (Some j) h b =
          let block : ◌≡◌ {A = ℕ × ℕ} (first_column sizes f.keys j, size_of sizes (key_at f j)) (first, size) = cc in
          let x : first_column sizes f.keys j ≡ first = ap (λ (p : ℕ × ℕ). p.0) block in
          let y : size_of sizes (key_at f j) ≡ size = ap (λ (p : ℕ × ℕ). p.1) block in
          omega (arith, block-ends sizes f.keys j f.touched (told-within j h))
      go None h b = absurd (let z : ◌≡◌ {A = ℕ} 0 1 = cc in omega arith)

  module _ (few : f.touched ≤ length f.keys) (up : rising keys ≡ true) where
    long : length keys ≡ f.touched
    long = length-take-le f.touched f.keys few

    -- the block found is that of a search through all keys
    pub find_as_before : (find sizes f key).found ≡ find_key sizes f key
    find_as_before = go (lookup keys key).place refl
      where
        at : (i : ℕ) → i < f.touched → get_or keys i 0 ≡ key_at f i
        at i l = get_or-take f.touched f.keys i 0 l

        go : (p : Option ℕ) → (lookup keys key).place ≡ p → block_at sizes f.keys p ≡ find_key sizes f key
        go (Some j) h =
            let l : j < f.touched = told-within j h in
            let has = place-has keys key j h in
            sym (find_first sizes f.keys key j (sym (at j l) ∙ has.1) f.touched l
            (λ i m e. let b : get_or keys i 0 < key = has.2 i m in omega (arith, at i (omega arith))))
        go None h = sym (find_absent sizes f.keys key f.touched
            (λ i m e. place_lacks keys key up h i (omega (arith, long)) (at i m ∙ e)))

    -- read is each of the factor's keys below the one sought, and the next if there is one
    pub find-read : let n = sum (λ i. cond (ltb (key_at f i) key) 1 0) f.touched in (find sizes f key).read ≡ n + cond (ltb n f.touched) 1 0
    find-read =
        let s : sum (λ i. cond (ltb (get_or keys i 0) key) 1 0) f.touched ≡ sum (λ i. cond (ltb (key_at f i) key) 1 0) f.touched =
        sum_ext _ _ f.touched (λ i l. rw (get_or-take f.touched f.keys i 0 l)) in
        rw (sym s) (rw long at (read-counted keys key up))

  -- a record that a registering call makes has such keys
  pub find-registered : (variables : ℕ) → length f.keys ≡ max_keys → fits sizes variables f ≡ true → (find sizes f key).found ≡ find_key sizes f key
  find-registered variables long h = find_as_before (omega (arith, fits_touched sizes variables f h)) (touches-rising sizes variables f long h)
