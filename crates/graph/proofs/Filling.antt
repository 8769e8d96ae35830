-- The first k elements of a list, with one value in the other places; and the length of a list that is mapped. Assumes nothing.
use Prim.Native.Nat.{ℕ, suc, ◌+◌, ◌-◌, ◌<◌, ◌≤◌}
use mathlib.Core.Path.{◌≡◌, sym, ap, ◌∙◌}
use mathlib.Core.List.{List, ◌++◌, map}
use native.Mathlib.Numerals.{add-one}
use native.Mathlib.Omega.{arith}
use native.Mathlib.Decide.{dec_lt}
use lib.ListN.{length, get_or, set, replicate, take, length-replicate, get_or-replicate, length-append, length-map, get_or-append}
use lib.Seq.{get_or-append-add, get_or-take, length-take-le, take-suc, set_at, append_snoc, ext_get_or}

-- the elements of a list that is mapped are as many
pub unmapped : (X Y : Type 0) (f : X → Y) (l : List X) (n : ℕ) → length (map f l) ≡ n → length l ≡ n
unmapped X Y f l n e = sym (length-map l f) ∙ e

module _ {A : Type 0} (l : List A) (n : ℕ) (long : length l ≡ n) (z d : A) where
  abbrev pub fill : ℕ → List A
  fill k = take k l ++ replicate (n - k) z

  front : (k : ℕ) → k ≤ n → length (take k l) ≡ k
  front k h = length-take-le k l (omega arith)

  -- the next element goes to its place
  pub fill-set : (k : ℕ) → k < n → set (fill k) k (get_or l k d) ≡ fill (k + 1)
  fill-set k h =
      let e : n - k ≡ suc (n - (k + 1)) = omega arith in
      ap (λ (m : ℕ). set (take k l ++ replicate m z) k (get_or l k d)) e
      ∙ set_at (take k l) z (replicate (n - (k + 1)) z) (get_or l k d) k (front k (omega arith))
      ∙ sym (append_snoc (take k l) (get_or l k d) (replicate (n - (k + 1)) z))
      ∙ ap (λ (t : List A). t ++ replicate (n - (k + 1)) z) (sym (take-suc l k d (omega arith)) ∙ ap (λ (m : ℕ). take m l) (sym (add-one k)))

  pub fill-below : (k i : ℕ) → k ≤ n → i < k → get_or (fill k) i d ≡ get_or l i d
  fill-below k i h m = get_or-append (take k l) (replicate (n - k) z) d i (omega (arith, front k h)) ∙ get_or-take k l i d m

  pub fill-above : (k i : ℕ) → k ≤ i → i < n → get_or (fill k) i d ≡ z
  fill-above k i h m =
      let e : i ≡ length (take k l) + (i - k) = omega (arith, front k (omega arith)) in
      ap (λ (j : ℕ). get_or (fill k) j d) e ∙ get_or-append-add (take k l) (replicate (n - k) z) (i - k) d ∙ get_or-replicate (n - k) (i - k) z d (omega arith)

  pub fill-length : (k : ℕ) → k ≤ n → length (fill k) ≡ n
  fill-length k h = length-append (take k l) (replicate (n - k) z) ∙ omega (arith, front k h, length-replicate (n - k) z)

  -- where the other places hold that value already, nothing changes
  pub fill-all : (k : ℕ) → k ≤ n → ((i : ℕ) → k ≤ i → i < n → get_or l i d ≡ z) → fill k ≡ l
  fill-all k h e = ext_get_or d (fill k) l (fill-length k h ∙ sym long) (λ i m. go i (omega (arith, fill-length k h)) (dec_lt i k))
    where
      go : (i : ℕ) → i < n → Dec (i < k) → get_or (fill k) i d ≡ get_or l i d
      go i m (yes a) = fill-below k i h a
      go i m (no a) = fill-above k i (omega arith) m ∙ sym (e i (omega arith) m)
