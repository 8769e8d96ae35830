-- Parts of a list, and a list with one of its parts changed. Assumes nothing.
use Prim.Native.Nat.{ℕ, zero, suc, min, ◌+◌, ◌-◌, ◌*◌, ◌≤◌, ◌<◌}
use mathlib.Core.Path.{◌≡◌, refl, ap, ◌∙◌, sym, subst}
use mathlib.Core.List.{List, [], ◌∷◌, ◌++◌, append_assoc}
use native.Mathlib.Nat.{mul-le-mul_right, zero-add, suc-add}
use native.Mathlib.Omega.{arith}
use lib.ListN.{length, get_or, set, take, drop, length-append, length-take, length-drop, get_or-append, take-append-drop}
use lib.Seq.{get_or-take, get_or-drop, get_or-append-add, ext_get_or, length-take-le, set-append_left, take-add, drop-drop}
use lib.Ieee.{Float, nan}
use Rattle.matrix.specs.Views.{Inside, part, splice}
use Rattle.matrix.specs.Stores.{steps, sweep}
use Rattle.matrix.proofs.Entries.{steps-length, sweep-length}
use Rattle.workspace.specs.Blocks.{corner}

pub length_part : (s : List Float) (p q : ℕ) → q ≤ length s → length (part s p q) ≡ q - p
length_part s p q h = simp (length-take, length-drop) (omega arith)

pub get_d_part : (s : List Float) (p q k : ℕ) → k < q - p → get_or (part s p q) k nan ≡ get_or s (p + k) nan
get_d_part s p q k h = get_or-take (q - p) (drop p s) k nan h ∙ get_or-drop p s k nan

set-append-add : (xs ys : List Float) (k : ℕ) (x : Float) → set (xs ++ ys) (length xs + k) x ≡ xs ++ set ys k x
set-append-add [] ys k x = ap (λ (n : ℕ). set ys n x) (zero-add k)
set-append-add (y ∷ xs) ys k x = ap (λ (n : ℕ). set (y ∷ (xs ++ ys)) n x) (suc-add (length xs) k) ∙ ap (λ (r : List Float). y ∷ r) (set-append-add xs ys k x)

module _ (s : List Float) (p q : ℕ) (t : List Float) (pq : p ≤ q) (qs : q ≤ length s) (lt : length t ≡ q - p) where
  front : length (take p s) ≡ p
  front = length-take-le p s (omega arith)

  pub length-splice : length (splice s p q t) ≡ length s
  length-splice = simp (length-append, length-take, length-drop) (omega arith)

  pub splice-below : (k : ℕ) → k < p → get_or (splice s p q t) k nan ≡ get_or s k nan
  splice-below k h = get_or-append (take p s) (t ++ drop (q - p) (drop p s)) nan k (rw front h) ∙ get_or-take p s k nan h

  pub splice_in : (k : ℕ) → k < q - p → get_or (splice s p q t) (p + k) nan ≡ get_or t k nan
  splice_in k h =
      subst (λ (n : ℕ). get_or (splice s p q t) (n + k) nan ≡ get_or t k nan) front
      (get_or-append-add (take p s) (t ++ drop (q - p) (drop p s)) k nan ∙ get_or-append t (drop (q - p) (drop p s)) nan k (rw lt h))

  pub splice-above : (k : ℕ) → q ≤ k → get_or (splice s p q t) k nan ≡ get_or s k nan
  splice-above k h =
      let e : length (take p s) + (length t + (k - q)) ≡ k = omega (arith, front) in
      let d : p + ((q - p) + (k - q)) ≡ k = omega arith in
      subst (λ (n : ℕ). get_or (splice s p q t) n nan ≡ get_or s k nan) e
      (get_or-append-add (take p s) (t ++ drop (q - p) (drop p s)) (length t + (k - q)) nan
      ∙ get_or-append-add t (drop (q - p) (drop p s)) (k - q) nan
      ∙ get_or-drop (q - p) (drop p s) (k - q) nan
      ∙ get_or-drop p s ((q - p) + (k - q)) nan
      ∙ ap (λ (n : ℕ). get_or s n nan) d)

  pub part_same : part (splice s p q t) p q ≡ t
  part_same =
      ext_get_or nan _ _ (length_part (splice s p q t) p q (rw length-splice qs) ∙ sym lt)
      (λ k h. let l : k < q - p = omega (arith, length_part (splice s p q t) p q (rw length-splice qs)) in
      get_d_part (splice s p q t) p q k l ∙ splice_in k l)

  pub part-below : (a b : ℕ) → b ≤ p → part (splice s p q t) a b ≡ part s a b
  part-below a b h =
      ext_get_or nan _ _ (length_part (splice s p q t) a b (rw length-splice (omega arith)) ∙ sym (length_part s a b (omega arith)))
      (λ k l. let m : k < b - a = omega (arith, length_part (splice s p q t) a b (rw length-splice (omega arith))) in
      get_d_part (splice s p q t) a b k m ∙ splice-below (a + k) (omega arith) ∙ sym (get_d_part s a b k m))

  pub part-above : (a b : ℕ) → q ≤ a → b ≤ length s → part (splice s p q t) a b ≡ part s a b
  part-above a b h bs =
      ext_get_or nan _ _ (length_part (splice s p q t) a b (rw length-splice bs) ∙ sym (length_part s a b bs))
      (λ k l. let m : k < b - a = omega (arith, length_part (splice s p q t) a b (rw length-splice bs)) in
      get_d_part (splice s p q t) a b k m ∙ splice-above (a + k) (omega arith) ∙ sym (get_d_part s a b k m))

  pub set-splice : (k : ℕ) (x : Float) → k < q - p → set (splice s p q t) (p + k) x ≡ splice s p q (set t k x)
  set-splice k x h =
      subst (λ (n : ℕ). set (splice s p q t) (n + k) x ≡ splice s p q (set t k x)) front
      (set-append-add (take p s) (t ++ drop (q - p) (drop p s)) k x
      ∙ ap (λ (l : List Float). take p s ++ l) (set-append_left t (drop (q - p) (drop p s)) k x (rw lt h)))

pub splice-part : (s : List Float) (p q : ℕ) → splice s p q (part s p q) ≡ s
splice-part s p q = ap (λ (l : List Float). take p s ++ l) (take-append-drop (q - p) (drop p s)) ∙ take-append-drop p s

-- two parts, one after the other
pub part_join : (t : List Float) (a b c : ℕ) → a ≤ b → b ≤ c → part t a b ++ part t b c ≡ part t a c
part_join t a b c ab bc =
    let d : a + (b - a) ≡ b = omega arith in
    let e : (b - a) + (c - b) ≡ c - a = omega arith in
    ap (λ (l : List Float). part t a b ++ take (c - b) l) (sym (drop-drop (b - a) a t ∙ ap (λ (k : ℕ). drop k t) d))
    ∙ sym (take-add (b - a) (c - b) (drop a t))
    ∙ ap (λ (k : ℕ). take k (drop a t)) e

-- ---- changes of one part

-- stores that all go into one part are the stores in that part
pub steps-part : (x : List Float) (p q : ℕ) (at at' : ℕ → ℕ) (f f' : ℕ → List Float → Float) (n : ℕ) → p ≤ q → q ≤ length x
    → ((i : ℕ) → i < n → at i ≡ p + at' i) → ((i : ℕ) → i < n → at' i < q - p)
    → (t : List Float) → length t ≡ q - p → ((i : ℕ) → i < n → (t : List Float) → length t ≡ q - p → f i (splice x p q t) ≡ f' i t)
    → steps at f (splice x p q t) n ≡ splice x p q (steps at' f' t n)
unfolding steps
steps-part x p q at at' f f' zero pq qx ea ba t lt ef = refl
steps-part x p q at at' f f' (suc n) pq qx ea ba t lt ef =
    let ih = steps-part x p q at at' f f' n pq qx (λ i h. ea i (omega arith)) (λ i h. ba i (omega arith)) t lt (λ i h. ef i (omega arith)) in
    let l : length (steps at' f' t n) ≡ q - p = steps-length at' f' t n ∙ lt in
    rw (ih, ea n (omega arith), ef n (omega arith) (steps at' f' t n) l)
    (set-splice x p q (steps at' f' t n) pq qx l (at' n) (f' n (steps at' f' t n)) (ba n (omega arith)))

pub sweep-part : (x : List Float) (p q : ℕ) (g g' : ℕ → List Float → List Float) (n : ℕ) (t : List Float) → length t ≡ q - p
    → ((j : ℕ) (t : List Float) → length (g' j t) ≡ length t)
    → ((j : ℕ) → j < n → (t : List Float) → length t ≡ q - p → g j (splice x p q t) ≡ splice x p q (g' j t))
    → sweep g (splice x p q t) n ≡ splice x p q (sweep g' t n)
unfolding sweep
sweep-part x p q g g' zero t lt hl hg = refl
sweep-part x p q g g' (suc n) t lt hl hg =
    rw (sweep-part x p q g g' n t lt hl (λ j h. hg j (omega arith)))
    (hg n (omega arith) (sweep g' t n) (sweep-length g' t n hl ∙ lt))

-- ---- a list cut in two at a

pub part_first : (s : List Float) (a : ℕ) → take a s ≡ part s 0 a
part_first s a = let e : a ≡ a - 0 = omega arith in ap (λ (n : ℕ). take n s) e

module _ (s : List Float) (a p q : ℕ) where
  -- a part before the cut
  pub part_take : q ≤ a → q ≤ length s → part (take a s) p q ≡ part s p q
  part_take h l =
      let n : length (take a s) ≡ min a (length s) = length-take a s in
      let m : q ≤ length (take a s) = omega arith in
      ext_get_or nan _ _ (length_part (take a s) p q m ∙ sym (length_part s p q l))
      (λ k r. let b : k < q - p = omega (arith, length_part (take a s) p q m) in
      get_d_part (take a s) p q k b ∙ get_or-take a s (p + k) nan (omega arith) ∙ sym (get_d_part s p q k b))

  -- a part behind it
  pub part_drop : a ≤ p → part (drop a s) (p - a) (q - a) ≡ part s p q
  part_drop h =
      let e : a + (p - a) ≡ p = omega arith in
      let d : q - a - (p - a) ≡ q - p = omega arith in
      rw (d, drop-drop (p - a) a s, e) refl

  -- changed behind the cut, and joined again
  pub splice_drop : (x : List Float) → a ≤ p → take a s ++ splice (drop a s) (p - a) (q - a) x ≡ splice s p q x
  splice_drop x h =
      let e : a + (p - a) ≡ p = omega arith in
      let d : q - a - (p - a) ≡ q - p = omega arith in
      rw (d, drop-drop (p - a) a s, ← append_assoc, ← take-add, e) refl

-- ---- blocks

-- a block of a dense matrix of n rows and m columns
pub inner : (n m i j a b : ℕ) → i + a ≤ n → j + b ≤ m → Inside (corner n i j) a b (n * m)
inner n m i j a b hi hj k l hk hl = omega (arith, mul-le-mul_right n (lower j l b m hl hj))
  where
    lower : (j l b m : ℕ) → l < b → j + b ≤ m → j + l + 1 ≤ m
    lower j l b m h g = omega arith
