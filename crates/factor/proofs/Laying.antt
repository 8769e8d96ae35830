-- A list laid into another from a place on, over any type: what then stands there, part by part and place by place. Assumes nothing.
use Prim.Native.Nat.{ℕ, ◌+◌, ◌-◌, ◌≤◌, ◌<◌}
use mathlib.Core.Path.{◌≡◌, sym, ap, ◌∙◌}
use mathlib.Core.List.{List, [], ◌++◌, append_assoc, append-nil}
use native.Mathlib.Omega.{arith}
use native.Mathlib.Numerals.{add-one}
use lib.ListN.{length, get_or, set, take, drop, replicate, length-append, length-drop, length-replicate, get_or-replicate, get_or-append}
use lib.Seq.{length-take-le, get_or-take, get_or-drop, get_or-append-add, ext_get_or, take_at, drop_at, drop-drop, take-length, drop-length, paste}
use lib.Seq.{paste-zero, paste-suc}
use Rattle.factor.specs.Factor.{lay}

module _ {A : Type 0} where
  -- a turn of a copy
  pub copy_more : (d₀ d : List A) (at : ℕ) (s : List A) (j : ℕ) (x z : A) → d ≡ paste d₀ at s j → x ≡ get_or s j z → at + j < length d₀ → j < length s
      → set d (at + j) x ≡ paste d₀ at s (j + 1)
  copy_more d₀ d at s j x z e ex h k = rw (e, ex) (paste-suc d₀ at s j z h k ∙ ap (λ (n : ℕ). paste d₀ at s n) (sym (add-one j)))

  -- after the last turn
  pub copy_done : (d₀ d : List A) (at : ℕ) (s : List A) (j : ℕ) → d ≡ paste d₀ at s j → j ≡ length s → d ≡ lay d₀ at s
  copy_done d₀ d at s j e l = e ∙ ap (λ (n : ℕ). paste d₀ at s n) l ∙ ap (λ (t : List A). take at d₀ ++ t ++ drop (at + length s) d₀) (take-length s)

  -- nothing laid
  pub lay-none : (l : List A) (at : ℕ) → l ≡ lay l at []
  lay-none l at = paste-zero l at []

  -- a list laid over all of another
  pub lay-whole : (d v : List A) → length v ≡ length d → lay d 0 v ≡ v
  lay-whole d v e =
      let z : 0 + length v ≡ length d = omega arith in
      ap (λ (k : ℕ). v ++ drop k d) z ∙ ap (λ (q : List A). v ++ q) (drop-length d) ∙ append-nil v

  -- what stands before the end of the list laid, and after it
  module _ (l vs : List A) (at : ℕ) (fits : at ≤ length l) where
    front : length (take at l ++ vs) ≡ at + length vs
    front = length-append (take at l) vs ∙ ap (λ (n : ℕ). n + length vs) (length-take-le at l fits)

    pub lay-take : take (at + length vs) (lay l at vs) ≡ take at l ++ vs
    lay-take = take_at (take at l ++ vs) (drop (at + length vs) l) (at + length vs) front

    pub lay-drop : drop (at + length vs) (lay l at vs) ≡ drop (at + length vs) l
    lay-drop = drop_at (take at l ++ vs) (drop (at + length vs) l) (at + length vs) front

    -- a list laid after another is the two laid as one
    pub lay-lay : (more : List A) (b : ℕ) → b ≡ at + length vs → lay (lay l at vs) b more ≡ lay l at (vs ++ more)
    lay-lay more b e =
        let n : at + length vs + length more ≡ at + length (vs ++ more) = omega (arith, length-append vs more) in
        let d : drop (at + length vs + length more) (lay l at vs) ≡ drop (at + length (vs ++ more)) l =
        sym (drop-drop (length more) (at + length vs) (lay l at vs)) ∙ ap (drop (length more)) lay-drop ∙ drop-drop (length more) (at + length vs) l
        ∙ ap (λ (k : ℕ). drop k l) n in
        rw (e, lay-take, d, append_assoc (take at l) vs more)

    pub two-laid : (more t r : List A) (b : ℕ) → b ≡ at + length vs → t ≡ lay l at vs → r ≡ lay t b more → r ≡ lay l at (vs ++ more)
    two-laid more t r b e et er = er ∙ rw et (lay-lay more b e)

  -- a list that fits keeps the length, and each place holds what was laid or what stood there
  module _ (l vs : List A) (at : ℕ) (fits : at + length vs ≤ length l) where
    low : at ≤ length l
    low = omega arith

    pub lay-length : length (lay l at vs) ≡ length l
    lay-length = length-append (take at l ++ vs) (drop (at + length vs) l) ∙ omega (arith, front l vs at low, length-drop (at + length vs) l)

    pub lay_in : (z : A) (k : ℕ) → k < length vs → get_or (lay l at vs) (at + k) z ≡ get_or vs k z
    lay_in z k h =
        get_or-append (take at l ++ vs) (drop (at + length vs) l) z (at + k) (omega (arith, front l vs at low))
        ∙ ap (λ (n : ℕ). get_or (take at l ++ vs) (n + k) z) (sym (length-take-le at l low))
        ∙ get_or-append-add (take at l) vs k z

    pub lay-before : (z : A) (i : ℕ) → i < at → get_or (lay l at vs) i z ≡ get_or l i z
    lay-before z i h =
        get_or-append (take at l ++ vs) (drop (at + length vs) l) z i (omega (arith, front l vs at low))
        ∙ get_or-append (take at l) vs z i (omega (arith, length-take-le at l low))
        ∙ get_or-take at l i z h

    pub lay-after : (z : A) (i : ℕ) → at + length vs ≤ i → get_or (lay l at vs) i z ≡ get_or l i z
    lay-after z i h =
        let n : ℕ = i - (at + length vs) in
        let e : i ≡ length (take at l ++ vs) + n = omega (arith, front l vs at low) in
        ap (λ (m : ℕ). get_or (lay l at vs) m z) e
        ∙ get_or-append-add (take at l ++ vs) (drop (at + length vs) l) n z
        ∙ get_or-drop (at + length vs) l n z
        ∙ ap (λ (m : ℕ). get_or l m z) (omega arith)

  -- the front of a list of equal entries
  pub front_replicate : (z : A) (n k : ℕ) → k ≤ n → take (k - 0) (drop 0 (replicate n z)) ≡ replicate k z
  front_replicate z n k l =
      let e : k - 0 ≡ k = omega arith in
      rw e
      (ext_get_or z (take k (replicate n z)) (replicate k z) (length-take-le k (replicate n z) (rw length-replicate l) ∙ sym (length-replicate k z))
      (λ i h.
      let m : i < k = omega (arith, length-take-le k (replicate n z) (rw length-replicate l)) in
      get_or-take k (replicate n z) i z m ∙ get_or-replicate n i z z (omega arith) ∙ sym (get_or-replicate k i z z m)))
