-- A finished factorisation satisfies Golub and Van Loan's equations in its own entries, and all above the diagonal is as given. Assumes nothing.
use Prim.Native.Nat.{ℕ, zero, suc, ◌+◌, ◌-◌, ◌≤◌, ◌<◌}
use mathlib.Core.Path.{◌≡◌, refl, ap, ap₂, ◌∙◌, sym, subst}
use mathlib.Core.List.{List}
use mathlib.Core.Logic.{◌⊎◌, inl, inr, ⊎_elim}
use native.Mathlib.Decide.{dec_lt}
use native.Mathlib.Omega.{arith}
use lib.ListN.{set, get_or, length, length-set}
use lib.Seq.{get_or-set_same, get_or-set_other}
use lib.Ieee.{Float, nan, binary64, mul, div}
use Rattle.matrix.specs.Views.{place, entry, Inside, Apart, flip}
use Rattle.matrix.specs.Sums.{terms, deduct_of}
use Rattle.cholesky.specs.Factor.{pivot_of, Left, whole, stuck, below, rooted, factor_column, factor, reduced}
use Rattle.matrix.specs.declared.View.{View}
use Rattle.std.proofs.Common.{Option, Some, None}
use Rattle.matrix.proofs.Agreement.{deduct-same}
use Rattle.matrix.proofs.Entries.{steps-length, steps_other, steps-at}

-- the given entry (i, j) of s less l(i, k) times l(j, k) of t, for rising k below j
pub rest : List Float → List Float → View → ℕ → ℕ → Float
rest s t v i j = deduct_of (entry s v i j) t v i t (flip v) j 0 j

-- what the first j columns hold, and that the others are as given
pub record Holds (v : View) (n : ℕ) (s t : List Float) (j : ℕ) : Type 0 where
  pub long : length t ≡ length s
  pub pivot : (c : ℕ) → c < j → c < n → pivot_of (rest s t v c c) (entry s v c c) ≡ Some (entry t v c c)
  pub under : (i c : ℕ) → c < j → c < i → i < n → entry t v i c ≡ div binary64 (rest s t v i c) (entry t v c c)
  pub given : (i c : ℕ) → i < n → c < n → (j ≤ c) ⊎ (i < c) → entry t v i c ≡ entry s v i c

-- the rest at (i, j) reads rows i and j left of column j alone
rest_same : (s t u : List Float) (v : View) (i j : ℕ) → ((k : ℕ) → k < j → entry u v i k ≡ entry t v i k)
    → ((k : ℕ) → k < j → entry u v j k ≡ entry t v j k) → rest s u v i j ≡ rest s t v i j
unfolding rest deduct_of
rest_same s t u v i j hi hj =
    deduct-same (entry s v i j) (λ k. terms u v i u (flip v) j (0 + k)) (λ k. terms t v i t (flip v) j (0 + k)) j
    (λ k p. ap₂ (mul binary64) (hi (0 + k) (omega arith)) (turn u k ∙ hj (0 + k) (omega arith) ∙ sym (turn t k)))
  where
    turn : (w : List Float) (k : ℕ) → entry w (flip v) (0 + k) j ≡ entry w v j (0 + k)
    turn w k = ap (λ (p : ℕ). get_or w p nan) (omega arith)

never : (t u : List Float) → stuck t ≡ whole u → ⊥
never t u e = let z : ◌≡◌ {A = ℕ} 0 1 = cc in omega arith

module _ (v : View) (n : ℕ) (s : List Float) (ap' : Apart v n n) (inside : Inside v n n (length s)) where
  -- a column's stores touch no entry outside it, nor one above its pivot, nor one past the rows that are done
  kept : (t : List Float) (r : Float) (j d : ℕ) → j + d < n → (a b : ℕ) → a < n → b < n → (b ≡ j → (a < j) ⊎ (j + d < a))
      → entry (below v j (set t (place v j j) r) d) v a b ≡ entry t v a b
  unfolding below
  kept t r j d h a b ha hb out =
      steps_other _ _ (set t (place v j j) r) (place v a b) d
      (λ k p e. let q : (j + suc k ≡ a) × (j ≡ b) = ap' (j + suc k) j a b (omega arith) (omega arith) ha hb e in ⊎_elim (λ z. omega arith)
      (λ z. omega arith) (out (sym q.1)))
      ∙ get_or-set_other t (place v j j) (place v a b) r nan
      (λ e. let q : (a ≡ j) × (b ≡ j) = ap' a b j j ha hb (omega arith) (omega arith) e in ⊎_elim (λ z. omega arith) (λ z. omega arith) (out q.1))

  pivot-at : (t : List Float) (r : Float) (j d : ℕ) → length t ≡ length s → j + d < n → entry (below v j (set t (place v j j) r) d) v j j ≡ r
  unfolding below
  pivot-at t r j d e h =
      steps_other _ _ (set t (place v j j) r) (place v j j) d (λ k p q. let z : (j + suc k ≡ j) × (j ≡ j) = ap' (j + suc k) j j j (omega arith)
      (omega arith) (omega arith) (omega arith) q in omega arith)
      ∙ get_or-set_same t (place v j j) r nan (rw e (inside j j (omega arith) (omega arith)))

  -- what is taken the root of, and what is divided, is the rest
  reduced-is : (t u : List Float) (j d i : ℕ) (r : Float) → Holds v n s t j → j + d < n → i < n → u ≡ below v j (set t (place v j j) r) d → j + d < i
      → reduced u v i j ≡ rest s t v i j
  unfolding rest reduced
  reduced-is t u j d i r H h hi eu ji =
      let k : (a b : ℕ) → a < n → b < j → entry u v a b ≡ entry t v a b = λ a b ha hb. rw eu
      (kept t r j d h a b ha (omega arith) (λ e. absurd (omega arith))) in
      let g : entry u v i j ≡ entry s v i j = rw eu (kept t r j d h i j hi (omega arith) (λ e. inr (omega arith)))
      ∙ H.given i j hi (omega arith) (inl (omega arith)) in
      ap (λ (x : Float). deduct_of x u v i u (flip v) j 0 j) g ∙ rest_same s t u v i j (λ a p. k i a hi p) (λ a p. k j a (omega arith) p)

  stored : (t : List Float) (r : Float) (j d : ℕ) → Holds v n s t j → j + suc d < n
      → entry (below v j (set t (place v j j) r) (n - suc j)) v (j + suc d) j
      ≡ div binary64 (reduced (below v j (set t (place v j j) r) d) v (j + suc d) j) (entry (below v j (set t (place v j j) r) d) v j j)
  unfolding below
  stored t r j d H h =
      steps-at (λ k. place v (j + suc k) j) (λ k u. div binary64 (reduced u v (j + suc k) j) (entry u v j j)) (set t (place v j j) r) d (n - suc j)
      (λ k p q e. let z : (j + suc k ≡ j + suc d) × (j ≡ j) = ap' (j + suc k) j (j + suc d) j (omega arith) (omega arith) h (omega arith) e in omega arith)
      (omega arith) (rw (length-set, H.long) (inside (j + suc d) j h (omega arith)))

  under_row : (t : List Float) (r : Float) (j d : ℕ) → Holds v n s t j → j + suc d < n
      → entry (below v j (set t (place v j j) r) (n - suc j)) v (j + suc d) j ≡ div binary64 (rest s t v (j + suc d) j) r
  under_row t r j d H h =
      stored t r j d H h
      ∙ ap₂ (div binary64) (reduced-is t (below v j (set t (place v j j) r) d) j d (j + suc d) r H (omega arith) h refl (omega arith))
      (pivot-at t r j d H.long (omega arith))

  under_at : (t : List Float) (r : Float) (j i : ℕ) → Holds v n s t j → j < i → i < n
      → entry (below v j (set t (place v j j) r) (n - suc j)) v i j ≡ div binary64 (rest s t v i j) r
  under_at t r j i H ji hi =
      let e : j + suc (i - suc j) ≡ i = omega arith in
      subst (λ (k : ℕ). entry (below v j (set t (place v j j) r) (n - suc j)) v k j ≡ div binary64 (rest s t v k j) r) e
      (under_row t r j (i - suc j) H (omega arith))

  module _ (t : List Float) (r : Float) (j : ℕ) (hj : j < n) (H : Holds v n s t j) (er : pivot_of (reduced t v j j) (entry t v j j) ≡ Some r) where
    next : List Float
    next = below v j (set t (place v j j) r) (n - suc j)

    same : (a b : ℕ) → a < n → b < j → entry next v a b ≡ entry t v a b
    unfolding next
    same a b ha hb = kept t r j (n - suc j) (omega arith) a b ha (omega arith) (λ e. absurd (omega arith))

    rests : (i c : ℕ) → i < n → c ≤ j → rest s next v i c ≡ rest s t v i c
    rests i c hi hc = rest_same s t next v i c (λ k p. same i k hi (omega arith)) (λ k p. same c k (omega arith) (omega arith))

    root_rest : pivot_of (rest s t v j j) (entry s v j j) ≡ Some r
    unfolding rest reduced
    root_rest = rw (H.given j j hj hj (inl (omega arith))) at er

    pivot-next : entry next v j j ≡ r
    unfolding next
    pivot-next = pivot-at t r j (n - suc j) H.long (omega arith)

    pivots : (c : ℕ) → c < suc j → c < n → Dec (c < j) → pivot_of (rest s next v c c) (entry s v c c) ≡ Some (entry next v c c)
    pivots c p q (yes l) = rw (rests c c q (omega arith), same c c q l) (H.pivot c l q)
    pivots c p q (no l) = let e : c ≡ j = omega arith in rw (e, rests j j hj (omega arith), pivot-next) root_rest

    under_next : (i : ℕ) → j < i → i < n → entry next v i j ≡ div binary64 (rest s t v i j) r
    unfolding next
    under_next i a b = under_at t r j i H a b

    steps-long : length next ≡ length s
    unfolding next below
    steps-long = steps-length _ _ (set t (place v j j) r) (n - suc j) ∙ length-set t (place v j j) r ∙ H.long

    unders : (i c : ℕ) → c < suc j → c < i → i < n → Dec (c < j) → entry next v i c ≡ div binary64 (rest s next v i c) (entry next v c c)
    unders i c p q l (yes h) = rw (rests i c l (omega arith), same i c l h, same c c (omega arith) h) (H.under i c h q l)
    unders i c p q l (no h) =
        let e : c ≡ j = omega arith in
        rw (e, rests i j l (omega arith), pivot-next) (under_next i (omega arith) l)

    column_holds : Holds v n s next (suc j)
    unfolding next
    column_holds =
        record {
          long = steps-long;
          pivot = λ c p q. pivots c p q (dec_lt c j);
          under = λ i c p q l. unders i c p q l (dec_lt c j);
          given =
              λ i c p q o.
              kept t r j (n - suc j) (omega arith) i c p q (λ e. ⊎_elim (λ z. absurd (omega arith)) (λ z. inl (omega arith)) o)
              ∙ H.given i c p q (⊎_elim (λ z. inl (omega arith)) inr o);
        }

  -- the theorem: where no pivot is refused, the end holds Golub and Van Loan's equations
  rooted_holds : (t u : List Float) (j : ℕ) → j < n → Holds v n s t j → (x : Option Float) → pivot_of (reduced t v j j) (entry t v j j) ≡ x
      → rooted v j t (n - suc j) x ≡ whole u → Holds v n s u (suc j)
  unfolding rooted next
  rooted_holds t u j hj H (Some r) e g =
      let w : below v j (set t (place v j j) r) (n - suc j) ≡ u = cc in
      subst (λ (y : List Float). Holds v n s y (suc j)) w (column_holds t r j hj H e)
  rooted_holds t u j hj H None e g = absurd (never t u g)

  pub factor_holds : (j : ℕ) → j ≤ n → (u : List Float) → factor v n s j ≡ whole u → Holds v n s u j
  unfolding factor factor_column
  factor_holds zero h u e =
      let w : s ≡ u = cc in
      subst (λ (y : List Float). Holds v n s y 0) w (record {
        long = refl;
        pivot = λ c p q. absurd (omega arith);
        under = λ i c p q l. absurd
            (omega arith);
        given = λ i c p q o. refl;
      })
  factor_holds (suc j) h u e = go (factor v n s j) refl e (factor_holds j (omega arith))
    where
      go : (F : Left) → factor v n s j ≡ F → factor_column v j (n - suc j) F ≡ whole u → ((w : List Float) → factor v n s j ≡ whole w → Holds v n s w j)
          → Holds v n s u (suc j)
      go (whole t) f g ih = rooted_holds t u j (omega arith) (ih t f) (pivot_of (reduced t v j j) (entry t v j j)) refl g
      go (stuck t) f g ih = absurd (never t u g)

  -- each pivot, a refused one too, is compared with its diagonal entry as it was given, whatever the columns before it did
  pub by_given : (j : ℕ) → j < n → (t : List Float) → factor v n s j ≡ whole t
      → factor v n s (suc j) ≡ rooted v j t (n - suc j) (pivot_of (rest s t v j j) (entry s v j j))
  unfolding factor factor_column rest reduced
  by_given j h t e = rw (e, (factor_holds j (omega arith) t e).given j j h h (inl (omega arith)))
