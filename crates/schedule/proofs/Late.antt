-- An original more at the end leaves the forward pass as it was, up to the step of its first key.
-- Assumes nothing.
use mathlib.Core.Path.{◌≡◌, refl, sym, ap, subst, subst₂, ◌∙◌}
use mathlib.Core.List.{List, [], ◌∷◌, ◌++◌, reverse, reverse-append}
use Prim.Native.Nat.{ℕ, zero, suc, ◌+◌, ◌-◌, ◌≤◌, ◌<◌}
use native.Mathlib.Nat.{zero-add}
use native.Mathlib.Omega.{arith}
use native.Mathlib.Decide.{dec_le}
use lib.ListN.{length, length-reverse}
use Rattle.schedule.specs.Count.{count, In, from}
use Rattle.schedule.specs.Pass.{ClosedFactor, State, at, state_after, full_pass}
use Rattle.schedule.specs.Plan.{plan}
use Rattle.schedule.specs.Late.{Alike, Arises, Agree, AtLeast, Late}
use Rattle.schedule.proofs.Counts.{count-reverse}
use Rattle.schedule.proofs.Sums.{from-append, from_snoc, length_from}
use Rattle.schedule.proofs.Runs.{from-lt, running, Later, later}
use Rattle.schedule.proofs.Demand3.{from_once}
use Rattle.schedule.proofs.Beside.{Paired, none, itself, exchanged, still, start_in, start_sum, Beside, next}

module _ (n : ℕ) (K K' : ℕ → List ℕ) (N : List ℕ) (m t : ℕ) (stay : (i : ℕ) → In i N → K i ≡ K' i) (late : AtLeast t (K' m)) where
  -- the keys below u, newest first
  abbrev first : ℕ → List ℕ
  first u = reverse (from 0 u)

  abbrev old : List ℕ → State
  old = state_after n K N

  abbrev new : List ℕ → State
  new = state_after n K' (N ++ (m ∷ []))

  start : Beside n K K' m [] (old []) (new [])
  unfolding state_after
  start = record {
    keys = refl;
    processed = λ j h. h;
    slots = λ g. start_sum g m N;
    given = λ i h. stay i (start_in i N h);
    messages = none;
  }

  first_next : (u : ℕ) → u ∷ first u ≡ first (suc u)
  first_next u = sym (ap reverse (from_snoc 0 u) ∙ reverse-append (from 0 u) ((0 + u) ∷ []) ∙ ap (λ (x : ℕ). x ∷ first u) (zero-add u))

  first-lt : (u j : ℕ) → In j (first u) → j < u
  first-lt u j h = from-lt j u (omega (arith, count-reverse j (from 0 u)))

  -- after the steps below u
  beside : (u : ℕ) → u ≤ suc t → Beside n K K' m (first u) (old (first u)) (new (first u))
  unfolding from state_after
  beside zero h = start
  beside (suc u) h =
      subst (λ (P : List ℕ). Beside n K K' m P (old P) (new P)) (first_next u) (one-step (beside u (omega arith)))
    where
      clear : (j : ℕ) → j < u → Dec (1 ≤ count j (K' m)) → count j (K' m) ≡ 0
      clear j l (yes i) = absurd (omega (arith, late j i))
      clear j l (no i) = omega arith

      one-step : Beside n K K' m (first u) (old (first u)) (new (first u)) → Beside n K K' m (u ∷ first u) (old (u ∷ first u)) (new (u ∷ first u))
      one-step b = next n K K' m (first u) (old (first u)) (new (first u)) b u (λ j i. clear j (first-lt u j i) (dec_le 1 (count j (K' m)))) (length (first u))

  below : (L : ℕ → List ℕ) (M : List ℕ) (s j : ℕ) → Arises (state_after n L M (first n)).messages s j → s < n
  below L M s j (l, e) =
      omega (
        arith,
        (running n L M (first n) (λ i. omega (arith, count-reverse i (from 0 n), from_once n i)) (first-lt n)).steps j l,
        length-reverse (from 0 n),
        length_from 0 n,
      )

  -- the steps from u on come after those below it
  split : (u : ℕ) → u ≤ n → reverse (from u (n - u)) ++ first u ≡ first n
  split u h =
      let e : u + (n - u) ≡ n = omega arith in
      sym (ap first (sym e) ∙ ap reverse (from-append 0 u (n - u)) ∙ reverse-append (from 0 u) (from (0 + u) (n - u))
      ∙ ap (λ (x : ℕ). reverse (from x (n - u)) ++ first u) (zero-add u))

  from_first : (L : ℕ → List ℕ) (M : List ℕ) (u : ℕ) → u ≤ n → Later u (state_after n L M (first u)).messages (state_after n L M (first n)).messages
  from_first L M u h =
      subst₂ (λ (v : ℕ) (P : List ℕ). Later v (state_after n L M (first u)).messages (state_after n L M P).messages)
      (length-reverse (from 0 u) ∙ length_from 0 u) (split u h) (later n L M (reverse (from u (n - u))) (first u))

  both_ways : (s j : ℕ) → s ≤ t → s < n
      → (Arises (old (first n)).messages s j → Arises (new (first n)).messages s j × Alike (at (old (first n)).messages j) (at (new (first n)).messages j))
      × (Arises (new (first n)).messages s j → Arises (old (first n)).messages s j)
  unfolding Later
  both_ways s j h l = go (from_first K N (suc s) (omega arith)) (from_first K' (N ++ (m ∷ [])) (suc s) (omega arith))
    where
      Both : List ClosedFactor → List ClosedFactor → Type 0
      Both f f' = (Arises f s j → Arises f' s j × Alike (at f j) (at f' j)) × (Arises f' s j → Arises f s j)

      p : Paired (old (first (suc s))).messages (new (first (suc s))).messages
      p = (beside (suc s) (omega arith)).messages

      go : Later (suc s) (old (first (suc s))).messages (old (first n)).messages → Later (suc s) (new (first (suc s))).messages (new (first n)).messages
          → Both (old (first n)).messages (new (first n)).messages
      go (rest, e, far) (rest', e', far') =
          subst₂ Both (sym e) (sym e') (still p (suc s) rest rest' far s j (omega arith), λ a. (still (exchanged p) (suc s) rest' rest far' s j (omega arith) a).0)

  agree : Agree t (plan n K N (from 0 n)).forward (plan n K' (N ++ (m ∷ [])) (from 0 n)).forward
  unfolding plan full_pass
  agree =
      record {
        arises = λ s j h a. (both_ways s j h (below K N s j a)).0 a;
        no_other = λ s j h a. (both_ways s j h (below K' (N ++ (m ∷ [])) s j a)).1 a;
      }

pub late : Late
late n K K' N m t stay from-t = agree n K K' N m t stay from-t

-- a pass agrees with itself
pub agree_itself : (t : ℕ) (messages : List ClosedFactor) → Agree t messages messages
agree_itself t messages = record { arises = λ s j h a. (a, itself (at messages j)); no_other = λ s j h a. a }
