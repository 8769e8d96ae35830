-- The matrices of an elimination in the work store: a part that is changed changes one of them. Assumes nothing.
use Prim.Native.Nat.{ℕ, ◌+◌, ◌-◌, ◌*◌, ◌≤◌}
use mathlib.Core.Path.{◌≡◌, refl, ap, ◌∙◌, sym, subst}
use native.Mathlib.Nat.{mul-le-mul}
use mathlib.Core.List.{List, ◌++◌}
use native.Mathlib.Omega.{arith}
use lib.ListN.{length, take, drop}
use lib.Ieee.{Float}
use Rattle.matrix.specs.Views.{part, splice}
use Rattle.workspace.specs.Sums.{pick, change}
use Rattle.workspace.specs.Frames.{frame_of, work_numbers}
use Rattle.workspace.specs.declared.Part.{Part}
use Rattle.workspace.specs.declared.Part.TheVariants.{S, H, G, A, Xi, W}
use Rattle.workspace.specs.declared.Frame.{Frame}
use Rattle.workspace.proofs.Parts.{part_same, part-below, part-above, length_part, part_drop, splice_drop}
use Rattle.workspace.specs.Parts.{FrameLaid, matrices_in, part_from, part_to}

pub bounds : {f : Frame} {len : ℕ} → FrameLaid f len → (p : Part) → (part_from f p ≤ part_to f p) × (part_to f p ≤ len)
bounds l S = (omega arith, omega arith)
bounds l H = (omega arith, omega arith)
bounds l G = (omega arith, omega arith)
bounds l A = (omega arith, omega arith)
bounds l Xi = (omega arith, omega arith)
bounds l W = (omega arith, omega arith)

pub picked : (f : Frame) (t : List Float) (p : Part) → part t (part_from f p) (part_to f p) ≡ pick p (matrices_in f t)
picked f t S = refl
picked f t H = refl
picked f t G = refl
picked f t A = refl
picked f t Xi = refl
picked f t W = refl

module _ (f : Frame) (t x : List Float) (l : FrameLaid f (length t)) where
  pub cut-splice : (p : Part) (g : List Float → List Float) → length x ≡ part_to f p - part_from f p → x ≡ g (pick p (matrices_in f t))
      → matrices_in f (splice t (part_from f p) (part_to f p) x) ≡ change p g (matrices_in f t)
  unfolding change
  cut-splice S g n e =
      let above = part-above t 0 f.h x (omega arith) (omega arith) n in
      rw (
        part_same t 0 f.h x (omega arith) (omega arith) n,
        above f.h f.g (omega arith) (omega arith),
        above f.g f.a (omega arith) (omega arith),
        above f.a f.xi (omega arith) (omega arith),
        above f.xi f.w (omega arith)
            (omega arith),
        above f.w f.end (omega arith) (omega arith),
        ← e,
      )
  cut-splice H g n e =
      let below = part-below t f.h f.g x (omega arith) (omega arith) n in
      let above = part-above t f.h f.g x (omega arith) (omega arith) n in
      rw (
        part_same t f.h f.g x (omega arith) (omega arith) n,
        below 0 f.h (omega arith),
        above f.g f.a (omega arith) (omega arith),
        above f.a f.xi (omega arith) (omega arith),
        above f.xi f.w (omega arith) (omega arith),
        above f.w f.end (omega arith)
            (omega arith),
        ← e,
      )
  cut-splice G g n e =
      let below = part-below t f.g f.a x (omega arith) (omega arith) n in
      let above = part-above t f.g f.a x (omega arith) (omega arith) n in
      rw (
        part_same t f.g f.a x (omega arith) (omega arith) n,
        below 0 f.h (omega arith),
        below f.h f.g (omega arith),
        above f.a f.xi (omega arith) (omega arith),
        above f.xi f.w (omega arith) (omega arith),
        above f.w f.end (omega arith)
            (omega arith),
        ← e,
      )
  cut-splice A g n e =
      let below = part-below t f.a f.xi x (omega arith) (omega arith) n in
      let above = part-above t f.a f.xi x (omega arith) (omega arith) n in
      rw (
        part_same t f.a f.xi x (omega arith) (omega arith) n,
        below 0 f.h (omega arith),
        below f.h f.g (omega arith),
        below f.g f.a (omega arith),
        above f.xi f.w (omega arith) (omega arith),
        above f.w f.end (omega arith) (omega arith),
        ← e,
      )
  cut-splice Xi g n e =
      let below = part-below t f.xi f.w x (omega arith) (omega arith) n in
      let above = part-above t f.xi f.w x (omega arith) (omega arith) n in
      rw (
        part_same t f.xi f.w x (omega arith) (omega arith) n,
        below 0 f.h (omega arith),
        below f.h f.g (omega arith),
        below f.g f.a (omega arith),
        below f.a f.xi (omega arith),
        above f.w f.end (omega arith) (omega arith),
        ← e,
      )
  cut-splice W g n e =
      let below = part-below t f.w f.end x (omega arith) (omega arith) n in
      rw (
        part_same t f.w f.end x (omega arith) (omega arith) n,
        below 0 f.h (omega arith),
        below f.h f.g (omega arith),
        below f.g f.a (omega arith),
        below f.a f.xi (omega arith),
        below f.xi f.w (omega arith),
        ← e,
      )

-- ---- as the calls meet them

pub long : (f : Frame) (t : List Float) → FrameLaid f (length t) → (which : Part) (p q : ℕ) → p ≡ part_from f which → q ≡ part_to f which → length (part t p q)
    ≡ part_to f which - part_from f which
long f t l which p q ep eq =
    let e : q - p ≡ part_to f which - part_from f which = omega arith in
    length_part t p q (omega (arith, (bounds l which).1)) ∙ e

pub at_part : (f : Frame) (t x : List Float) (which : Part) (g : List Float → List Float) (p q : ℕ) → FrameLaid f (length t) → p ≡ part_from f which
    → q ≡ part_to f which
    → length x ≡ length (part t p q) → x ≡ g (part t p q) → matrices_in f (splice t p q x) ≡ change which g (matrices_in f t)
at_part f t x which g p q l ep eq lx ex =
    rw (ep, eq) (cut-splice f t x l which g (lx ∙ long f t l which p q ep eq) (ex ∙ ap g (rw (ep, eq) (picked f t which))))

-- the same where the store was cut in two before the part, and what the part becomes is said by the first piece
pub behind : (f : Frame) (t lo hi x : List Float) (which : Part) (g : List Float → List Float → List Float) (h : List Float → List Float) (a p q : ℕ)
    → FrameLaid f (length t) → a ≤ part_from f which
    → lo ≡ take a t → hi ≡ drop a t → p ≡ part_from f which - a → q ≡ part_to f which - a
    → length x ≡ length (part hi p q) → x ≡ g lo (part hi p q) → ((y : List Float) → g (take a t) y ≡ h y)
    → matrices_in f (lo ++ splice hi p q x) ≡ change which h (matrices_in f t)
behind f t lo hi x which g h a p q l low el eh ep eq lx ex same =
    let d : part hi p q ≡ part t (part_from f which) (part_to f which) = rw (eh, ep, eq) (part_drop t a (part_from f which) (part_to f which) low) in
    rw (el, eh, ep, eq, splice_drop t a (part_from f which) (part_to f which) x low)
    (at_part f t x which h (part_from f which) (part_to f which) l refl refl (lx ∙ ap length d)
    (rw (← el, ← d) ex ∙ same (part t (part_from f which) (part_to f which))))

-- the same store after a call that kept its length
pub relaid : (f : Frame) {m n : ℕ} → n ≡ m → FrameLaid f m → FrameLaid f n
relaid f e l = subst (λ (k : ℕ). FrameLaid f k) (sym e) l

-- a work store is enough for any frame within the limits whose rows are at most its kept columns
pub frame_laid : (u r d len : ℕ) → u + d ≤ 32 → r ≤ d → work_numbers ≤ len → FrameLaid (frame_of u r d) len
unfolding frame_of
frame_laid u r d len s rd h =
    record {
      of_s = refl;
      of_h = refl;
      of_g = refl;
      of_a = refl;
      of_xi = refl;
      of_w = refl;
      fits = omega (arith, mul-le-mul s s, mul-le-mul rd rd, mul-le-mul_r rd, mul-le-mul_l u rd);
      few_cleared = omega arith;
      few_rows = omega arith;
      few_kept = omega arith;
    }
  where
    mul-le-mul_r : {r d : ℕ} → r ≤ d → r * d ≤ d * d
    mul-le-mul_r {r} {d} h = mul-le-mul h (omega arith)

    mul-le-mul_l : (u : ℕ) {r d : ℕ} → r ≤ d → u * r ≤ u * d
    mul-le-mul_l u h = mul-le-mul (omega arith) h
