-- Text put in parts: one part after another is the two as one.
-- Assumes nothing.
use Prim.Native.Nat.{ℕ}
use mathlib.Core.Path.{◌≡◌, refl, ap, ◌∙◌}
use mathlib.Core.List.{List, [], ◌∷◌, ◌++◌}
use lib.ListN.{length, set, length-set}
use Rattle.text.specs.Putting.{next_place, put, past_text, Puts}

put_both : (out : List ℕ) (at : ℕ) (s t : List ℕ) → put out at (s ++ t) ≡ put (put out at s) (past_text at s) t
unfolding put past_text
put_both out at [] t = refl
put_both out at (x ∷ s) t = put_both (set out at x) (next_place at) s t

past_both : (at : ℕ) (s t : List ℕ) → past_text at (s ++ t) ≡ past_text (past_text at s) t
unfolding past_text
past_both at [] t = refl
past_both at (x ∷ s) t = past_both (next_place at) s t

-- nothing was put
pub none : {at : ℕ} {a : List ℕ} → Puts a a at at []
unfolding put past_text
none = record { buffer = refl; place = refl }

-- one byte
pub one : (a b : List ℕ) (at r x : ℕ) → b ≡ set a at x → r ≡ next_place at → Puts a b at r (x ∷ [])
unfolding put past_text
one a b at r x e f = record { buffer = e; place = f }

-- one part after another
pub both : {at m r : ℕ} {a b c s t : List ℕ} → Puts a b at m s → Puts b c m r t → Puts a c at r (s ++ t)
both {at} {m} {r} {a} {b} {c} {s} {t} p q =
    record {
      buffer = rw (put_both a at s t, ← p.buffer, ← p.place) q.buffer;
      place = rw (past_both at s t, ← p.place) q.place;
    }

-- an equal text
pub same : {at r : ℕ} {a b s t : List ℕ} → s ≡ t → Puts a b at r s → Puts a b at r t
same {at} {r} {a} {b} e p = rw e at p

-- the buffer is as long as it was
pub put-length : (out : List ℕ) (at : ℕ) (text : List ℕ) → length (put out at text) ≡ length out
unfolding put
put-length out at [] = refl
put-length out at (x ∷ text) = put-length (set out at x) (next_place at) text ∙ length-set out at x

pub long : {at r : ℕ} {a b s : List ℕ} → Puts a b at r s → length b ≡ length a
long {at} {r} {a} {b} {s} p = ap length p.buffer ∙ put-length a at s
