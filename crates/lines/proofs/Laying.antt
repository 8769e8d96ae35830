-- Text that was put is laid where it fits, and the place after it tells whether it does. So a text that is put twice, first only to find its length, is laid
-- where it fits. Assumes nothing.
use Prim.Native.Nat.{ℕ, suc, ◌+◌, ◌≤◌, ◌<◌, min}
use mathlib.Core.Path.{◌≡◌, refl, sym, ap, ◌∙◌}
use mathlib.Core.Bool.{Bool, true, false, cond}
use mathlib.Core.List.{List, [], ◌∷◌, ◌++◌}
use native.Mathlib.Omega.{arith}
use native.Mathlib.Numerals.{add-one}
use borrow.Author.Tests.{lt-ltb, ltb-true, ltb-false, le-leb, lt-leb}
use lib.Dec.{ltb}
use lib.ListN.{length, set, take, drop, length-set}
use lib.Seq.{set_split, append_snoc}
use Rattle.std.specs.Prelude.{Ok, Err}
use Rattle.factor.specs.Factor.{lay}
use Rattle.factor.proofs.Laying.{lay-none, two-laid}
use Rattle.text.specs.Putting.{last_place, next_place, put, past_text}
use Rattle.lines.specs.Lines.{written, laid_in}

-- ---- what is put within a buffer

-- one byte
one-laid : (out : List ℕ) (at x : ℕ) → at < length out → set out at x ≡ lay out at (x ∷ [])
one-laid out at x l =
    set_split out at x l ∙ ap (λ (k : ℕ). take at out ++ x ∷ drop k out) (sym (add-one at))
    ∙ sym (append_snoc (take at out) x (drop (at + 1) out))

next_low : (at : ℕ) → at < last_place → next_place at ≡ at + 1
unfolding next_place
next_low at l = rw (lt-ltb at last_place l) refl

-- a place is the one that the text's length gives, or the last one where that lies past it
past_is : (at : ℕ) (text : List ℕ) → at ≤ last_place → past_text at text ≡ min (at + length text) last_place
unfolding past_text next_place
past_is at [] l = omega arith
past_is at (x ∷ text) l = by (ltb at last_place) refl (λ h. past_is (at + 1) text h) (past_is at text l)
  where
    by : (b : Bool) → ltb at last_place ≡ b → (at + 1 ≤ last_place → past_text (at + 1) text ≡ min (at + 1 + length text) last_place) → past_text at text
        ≡ min (at + length text) last_place → past_text (cond b (at + 1) at) text ≡ min (at + suc (length text)) last_place
    by true e more same = more (omega (arith, ltb-true at last_place e)) ∙ omega arith
    by false e more same = same ∙ omega (arith, ltb-false at last_place e)

-- a text that fits is laid
put_lays : (out : List ℕ) (at : ℕ) (text : List ℕ) → at + length text ≤ length out → length out ≤ last_place → put out at text ≡ lay out at text
unfolding put
put_lays out at [] l h = lay-none out at
put_lays out at (x ∷ text) l h =
    let e : next_place at ≡ at + 1 = next_low at (omega arith) in
    let k : length (set out at x) ≡ length out = length-set out at x in
    let rest : put (set out at x) (at + 1) text ≡ lay (set out at x) (at + 1) text = put_lays (set out at x) (at + 1) text (omega arith) (omega arith) in
    rw e (two-laid out (x ∷ []) at (omega arith) text (set out at x) (put (set out at x) (at + 1) text) (at + 1) refl (one-laid out at x (omega arith)) rest)

-- ---- the two ways out: the place after a text that fits is its length, and that of a longer one lies past the buffer

pub too_short : (out text : List ℕ) (n : ℕ) → n ≡ length text → length out < n → (Err (record {}) ≡ written out text) × (out ≡ laid_in out text)
unfolding written laid_in
too_short out text n e l = rw (lt-leb (length text) (length out) (omega arith)) (refl, refl)

pub fitting : (out after text : List ℕ) (n : ℕ) → n ≡ length text → n ≤ length out → length out ≤ last_place → after ≡ put out 0 text
    → (Ok n ≡ written out text) × (after ≡ laid_in out text)
unfolding written laid_in
fitting out after text n e l h f =
    rw (le-leb (length text) (length out) (omega arith)) (ap Ok e, f ∙ put_lays out 0 text (omega arith) h)

-- where the place after a run is taken for the length
pub short : (out text : List ℕ) (n : ℕ) → n ≡ past_text 0 text → length out < n → (Err (record {}) ≡ written out text) × (out ≡ laid_in out text)
short out text n e l = too_short out text (length text) refl (omega (arith, past_is 0 text (omega arith)))

pub whole : (out after text : List ℕ) (n : ℕ) → n ≡ past_text 0 text → n ≤ length out → length out < last_place → after ≡ put out 0 text
    → (Ok n ≡ written out text) × (after ≡ laid_in out text)
whole out after text n e l h f =
    fitting out after text n (omega (arith, past_is 0 text (omega arith))) l (omega arith) f
