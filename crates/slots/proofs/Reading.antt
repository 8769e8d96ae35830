-- The slots of a list, read from the tables and the stores one by one, are the factors that the definition takes. Assumes nothing.
use Prim.Native.Nat.{ℕ, ◌+◌, ◌-◌, ◌≤◌, ◌<◌}
use mathlib.Core.Path.{◌≡◌, refl, ap, ◌∙◌, sym, subst}
use mathlib.Core.Bool.{Bool, true, false, cond}
use mathlib.Core.List.{List}
use native.Mathlib.Omega.{arith}
use native.Mathlib.Numerals.{add-one}
use lib.ListN.{length, get_or, drop, length-take}
use lib.Seq.{get_or-take, get_or-drop}
use lib.Ieee.{Float}
use Rattle.matrix.specs.Views.{part}
use Rattle.workspace.specs.Sums.{Sums, turns}
use Rattle.workspace.specs.declared.Frame.{Frame}
use Rattle.workspace.proofs.Parts.{length_part}
use Rattle.slots.specs.Views.{with_view, with_views, rows_of, rows_of_all, view_of}
use Rattle.slots.specs.Tables.{head_keys, read_view, view_at, head_of, rows_by, rows_by_all}
use Rattle.slots.specs.Fitting.{Fitted, SlotReady}
use Rattle.slots.specs.declared.Branch.{Branch}
use Rattle.slots.specs.declared.layout.Layout.{Layout}
use Rattle.slots.specs.declared.Head.{Head}

-- the numbers that are read have the length that the head says
pub refit : {f : Frame} {m : Layout} {branch : Branch} {row : ℕ} {p : Bool} {keys : List ℕ} {y d t n : ℕ} (s u : List Float) (at : ℕ) → u
    ≡ part s at (at + n) → at + n ≤ length s
    → Fitted f m branch row p keys y d t n → Fitted f m branch row p keys y d t (length u)
refit {f} {m} {branch} {row} {p} {keys} {y} {d} {t} {n} s u at e h r =
    let g : n ≡ length u = rw e (sym (length_part s at (at + n) h ∙ omega arith)) in
    subst (λ (k : ℕ). Fitted f m branch row p keys y d t k) g r

-- the first key of a slot
first_key_lem : (keys : List ℕ) (h : Head) → 0 < length (head_keys keys h) → get_or (head_keys keys h) 0 0 ≡ get_or keys h.first 0
first_key_lem keys h s =
    let c : 0 < h.first + h.count - h.first = omega (arith, length-take (h.first + h.count - h.first) (drop h.first keys)) in
    let e : h.first + 0 ≡ h.first = omega arith in
    get_or-take (h.first + h.count - h.first) (drop h.first keys) 0 0 c ∙ get_or-drop h.first keys 0 0 ∙ ap (λ (k : ℕ). get_or keys k 0) e

pub rows_of_view : (m : Layout) (p : Bool) (keys : List ℕ) (key y d : ℕ) (t : List Float) → (p ≡ true → get_or m.size (get_or keys 0 0) 0 ≡ y)
    → (p ≡ true → get_or keys 0 0 ≡ key)
    → cond p (cond (get_or m.cleared key false) 0 y) y ≡ rows_of m (view_of p keys y d t)
rows_of_view m true keys key y d t h k = rw (← k refl, h refl)
rows_of_view m false keys key y d t h k = refl

-- the key of a prior is where its head says
pub prior-key : {f : Frame} {m : Layout} {branch : Branch} {row : ℕ} {factors messages : List Float} {keys : List ℕ} {t : ℕ} {h : Head}
    → SlotReady f m branch row factors messages keys t h → h.prior ≡ true
    → (h.first < length keys) × (get_or keys h.first 0 < 32)
prior-key {keys = keys} {h = h} r e =
    let s = r.fitted.some e in
    (omega (arith, r.listed, length-take (h.first + h.count - h.first) (drop h.first keys)), rw (← first_key_lem keys h s) (r.fitted.known 0 s).listed)

-- the rows by a head alone are those of the factor
pub rows_is : {f : Frame} {m : Layout} {branch : Branch} {row : ℕ} {factors messages : List Float} {keys : List ℕ} {t : ℕ} {h : Head}
    → SlotReady f m branch row factors messages keys t h
    → rows_by m keys h ≡ rows_of m (read_view factors messages keys h)
unfolding rows_by
rows_is {m = m} {keys = keys} {h = h} r =
    rows_of_view m h.prior (head_keys keys h) (get_or keys h.first 0) h.rows h.width _ r.fitted.of_prior
    (λ e. first_key_lem keys h (r.fitted.some e))

pub view_read : (branch : Branch) (f : Frame) (m : Layout) (row : ℕ) (p : Bool) (keys : List ℕ) (y d : ℕ) (t u : List Float) (σ σ' : Sums) → t ≡ u
    → σ' ≡ with_view branch f m row (view_of p keys y d t) σ
    → σ' ≡ with_view branch f m row (view_of p keys y d u) σ
view_read branch f m row p keys y d t u σ σ' e g = rw e at g

pub re_ready : {f : Frame} {m : Layout} {branch : Branch} {row row' : ℕ} {factors messages : List Float} {keys : List ℕ} {t t' : ℕ} {h h' : Head}
    → row' ≡ row → t' ≡ t → h' ≡ h
    → SlotReady f m branch row factors messages keys t h → SlotReady f m branch row' factors messages keys t' h'
re_ready er et eh r = rw (er, et, eh) r

-- ---- one slot more

pub count-more : (m : Layout) (keys heads slots : List ℕ) (i rows more : ℕ) (h : Head) → rows ≡ rows_by_all m keys heads slots i → h
    ≡ head_of heads (get_or slots i 0) → more ≡ rows_by m keys h
    → rows + more ≡ rows_by_all m keys heads slots (i + 1)
unfolding rows_by_all
count-more m keys heads slots i rows more h er eh e = rw (e, eh, er, add-one i)

rows_few : (p b : Bool) (y : ℕ) → y ≤ 32 → cond p (cond b 0 y) y ≤ 32
rows_few true true y h = omega arith
rows_few true false y h = h
rows_few false b y h = h

pub rows_bound : (m : Layout) (keys : List ℕ) (h : Head) → h.rows ≤ 32 → rows_by m keys h ≤ 32
unfolding rows_by
rows_bound m keys h l = rows_few h.prior (get_or m.cleared (get_or keys h.first 0) false) h.rows l

module _ (m : Layout) (factors messages : List Float) (keys heads slots : List ℕ) (i row : ℕ) (h : Head) (eh : h ≡ head_of heads (get_or slots i 0))
    (er : row ≡ rows_of_all m (view_at factors messages keys heads slots) i) where
  pub rows_more : (row' : ℕ) → row' ≡ row + rows_of m (read_view factors messages keys h) → row' ≡ rows_of_all m (view_at factors messages keys heads slots) (i + 1)
  unfolding rows_of_all view_at
  rows_more row' e = rw (e, eh, er, add-one i)

  pub views-more : (branch : Branch) (f : Frame) (σ₀ σ σ' : Sums) → σ ≡ with_views branch f m (view_at factors messages keys heads slots) σ₀ i → σ'
      ≡ with_view branch f m row (read_view factors messages keys h) σ
      → σ' ≡ with_views branch f m (view_at factors messages keys heads slots) σ₀ (i + 1)
  unfolding with_views turns view_at
  views-more branch f σ₀ σ σ' es e = rw (e, eh, er, add-one i, es)
