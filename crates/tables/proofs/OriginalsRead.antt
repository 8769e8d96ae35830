-- What the tables hold of a factor is that factor, and it fits an elimination that keeps or clears its keys. Assumes nothing.
use Prim.Native.Nat.{ℕ, zero, suc, ◌+◌, ◌-◌, ◌*◌, ◌≤◌, ◌<◌}
use mathlib.Core.Path.{◌≡◌, refl, ap, sym, ◌∙◌}
use mathlib.Core.Bool.{Bool, true, false, cond, ◌||◌}
use mathlib.Core.List.{List}
use native.Mathlib.Omega.{arith}
use native.Mathlib.Numerals.{add-one}
use lib.Ieee.{Float}
use lib.ListN.{length, get_or, take, drop, length-drop}
use lib.Seq.{length-take-le, get_or-take, get_or-drop, ext_get_or}
use Rattle.blocks.specs.Blocks.{column_of}
use Rattle.factor.specs.Limits.{max_total, max_factors, max_keys}
use Rattle.factor.specs.Factor.{key_at, size_of, first_column, width, a_numbers, numbers, fits}
use Rattle.factor.specs.declared.Factor.{Factor}
use Rattle.factor.proofs.Blocks.{first-none, first_more}
use Rattle.factor.proofs.Fitting.{fits-key, prior_touched, prior-rows}
use Rattle.graph.specs.Record.{factor_at, offset, valid}
use Rattle.graph.specs.declared.Graph.{Graph}
use Rattle.graph.proofs.Validity.{size-most, valid-variables, valid-count, valid-size, valid-factor, valid_touched, rows-most, width-most, offset-within}
use Rattle.slots.specs.Layouts.{member}
use Rattle.slots.specs.Tables.{head_of, head_keys, read_view}
use Rattle.slots.specs.declared.Head.{Head}
use Rattle.gaussian.specs.Asked.{KeyFits, HeadFits}
use Rattle.tables.specs.Originals.{width_of, original_view}
use Rattle.slots.specs.Views.{factor_numbers}
use Rattle.tables.specs.Heads.{Entered, Originals, original_head}

-- what is written later, past the places of originals, does not matter
pub originals_stay : (g : Graph) (keys heads keys' heads' : List ℕ) → valid g ≡ true → Originals g keys heads → length keys' ≡ length keys
    → length heads' ≡ length heads
    → ((p : ℕ) → p < max_keys * max_factors → get_or keys' p 0 ≡ get_or keys p 0) → ((i : ℕ) → i < max_factors → head_of heads' i ≡ head_of heads i)
    → Originals g keys' heads'
originals_stay g keys heads keys' heads' v o ek eh sk sh =
    record {
      long_keys = omega (arith, o.long_keys);
      long_heads = omega (arith, o.long_heads);
      entered = λ i l.
          let e = o.entered i l in
          record {
            head = sh i (omega (arith, valid-count g v)) ∙ e.head;
            full = e.full;
            key = λ j h. sk (max_keys * i + j) (omega (arith, valid-count g v, valid_touched g v i l)) ∙ e.key j h;
          };
    }

-- a factor's numbers by its rows and its width
numbers_by : (sizes : List ℕ) (f : Factor) → factor_numbers f.rows (width_of sizes f) ≡ numbers sizes f
unfolding numbers a_numbers
numbers_by sizes f = go f.prior f.rows (width sizes f)
  where
    go : (p : Bool) (y d : ℕ) → y * cond p 0 d + y + y * y ≡ cond p 0 (y * d) + y + y * y
    go true y d = omega arith
    go false y d = refl

-- the columns up to a key are the same in the keys of a slot and in those of the factor
column_is : (sizes keys all : List ℕ) (n : ℕ) → ((j : ℕ) → j < n → get_or keys j 0 ≡ get_or all j 0) → column_of sizes keys n ≡ first_column sizes all n
unfolding column_of
column_is sizes keys all zero h = sym (first-none sizes all)
column_is sizes keys all (suc n) h =
    let a : column_of sizes keys n ≡ first_column sizes all n = column_is sizes keys all n (λ j l. h j (omega arith)) in
    let e : get_or keys n 0 ≡ get_or all n 0 = h n (omega arith) in
    rw (a, e) (sym (first_more sizes all n (get_or all n 0) (size_of sizes (get_or all n 0)) refl refl) ∙ ap (first_column sizes all) (add-one n))

module _ (g : Graph) (v : valid g ≡ true) (keys heads : List ℕ) (o : Originals g keys heads) (i : ℕ) (l : i < g.count) where
  abbrev f : Factor
  f = factor_at g i

  abbrev h : Head
  h = original_head g i

  entry : Entered g keys heads i
  entry = o.entered i l

  inside : max_keys * i + f.touched ≤ length keys
  inside = omega (arith, valid-count g v, valid_touched g v i l, o.long_keys)

  pub keys-are : head_keys keys h ≡ take f.touched f.keys
  keys-are =
      let n : h.first + h.count - h.first ≡ f.touched = omega arith in
      let a : length (take f.touched (drop (max_keys * i) keys))
      ≡ f.touched = length-take-le f.touched (drop (max_keys * i) keys) (rw (length-drop (max_keys * i) keys) (omega (arith, inside))) in
      let b : length (take f.touched f.keys) ≡ f.touched = length-take-le f.touched f.keys (omega (arith, entry.full, valid_touched g v i l)) in
      rw n (ext_get_or 0 (take f.touched (drop (max_keys * i) keys)) (take f.touched f.keys) (a ∙ sym b)
      (λ j k.
      let q : j < f.touched = omega arith in
      get_or-take f.touched (drop (max_keys * i) keys) j 0 q ∙ get_or-drop (max_keys * i) keys j 0 ∙ entry.key j q
      ∙ sym (get_or-take f.touched f.keys j 0 q)))

  pub original_view_lem : (factors messages : List Float) → read_view factors messages keys (head_of heads i) ≡ original_view g factors i
  unfolding original_view
  original_view_lem factors messages = rw (entry.head, keys-are, numbers_by g.sizes f)

  module _ (kept cleared : List ℕ) (placed : (j : ℕ) → j < f.touched → (member (key_at f j) cleared || member (key_at f j) kept) ≡ true) where
    fit : fits g.sizes g.variables f ≡ true
    fit = valid-factor g v i l

    key_fits_lem : (j : ℕ) → j < f.touched → KeyFits kept cleared g.sizes (key_at f j)
    key_fits_lem j k =
        let b : key_at f j < g.variables = fits-key g.sizes g.variables f fit j k in
        record {
          listed = omega (arith, b, valid-variables g v);
          small = size-most _ (valid-size g v (key_at f j) b);
          placed = placed j k;
        }

    of_prior : f.prior ≡ true → (0 < f.touched) × (get_or g.sizes (get_or keys (max_keys * i) 0) 0 ≡ f.rows)
    of_prior p =
        let t : f.touched ≡ 1 = prior_touched g.sizes g.variables f fit p in
        let e : max_keys * i + 0 ≡ max_keys * i = omega arith in
        let k : get_or keys (max_keys * i) 0 ≡ key_at f 0 = rw e at (entry.key 0 (omega arith)) in
        (omega arith, rw k (sym (prior-rows g.sizes g.variables f fit p)))

    of_likelihood : f.prior ≡ false → column_of g.sizes (head_keys keys h) f.touched ≡ width_of g.sizes f
    of_likelihood p = rw (keys-are, p) (column_is g.sizes (take f.touched f.keys) f.keys f.touched
        (λ j k. get_or-take f.touched f.keys j 0 k))

    narrow : width_of g.sizes f ≤ max_total
    narrow = go f.prior (width-most g v f fit)
      where
        go : (p : Bool) → width g.sizes f ≤ max_total → cond p 0 (width g.sizes f) ≤ max_total
        go true w = omega arith
        go false w = w

    -- a store that has the numbers of all factors has those of each
    pub original-fits : (len : ℕ) → offset g g.count ≤ len → HeadFits kept cleared g.sizes keys len (head_of heads i)
    original-fits len store =
        rw entry.head
        (record {
          listed = inside;
          stored = rw (numbers_by g.sizes f) (omega (arith, offset-within g i g.count l));
          count = omega (arith, valid_touched g v i l);
          rows = omega (arith, rows-most g v f fit);
          width = narrow;
          of_prior = of_prior;
          of_likelihood = of_likelihood;
          known = λ j k. rw (entry.key j k) (key_fits_lem j k);
        })
