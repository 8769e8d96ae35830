-- `factor::Factor::find` meets its contract: the block at the place that the lookup tells, where the key stands. Assumes nothing.
use Prim.Native.Nat.{◌<◌, ◌-◌, ℕ, min}
use mathlib.Core.List.{List}
use mathlib.Core.Path.{◌≡◌, sym, ◌∙◌, ap}
use native.Mathlib.Omega.{arith}
use borrow.Author.Rules.{rules}
use lib.ListN.{length, take}
use lib.Seq.{get_or-take}
use Rattle.std.specs.Prelude.{Some, None}
use Rattle.factor.proofs.Lookups.{lent, place-within, place-has}
use Rattle.factor.specs.Factor.{find, first_column, lookup, size_of, key_at}
use Rattle.factor.specs.Limits.{max_keys}
use Rattle.factor.specs.declared.Factor.{Factor}
use Rattle.factor.specs.declared.Lookup.{Lookup}
use Rattle.factor.specs.declared.lists.Looked.{Looked}
use Rattle.factor.proofs.Factor.find.Goals as goal

-- over plain values: the two ways out
module _ (sizes : List ℕ) (f : Factor) (key : ℕ) (r : Looked) (used : ℕ) (full : length f.keys ≡ max_keys) (few : used ≡ min f.touched max_keys)
    (told : r ≡ lookup (take used f.keys) key) where
  -- the places lent are those of the factor's keys
  of_keys : r ≡ lookup (take f.touched f.keys) key
  of_keys =
      let same : used ≡ used - 0 = omega arith in
      lent f.keys key f.touched used r (omega arith) (told ∙ ap (λ (n : ℕ). lookup (take n f.keys) key) same)

  absent : r.place ≡ None → ◌≡◌ {A = Lookup} (record { found = None; read = r.read }) (find sizes f key)
  absent n = let e = of_keys in rw (sym e, n)

  module _ (j : ℕ) (at : r.place ≡ Some j) where
    within : j < max_keys
    within = let l : j < length f.keys = (place-within f.keys key f.touched j (rw (sym of_keys) at)).1 in omega arith

    stands : key ≡ key_at f j
    stands =
        let e : (lookup (take f.touched f.keys) key).place ≡ Some j = rw (sym of_keys) at in
        let l : j < f.touched = (place-within f.keys key f.touched j e).0 in
        sym (place-has (take f.touched f.keys) key j e).1 ∙ get_or-take f.touched f.keys j 0 l

    present : (first size : ℕ) → first ≡ first_column sizes f.keys j → size ≡ size_of sizes key
        → ◌≡◌ {A = Lookup} (record { found = Some (first, size); read = r.read }) (find sizes f key)
    present first size ef es = let e = of_keys in rw (sym e, at, ef, es ∙ ap (size_of sizes) stands)

pub returns-in_default : goal.returns-in_default
returns-in_default c =
    let full : length c.args.self.keys ≡ max_keys = search rules in
    let few : c.min-used.result ≡ min c.args.self.touched max_keys = omega arith in
    absent c.args.sizes c.args.self c.args.key c.lookup-place.result c.min-used.result full few c.lookup-place.ensures c.in_default.is

pub first_column-requires : goal.first_column-requires
first_column-requires c =
    let full : length c.args.self.keys ≡ max_keys = search rules in
    let few : c.min-used.result ≡ min c.args.self.touched max_keys = omega arith in
    let l : c.in-Some.at < max_keys = within c.args.sizes c.args.self c.args.key c.lookup-place.result c.min-used.result full few c.lookup-place.ensures
    c.in-Some.at c.in-Some.is in
    omega arith

pub returns : goal.returns
returns c =
    let full : length c.args.self.keys ≡ max_keys = search rules in
    let few : c.min-used.result ≡ min c.args.self.touched max_keys = omega arith in
    present c.args.sizes c.args.self c.args.key c.lookup-place.result c.min-used.result full few c.lookup-place.ensures c.in-Some.at c.in-Some.is _ _
    c.first_column.ensures.0 c.size_of.ensures.0
