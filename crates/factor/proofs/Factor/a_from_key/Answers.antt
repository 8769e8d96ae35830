-- `factor::Factor::a_from_key` meets its contract: a block that is found ends within the width. Assumes nothing.
use Prim.Native.Nat.{◌*◌, ◌+◌, ◌≤◌, ℕ}
use mathlib.Core.List.{List}
use mathlib.Core.Path.{◌∙◌, ◌≡◌, ap, sym}
use native.Mathlib.Nat.{mul-le-mul_right}
use native.Mathlib.Omega.{arith}
use lib.ListN.{length}
use Rattle.std.specs.Prelude.{Some}
use Rattle.factor.proofs.Lookups.{found-ends}
use Rattle.factor.specs.Factor.{find, width}
use Rattle.factor.specs.declared.Factor.{Factor}
use Rattle.factor.specs.declared.Lookup.{Lookup}
use Rattle.factor.proofs.Factor.a_from_key.Goals as goal

-- a block that is found ends within A
end_fits : (sizes : List ℕ) (f : Factor) (key first size y len : ℕ) (r : Lookup) → r ≡ find sizes f key → r.found ≡ Some (first, size) → y ≡ f.rows
    → width sizes f * f.rows ≤ len → first * y + size * y ≤ len
end_fits sizes f key first size y len r e b ey fit =
    let w : first + size ≤ width sizes f = found-ends sizes f key first size (ap (λ (l : Lookup). l.found) (sym e) ∙ b) in
    let m : (first + size) * f.rows ≤ width sizes f * f.rows = mul-le-mul_right f.rows w in
    rw ey (omega arith)

-- the same past the search, where the block is known
ends : (c : goal.After-from-rows) → c.in-Some.first * c.from-rows.result + c.in-Some.size * c.from-rows.result ≤ length c.args.a.now
ends c =
    let args = c.args in
    end_fits args.sizes args.self args.key _ _ c.from-rows.result (length args.a.now) c.find.result c.find.ensures c.in-Some.is c.from-rows.ensures c.requires

pub overflow_mul-start : goal.overflow_mul-start
overflow_mul-start c = omega (arith, ends c)

pub overflow_add-result : goal.overflow_add-result
overflow_add-result c = omega (arith, ends c)

pub offset_bounds-a-start : goal.offset_bounds-a-start
offset_bounds-a-start c = omega (arith, ends c)

pub slice_bounds-result-end-2 : goal.slice_bounds-result-end-2
slice_bounds-result-end-2 c = omega (arith, ends c)
