-- `root::root` meets its contract, by the pattern of v (`proofs/Values.antt`) and by what `root_of` is (`proofs/Nearest.antt`). Assumes nothing.
use Rattle.std.proofs.Common.{◌≡◌, true, T, sym, ◌∙◌, subst, arith}
use lib.Ieee.{Float, binary64, fits, to_bits}
use lib.Ieee.Bits.{of_bits-to_bits}
use Rattle.root.proofs.Nearest.{right}
use Rattle.root.proofs.Values.{refused-nan, refused-zero, refused_large, subnormal, normal, number_is}
use Rattle.root.proofs.root.Goals as goal

-- what owning an `f64` tells: the format holds it
held : (v : Float) → fits binary64 v ≡ true → T (fits binary64 v)
held v e = subst T (sym e) tt

pub returns-then-is_nan : goal.returns-then-is_nan
returns-then-is_nan c =
    let v = c.args.v in
    let all = right v _ (held c.args.v c.well_formed.0.1) (refused-nan v (sym c.is_nan.ensures.value ∙ c.if-is_nan.true)) in record { is = all.0; right = all.1.0; told = all.1.1 }

pub returns-then-b-eq0 : goal.returns-then-b-eq0
returns-then-b-eq0 c =
    let v = c.args.v in
    let f = held c.args.v c.well_formed.0.1 in
    let all = right v _ f (refused-zero v f c.if-b-eq0.true) in record { is = all.0; right = all.1.0; told = all.1.1 }

pub returns-then-b-ge-INFINITE : goal.returns-then-b-ge-INFINITE
returns-then-b-ge-INFINITE c =
    let v = c.args.v in
    let f = held c.args.v c.well_formed.0.1 in
    let all = right v _ f (refused_large v f c.if-b-ge-INFINITE.true) in record { is = all.0; right = all.1.0; told = all.1.1 }

pub returns-then-x-eq0 : goal.returns-then-x-eq0
returns-then-x-eq0 c =
    let v = c.args.v in
    let b = to_bits binary64 v in
    let all = right v _ (held c.args.v c.well_formed.0.1) (number_is v c.scaled.result _ _ (omega arith)
    (sym (of_bits-to_bits binary64 v (held c.args.v c.well_formed.0.1)) ∙ subnormal b c.if-b-ge-INFINITE.false c.if-x-eq0.true) c.scaled.ensures) in record { is = all.0; right = all.1.0; told = all.1.1 }

pub returns-else-x-eq0 : goal.returns-else-x-eq0
returns-else-x-eq0 c =
    let v = c.args.v in
    let b = to_bits binary64 v in
    let all = right v _ (held c.args.v c.well_formed.0.1) (number_is v c.scaled-else-x-eq0.result _ _ (omega arith)
    (sym (of_bits-to_bits binary64 v (held c.args.v c.well_formed.0.1)) ∙ normal b c.if-b-ge-INFINITE.false (omega arith)) c.scaled-else-x-eq0.ensures) in record { is = all.0; right = all.1.0; told = all.1.1 }
