-- `root::scaled` meets its contract: what it puts together is `root_bits` (`proofs/Pattern.antt`). Assumes nothing.
use Rattle.std.proofs.Common.{ℕ, ◌+◌, ◌*◌, ◌/◌, ◌%◌, ◌^◌, ◌<◌, sym, ap, ◌∙◌, arith}
use lib.Ieee.{binary64, of_bits}
use Rattle.root.specs.Root.{root_bits}
use Rattle.root.proofs.Pattern.{bits_are, doubled_fits, halved}
use Rattle.root.proofs.Values.{no_nan_bits}
use Rattle.root.proofs.scaled.Goals as goal

fits : (c : goal.Start) → (0 < c.args.m * (1 + c.args.e % 2)) × (c.args.m * (1 + c.args.e % 2) < 2 ^ 54)
fits c = doubled_fits c.args.m (c.args.e % 2) c.requires.0 c.requires.1 (omega arith)

pub overflow_mul-m : goal.overflow_mul-m
overflow_mul-m c = omega (arith, (fits c).1)

pub digits_of-d-requires : goal.digits_of-d-requires
digits_of-d-requires c = ((fits c).0, (fits c).1, omega arith)

pub float_from_bits-result : goal.float_from_bits-result
float_from_bits-result c = no_nan_bits _ (omega arith)

pub returns : goal.returns
returns c =
    let a = c.args in
    ap (λ (b : ℕ). of_bits binary64 b) (sym (bits_are (a.m * (1 + a.e % 2)) c.digits_of-d.result.q c.digits_of-d.result.j (a.e / 2) c.digits_of-d.ensures
    (fits c.before).0 (omega arith))) ∙ ap (λ (n : ℕ). of_bits binary64 (root_bits n)) (halved a.m a.e)
