-- `lines::bits_of` meets its contract. Assumes nothing.
use mathlib.Core.Path.{◌≡◌, ap, sym, subst}
use mathlib.Core.Bool.{true}
use lib.Dec.{T}
use lib.Ieee.{Float, nan, binary64, to_bits, ne}
use lib.Ieee.Compare.{differs_from_itself}
use Rattle.root.proofs.Values.{no_nan}
use Rattle.lines.proofs.bits_of.Goals as goal

nan-of : (v : Float) → ne v v ≡ true → v ≡ nan
nan-of v e = differs_from_itself v (subst T (sym e) tt)

pub returns-then-x : goal.returns-then-x
unfolding to_bits
returns-then-x c = sym (ap (to_bits binary64) (nan-of c.args.x c.if-x.true))

pub float_to_bits-result : goal.float_to_bits-result
float_to_bits-result c = no_nan _ c.if-x.false
