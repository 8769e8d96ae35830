-- `lists::raised` meets its contract: by whether the slot is an original. Assumes nothing.
use mathlib.Core.Path.{refl}
use borrow.Author.Tests.{lt-ltb, le-ltb}
use Rattle.factor.specs.Limits.{max_factors}
use Rattle.lists.specs.Lists.{raised}
use native.Mathlib.Omega.{arith}
use Rattle.lists.proofs.raised.Goals as goal

pub returns-then-n-lt-FACTORS : goal.returns-then-n-lt-FACTORS
unfolding raised
returns-then-n-lt-FACTORS c = rw (c.from-n.ensures, lt-ltb c.args.s max_factors (omega (arith, c.from-n.ensures))) refl

pub returns-else-n-lt-FACTORS : goal.returns-else-n-lt-FACTORS
unfolding raised
returns-else-n-lt-FACTORS c = rw (c.from-n.ensures, le-ltb c.args.s max_factors (omega (arith, c.from-n.ensures))) refl
