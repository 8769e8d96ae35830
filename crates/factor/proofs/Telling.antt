-- An answer that is the definition's tells the definition's number. Assumes nothing.
use mathlib.Core.Path.{◌≡◌, refl, ap, ◌∙◌}
use Rattle.cholesky.specs.Forms.{Form, form, pivot, not_finite}
use Rattle.std.specs.Prelude.{Result}
use Rattle.cholesky.specs.declared.Fault.{Fault}
use Rattle.factor.specs.Told.{weighed_told, weight_told}
use Rattle.cholesky.specs.Answers.{end_of}

answers : (w : Form) → weighed_told (end_of w) ≡ weight_told w
unfolding end_of weighed_told weight_told
answers (form xi w) = refl
answers pivot = refl
answers not_finite = refl

pub weighed_tells : (r : Result (Unit {0}) Fault) (w : Form) → r ≡ end_of w → weighed_told r ≡ weight_told w
weighed_tells r w e = ap weighed_told e ∙ answers w
