-- What an answer tells in the numbers of document 01, whatever its enum is. Definitions only.
use Rattle.std.specs.Prelude.{Result, Ok, Err, List, [], ℕ}
use Rattle.cholesky.specs.Forms.{Form, form, pivot, not_finite}
use Rattle.cholesky.specs.declared.Fault.{Fault}
use Rattle.cholesky.specs.declared.Fault.TheVariants.{Pivot, NotFinite}

-- `value`: no refusal, and the whole numbers that the answer gives, in the document's order. `refusal`: its number, and the numbers that come with it.
pub data Told : Type 0 where
  value : List ℕ → Told
  refusal : ℕ → List ℕ → Told

-- ---- a factor's numbers: 7 is a variance with a refused pivot, 6 a number computed that is not finite

-- of the code's answer
unfoldable pub weighed_told : Result (Unit {0}) Fault → Told
weighed_told (Ok u) = value []
weighed_told (Err Pivot) = refusal 7 []
weighed_told (Err NotFinite) = refusal 6 []

-- of what a mean and a variance come to
unfoldable pub weight_told : Form → Told
weight_told (form xi w) = value []
weight_told pivot = refusal 7 []
weight_told not_finite = refusal 6 []
