-- A result that can't be an error is a value, which a program unwraps. Assumes nothing.
use Rattle.std.proofs.Common.{◌≡◌, refl}
use Rattle.std.specs.Prelude.{Result, Ok, Err, IsOk}

pub ok_unless : {A E : Type 0} (r : Result A E) → ((e : E) → r ≡ Err e → ⊥) → IsOk r
ok_unless (Ok x) h = refl
ok_unless (Err e) h = absurd (h e refl)
