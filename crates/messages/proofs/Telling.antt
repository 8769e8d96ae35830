-- What a walk answers tells the numbers of the first refusal in its list. Assumes nothing.
use mathlib.Core.Path.{◌≡◌, refl, ap, ◌∙◌}
use Rattle.std.specs.Prelude.{Ok, Err}
use Rattle.messages.specs.Values.{FirstRefusal}
use Rattle.messages.specs.Told.{carried_told, stop_told}

pub carried-tells : (r s : FirstRefusal) → r ≡ s → carried_told r ≡ stop_told s
unfolding carried_told stop_told
carried-tells r s e = go r ∙ ap stop_told e
  where
    go : (r : FirstRefusal) → carried_told r ≡ stop_told r
    go (Ok done) = refl
    go (Err undone) = refl
