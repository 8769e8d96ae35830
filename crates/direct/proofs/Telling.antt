-- An answer that is the definition's tells the definition's numbers. Assumes nothing.
use mathlib.Core.Path.{◌≡◌, refl, ap, ◌∙◌}
use mathlib.Core.List.{List}
use lib.Ieee.{Float}
use Rattle.gaussian.specs.Elimination.{Outcome, pivot, not_finite, message}
use Rattle.gaussian.specs.Told.{message_told}
use Rattle.direct.specs.Direct.{DirectVerdict, send, refuse, verdict_on, direct_answer, direct_store}
use Rattle.direct.specs.Told.{direct_told, direct_verdict_told}
use Prim.Native.Nat.{ℕ}
use Rattle.std.specs.Prelude.{Result}
use Rattle.graph.specs.declared.refusal.Refusal.{Refusal}

-- the answer with the message store, and what the answer tells
pub verdict_tells : (r : Result ℕ Refusal) (v : DirectVerdict) (l s : List Float) → (r ≡ direct_answer v) × (s ≡ direct_store l v)
    → (r ≡ direct_answer v) × ((s ≡ direct_store l v) × (direct_told r ≡ direct_verdict_told v))
unfolding direct_answer direct_told direct_verdict_told
verdict_tells r v l s (e, h) = (e, (h, ap direct_told e ∙ go v))
  where
    go : (v : DirectVerdict) → direct_told (direct_answer v) ≡ direct_verdict_told v
    go (send rows numbers) = refl
    go (refuse why) = refl

-- the numbers with which `gaussian` tells how an elimination ended are those of the refusals here
pub sent_tells : (o : Outcome) → direct_verdict_told (verdict_on o) ≡ message_told o
unfolding verdict_on direct_verdict_told message_told
sent_tells (message r a xi w) = refl
sent_tells pivot = refl
sent_tells not_finite = refl
