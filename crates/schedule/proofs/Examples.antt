-- P4, P5, P6 and P9 of document 01, as far as the schedule goes, and what C-23 of document 02 says of the order of contents, computed.
-- Assumes nothing.
use mathlib.Core.Path.{◌≡◌, refl}
use mathlib.Core.List.{List, [], ◌∷◌, map}
use Prim.Native.Nat.{ℕ}
use lib.ListN.{get_or}
use Rattle.schedule.specs.Count.{from}
use Rattle.schedule.specs.Pass.{original, full_pass}
use Rattle.schedule.specs.Gather.{Gathered}
use Rattle.schedule.specs.Plan.{plan}

-- P4's graph: keys 0 and 1, three priors on 0, and an observation on both
abbrev pub p4-keys : ℕ → List ℕ
p4-keys i = get_or ((0 ∷ []) ∷ (0 ∷ []) ∷ (0 ∷ []) ∷ (0 ∷ 1 ∷ []) ∷ []) i []

pub p4-forward : full_pass 2 p4-keys (from 0 4) (0 ∷ 1 ∷ []) ≡ record {
  step = 1;
  content = original 0 ∷ original 3 ∷ original 2 ∷ original 1 ∷ [];
  kept = 1 ∷ [];
  cleared = 0 ∷ [];
} ∷ []
unfolding full_pass
p4-forward = refl

pub p5-backward : full_pass 2 p4-keys (from 0 4) (1 ∷ 0 ∷ []) ≡ record { step = 1; content = original 3 ∷ []; kept = 0 ∷ []; cleared = 1 ∷ [] } ∷ []
unfolding full_pass
p5-backward = refl

-- P6: key 0 gathers the backward message and the three priors, key 1 the forward message
pub p6_gathered : (plan 2 p4-keys (from 0 4) (0 ∷ 1 ∷ [])).at_key ≡
    record { forward = []; backward = 0 ∷ []; originals = 0 ∷ 1 ∷ 2 ∷ []; leaves = 3 ∷ 0 ∷ 1 ∷ 2 ∷ []; last = [] }
    ∷ record { forward = 0 ∷ []; backward = []; originals = []; leaves = 0 ∷ 3 ∷ 2 ∷ 1 ∷ []; last = [] } ∷ []
unfolding plan
p6_gathered = refl

-- P9: the original 1 has no keys, and is uncovered at every key
abbrev pub p9-keys : ℕ → List ℕ
p9-keys i = get_or ((0 ∷ []) ∷ [] ∷ (0 ∷ 1 ∷ []) ∷ []) i []

pub p9-uncovered : map (λ (g : Gathered). g.originals) (plan 2 p9-keys (from 0 3) (0 ∷ 1 ∷ [])).at_key ≡ (0 ∷ 1 ∷ []) ∷ (1 ∷ []) ∷ []
unfolding plan
p9-uncovered = refl

-- C-23: three priors on key 0. An observation of key 1 more leaves the message of step 1 as it is but for the order of its content: without it
-- the last prior moves into the gap of the first one, with it the observation does.
abbrev pub late_keys : ℕ → List ℕ
late_keys i = get_or ((0 ∷ []) ∷ (0 ∷ []) ∷ (0 ∷ []) ∷ (1 ∷ []) ∷ []) i []

pub late_without : full_pass 2 late_keys (from 0 3) (0 ∷ 1 ∷ []) ≡ record {
  step = 1;
  content = original 0 ∷ original 2 ∷ original 1 ∷ [];
  kept = [];
  cleared = 0 ∷ [];
} ∷ []
unfolding full_pass
late_without = refl

pub late_with : full_pass 2 late_keys (from 0 4) (0 ∷ 1 ∷ []) ≡ record {
  step = 1;
  content = original 0 ∷ original 1 ∷ original 2 ∷ [];
  kept = [];
  cleared = 0 ∷ [];
} ∷ []
unfolding full_pass
late_with = refl
