-- What a record asks for, by cases: no other proof opens the chain of a record's checks, but that two lists of bytes agree. Assumes nothing.
use Prim.Native.Nat.{ℕ, ◌+◌, ◌*◌, ◌≤◌, ◌<◌}
use mathlib.Core.Path.{◌≡◌, refl}
use mathlib.Core.Bool.{Bool, true, false, not, cond}
use mathlib.Core.List.{List}
use native.Mathlib.Omega.{arith}
use borrow.Author.Tests.{ltb-false, not-false}
use lib.Dec.{ltb}
use lib.Ieee.{Float}
use lib.ListN.{length}
use Rattle.std.specs.Prelude.{Option, Some, None}
use Rattle.factor.specs.Factor.{rising, known, prior_of, observation_of, a_numbers, numbers}
use Rattle.factor.specs.declared.Factor.{Factor}
use Rattle.graph.specs.Record.{size_at, live_at}
use Rattle.graph.specs.Registration.{counts_fit}
use Rattle.graph.specs.Reached.{Exposure, Call, prior, observation, variable, register, supersede, lent}
use Rattle.graph.specs.declared.Graph.{Graph}
use Rattle.graph.specs.declared.refusal.Refusal.{Refusal}
use Rattle.graph.proofs.Checking.{by, few-keys}
use Rattle.records.specs.Bytes.{float_bytes, byte_at, cut, keys_read}
use Rattle.records.specs.Records.{Request, ask, refuse, mark_bytes, variable_bytes, header_bytes, number_bytes, variable_record, factor_frame}
use Rattle.records.specs.Records.{variable_at, prior_numbers, prior_at, meaning, given_numbers, observed_numbers, observed, flagged, observation_at}
use Rattle.records.specs.Records.{mark_at, marked_within, within_at, ask_in_place, marked, record_at}
use Rattle.records.specs.declared.kinds.Flag.{Flag}
use Rattle.records.specs.declared.kinds.Mark.{Mark}
use Rattle.records.specs.declared.kinds.Mark.TheVariants as mark
use Rattle.records.proofs.Requests.{superseding-cut, superseding-none, superseding-live}
use Rattle.records.proofs.Agreement.{given-most}

-- the factor that a call is to register
abbrev pub factor_of : Graph → Exposure → Factor
factor_of g (prior key mean variance) = prior_of key (size_at g key)
factor_of g (observation keys rows a mean variance) = observation_of keys rows

-- the bytes that the record of a call takes at most
abbrev pub bytes_of : Graph → Call → ℕ
bytes_of g (variable name size) = variable_record
bytes_of g (register exposure own) = factor_frame + float_bytes * numbers g.sizes (factor_of g exposure)
bytes_of g (supersede j exposure own) = factor_frame + float_bytes * numbers g.sizes (factor_of g exposure)

prior-numbers : (sizes : List ℕ) (key s : ℕ) → numbers sizes (prior_of key s) ≡ s + s * s
unfolding numbers a_numbers
prior-numbers sizes key s = omega arith

observation-numbers : (sizes keys : List ℕ) (rows : ℕ) → numbers sizes (observation_of keys rows) ≡ a_numbers sizes (observation_of keys rows) + rows + rows * rows
unfolding numbers
observation-numbers sizes keys rows = refl

module _ (g : Graph) (store : List Float) (bytes : List ℕ) (start : ℕ) where
  -- a call that is lent this store, by a record that is there up to the place after it
  pub record Asked (call : Call) (next : ℕ) : Type 0 where
    pub later : start < next
    pub there : next ≤ length bytes
    pub near : next ≤ start + bytes_of g call
    pub own : lent store call ≡ store

  -- a record asks for nothing, because it is turned back, or for a call
  pub data Asks : Request → Type 0 where
    nothing : (why : Refusal) → Asks (refuse why)
    asked : (call : Call) (next : ℕ) → Asked call next → Asks (ask call next)

  -- a factor's record asks for a plain call
  pub data Plain : Request → Type 0 where
    back : (why : Refusal) → Plain (refuse why)
    plain : (exposure : Exposure) (next : ℕ) → Asked (register exposure store) next → Plain (ask (register exposure store) next)

  -- by itself, and in place of factor j
  itself : {q : Request} → Plain q → Asks q
  itself (back why) = nothing why
  itself (plain exposure next w) = asked _ next w

  in_place : (j : ℕ) {q : Request} → Plain q → Asks (ask_in_place j q)
  in_place j (back why) = nothing why
  in_place j (plain exposure next w) = asked (supersede j exposure store) next (record { later = w.later; there = w.there; near = w.near; own = refl })

  -- after a check
  unless : (P : Request → Type 0) → ((why : Refusal) → P (refuse why)) → (b : Bool) (why : Refusal) (q : Request) → (b ≡ false → P q)
      → P (cond b (refuse why) q)
  unless P turned true why q h = turned why
  unless P turned false why q h = h refl

  -- ---- a factor's record, whose mark ends here

  module _ (at : ℕ) (later : start < at) (near : at ≤ start + mark_bytes + number_bytes + mark_bytes) where
    prior_plain : Plain (prior_at g store bytes at)
    unfolding prior_at prior_numbers
    prior_plain =
        let key = byte_at bytes at in
        let size = size_at g key in
        unless Plain back (cut bytes at 1) _ _
        (λ _. unless Plain back (not (ltb key g.variables)) _ _
        (λ _. unless Plain back (cut bytes (at + 1) (float_bytes * (size + size * size))) _ _
        (λ h. plain _ _
        (record { later = omega arith; there = ltb-false _ _ h; near = omega (arith, prior-numbers g.sizes key size); own = refl }))))

    observed_plain : (keys : List ℕ) (rows : ℕ) (flag : Flag) (from : ℕ) → at ≤ from → from ≤ start + factor_frame
        → Plain (observed g store bytes keys rows flag from)
    unfolding observed observed_numbers
    observed_plain keys rows flag from l m =
        unless Plain back (not (rising keys)) _ _
        (λ _. unless Plain back (not (known g.variables keys)) _ _
        (λ _. unless Plain back (cut bytes from (float_bytes * (a_numbers g.sizes (observation_of keys rows) + rows + given_numbers flag rows))) _ _
        (λ h. plain _ _
        (record {
          later = omega arith;
          there = ltb-false _ _ h;
          near = omega (arith, observation-numbers g.sizes keys rows, given-most flag rows);
          own = refl;
        }))))

    flagged_plain : (flag : Option Flag) → Plain (flagged flag g store bytes at)
    flagged_plain None = back _
    flagged_plain (Some flag) =
        let count = byte_at bytes at in
        unless Plain back (not (counts_fit count (byte_at bytes (at + 1)))) _ _
        (λ h4. unless Plain back (cut bytes (at + header_bytes) count) _ _
        (λ _. observed_plain (keys_read bytes (at + header_bytes) count) (byte_at bytes (at + 1)) flag
        (at + header_bytes + count) (omega arith) (omega (arith, few-keys _ _ (not-false _ h4)))))

    observation_plain : Plain (observation_at g store bytes at)
    unfolding observation_at
    observation_plain = unless Plain back (cut bytes at header_bytes) _ _ (λ _. flagged_plain (meaning (byte_at bytes (at + 2))))

    within-marked : (m : Option Mark) → Plain (marked_within m g store bytes at)
    within-marked (Some mark.Prior) = prior_plain
    within-marked (Some mark.Observation) = observation_plain
    within-marked _ = back _

  pub within_plain : (at : ℕ) → start < at → at ≤ start + mark_bytes + number_bytes → Plain (within_at g store bytes at)
  unfolding within_at
  within_plain at l m = within-marked (at + mark_bytes) (omega arith) (omega arith) (mark_at bytes at)

  -- ---- any record

  marked_asks : (m : Option Mark) → Asks (marked m g store bytes (start + mark_bytes))
  unfolding variable_at
  marked_asks (Some mark.Variable) = unless Asks nothing (cut bytes (start + mark_bytes) variable_bytes) _ _
      (λ h. asked _ _ (record { later = omega arith; there = ltb-false _ _ h; near = omega arith; own = refl }))
  marked_asks (Some mark.Superseding) =
      let at = start + mark_bytes in
      by (cut bytes at number_bytes)
      (λ h. rw (superseding-cut g store bytes at h) (nothing _))
      (λ h. by (live_at g (byte_at bytes at))
      (λ live. rw (superseding-live g store bytes at h live) (in_place (byte_at bytes at) (within_plain (at + number_bytes) (omega arith) (omega arith))))
      (λ none. rw (superseding-none g store bytes at h none) (nothing _)))
  marked_asks m = itself (within-marked (start + mark_bytes) (omega arith) (omega arith) m)

  pub asks : Asks (record_at g store bytes start)
  unfolding record_at
  asks = marked_asks (mark_at bytes start)
