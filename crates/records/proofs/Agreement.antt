-- Bytes that agree up to a place, and whose ends agree up to it, hold the same record wherever it cannot reach past that place. Assumes nothing.
use Prim.Native.Nat.{ℕ, zero, suc, ◌+◌, ◌*◌, ◌≤◌, ◌<◌}
use mathlib.Core.Path.{◌≡◌, refl, sym, ap, ap₂, ◌∙◌}
use mathlib.Core.Bool.{Bool, true, false, not, cond}
use mathlib.Core.List.{List}
use native.Mathlib.Nat.{mul-le-mul}
use native.Mathlib.Omega.{arith}
use borrow.Author.Tests.{ltb-true, not-false}
use lib.Dec.{ltb}
use lib.Ieee.{Float}
use lib.ListN.{length}
use Rattle.std.specs.Prelude.{Option, Some, None}
use Rattle.factor.specs.Limits.{max_size, max_total, max_keys, max_rows}
use Rattle.factor.specs.Factor.{rising, known, observation_of, a_numbers}
use Rattle.graph.specs.Record.{size_at, live_at, valid}
use Rattle.graph.specs.Registration.{counts_fit}
use Rattle.graph.proofs.Validity.{valid-size, size-most}
use Rattle.graph.specs.declared.Graph.{Graph}
use Rattle.records.specs.Bytes.{float_bytes, byte_at, cut, word_at, number_at, listed, keys_read, numbers_at}
use Rattle.records.specs.Records.{Request, mark_bytes, header_bytes, number_bytes, most_given, longest, variable_at, prior_numbers, prior_at, meaning}
use Rattle.records.specs.Records.{given_numbers, variance_read, observed_numbers, observed, flagged, observation_at, mark_at, marked_within, within_at}
use Rattle.records.specs.Records.{ask_in_place, superseding_at, marked, record_at}
use Rattle.records.specs.declared.kinds.Flag.{Flag}
use Rattle.records.specs.declared.kinds.Flag.TheVariants.{Diagonal, Given}
use Rattle.records.specs.declared.kinds.Mark.{Mark}
use Rattle.records.specs.declared.kinds.Mark.TheVariants as mark
use Rattle.graph.proofs.Checking.{by, few-keys, most-rows}
use Rattle.records.proofs.Counts.{numbers-most}
use Rattle.records.proofs.Listing.{listed-length}
use Rattle.records.proofs.Requests.{superseding-cut, superseding-none, superseding-live}

listed_as : {A : Type 0} (f h : ℕ → A) (n : ℕ) → ((i : ℕ) → i < n → f i ≡ h i) → listed f n ≡ listed h n
unfolding listed
listed_as f h zero e = refl
listed_as f h (suc n) e = rw (listed_as f h n (λ i l. e i (omega arith)), e n (omega arith))

-- a test that refuses in both, and what follows if it doesn't
else_as : (t s : Bool) (p q r : Request) → t ≡ s → (t ≡ false → q ≡ r) → cond t p q ≡ cond s p r
else_as true s p q r e h = rw (sym e)
else_as false s p q r e h = rw (sym e) (h refl)

pub given-most : (flag : Flag) (rows : ℕ) → given_numbers flag rows ≤ rows * rows
given-most (Diagonal x) rows = omega arith
given-most Given rows = omega arith

pub record Agree (b c : List ℕ) (most : ℕ) : Type 0 where
  pub bytes : (i : ℕ) → i < most → byte_at b i ≡ byte_at c i
  pub ends : (m : ℕ) → m ≤ most → ltb (length b) m ≡ ltb (length c) m

module _ (b c : List ℕ) (most : ℕ) (same : Agree b c most) where
  word_as : (at : ℕ) → at + 4 ≤ most → word_at b at ≡ word_at c at
  unfolding word_at
  word_as at l = rw (same.bytes at (omega arith), same.bytes (at + 1) (omega arith), same.bytes (at + 2) (omega arith), same.bytes (at + 3) (omega arith))

  number_as : (at : ℕ) → at + 8 ≤ most → number_at b at ≡ number_at c at
  unfolding number_at
  number_as at l = rw (word_as at (omega arith), word_as (at + 4) (omega arith))

  numbers_as : (at n : ℕ) → at + 8 * n ≤ most → numbers_at b at n ≡ numbers_at c at n
  numbers_as at n l = listed_as (λ i. number_at b (at + 8 * i)) (λ i. number_at c (at + 8 * i)) n (λ i m. number_as (at + 8 * i) (omega arith))

  keys_as : (at n : ℕ) → at + n ≤ most → keys_read b at n ≡ keys_read c at n
  keys_as at n l = listed_as (λ i. byte_at b (at + i)) (λ i. byte_at c (at + i)) n (λ i m. same.bytes (at + i) (omega arith))

  variable_as : (at : ℕ) → at + 9 ≤ most → variable_at b at ≡ variable_at c at
  unfolding variable_at
  variable_as at l = rw (same.ends (at + 9) l, word_as at (omega arith), word_as (at + 4) (omega arith), same.bytes (at + 8) (omega arith))

  prior-numbers_as : (store : List Float) (key s at : ℕ) → at + 8 * (s + s * s) ≤ most → prior_numbers store b key s at ≡ prior_numbers store c key s at
  unfolding prior_numbers
  prior-numbers_as store key s at l = rw (same.ends (at + 8 * (s + s * s)) l, numbers_as at s (omega arith), numbers_as (at + 8 * s) (s * s) (omega arith))

  prior_as : (g : Graph) (store : List Float) (at : ℕ) → valid g ≡ true → at + 1 + float_bytes * (max_size + max_size * max_size) ≤ most
      → prior_at g store b at ≡ prior_at g store c at
  unfolding prior_at
  prior_as g store at v l =
      rw (same.bytes at (omega arith))
      (else_as (cut b at 1) (cut c at 1) _ _ _ (same.ends (at + 1) (omega arith))
      (λ _. else_as (not (ltb (byte_at c at) g.variables)) (not (ltb (byte_at c at) g.variables)) _ _ _ refl
      (λ t.
      let s : size_at g (byte_at c at) ≤ max_size = size-most _ (valid-size g v (byte_at c at) (ltb-true _ _ (not-false _ t))) in
      prior-numbers_as store (byte_at c at) (size_at g (byte_at c at)) (at + 1) (omega (arith, mul-le-mul s s)))))

  variance_as : (flag : Flag) (at rows : ℕ) → at + 8 * given_numbers flag rows ≤ most → variance_read flag b at rows ≡ variance_read flag c at rows
  variance_as (Diagonal x) at rows l = refl
  variance_as Given at rows l = numbers_as at (rows * rows) l

  observed-numbers_as : (store : List Float) (keys : List ℕ) (rows : ℕ) (flag : Flag) (n at : ℕ) → at + 8 * (n + rows + given_numbers flag rows) ≤ most
      → observed_numbers store b keys rows flag n at ≡ observed_numbers store c keys rows flag n at
  unfolding observed_numbers
  observed-numbers_as store keys rows flag n at l =
      rw (
        same.ends (at + 8 * (n + rows + given_numbers flag rows)) l,
        numbers_as at n (omega arith),
        numbers_as (at + 8 * n) rows (omega arith),
        variance_as flag (at + 8 * (n + rows)) rows (omega arith),
      )

  observed_as : (g : Graph) (store : List Float) (keys : List ℕ) (rows : ℕ) (flag : Flag) (at : ℕ) → valid g ≡ true → counts_fit (length keys) rows
      ≡ true → at + float_bytes * most_given ≤ most
      → observed g store b keys rows flag at ≡ observed g store c keys rows flag at
  unfolding observed
  observed_as g store keys rows flag at v h4 l =
      else_as (not (rising keys)) (not (rising keys)) _ _ _ refl
      (λ h3. else_as (not (known g.variables keys)) (not (known g.variables keys)) _ _ _ refl
      (λ h11.
      let n : a_numbers g.sizes (observation_of keys rows) ≤ max_rows * max_total = numbers-most g keys rows (observation_of keys rows) _ v h4
      (not-false _ h3) (not-false _ h11) refl refl in
      let y : rows ≤ max_rows = most-rows _ _ h4 in
      observed-numbers_as store keys rows flag (a_numbers g.sizes (observation_of keys rows)) at (omega (arith, mul-le-mul y y, given-most flag rows))))

  flagged_as : (g : Graph) (store : List Float) (at : ℕ) (flag : Option Flag) → valid g ≡ true
      → at + header_bytes + max_keys + float_bytes * most_given ≤ most → flagged flag g store b at ≡ flagged flag g store c at
  flagged_as g store at None v l = refl
  flagged_as g store at (Some flag) v l =
      rw (same.bytes at (omega arith), same.bytes (at + 1) (omega arith))
      (else_as (not (counts_fit (byte_at c at) (byte_at c (at + 1)))) (not (counts_fit (byte_at c at) (byte_at c (at + 1)))) _ _ _ refl
      (λ h4.
      let k : byte_at c at ≤ max_keys = few-keys _ _ (not-false _ h4) in
      let y : counts_fit (length (keys_read c (at + 3) (byte_at c at))) (byte_at c (at + 1))
      ≡ true = rw (listed-length (λ i. byte_at c (at + 3 + i)) (byte_at c at)) (not-false _ h4) in
      else_as (cut b (at + 3) (byte_at c at)) (cut c (at + 3) (byte_at c at)) _ _ _ (same.ends (at + 3 + byte_at c at) (omega arith))
      (λ _. rw (keys_as (at + 3) (byte_at c at) (omega arith)) (observed_as g store (keys_read c (at + 3) (byte_at c at)) (byte_at c (at + 1)) flag
      (at + 3 + byte_at c at) v y (omega arith)))))

  observation_as : (g : Graph) (store : List Float) (at : ℕ) → valid g ≡ true → at + header_bytes + max_keys + float_bytes * most_given ≤ most
      → observation_at g store b at ≡ observation_at g store c at
  unfolding observation_at
  observation_as g store at v l =
      rw (same.bytes (at + 2) (omega arith))
      (else_as (cut b at 3) (cut c at 3) _ _ _ (same.ends (at + 3) (omega arith)) (λ _. flagged_as g store at (meaning (byte_at c (at + 2))) v l))

  mark_as : (at : ℕ) → at + mark_bytes ≤ most → mark_at b at ≡ mark_at c at
  unfolding mark_at
  mark_as at l = rw (same.ends (at + 2) l, same.bytes at (omega arith), same.bytes (at + 1) (omega arith))

  module _ (g : Graph) (store : List Float) (v : valid g ≡ true) where
    within-marked_as : (at : ℕ) → at + header_bytes + max_keys + float_bytes * most_given ≤ most → (m : Option Mark)
        → marked_within m g store b at ≡ marked_within m g store c at
    within-marked_as at l (Some mark.Prior) = prior_as g store at v (omega arith)
    within-marked_as at l (Some mark.Observation) = observation_as g store at v l
    within-marked_as at l _ = refl

    within_as : (at : ℕ) → at + mark_bytes + header_bytes + max_keys + float_bytes * most_given ≤ most → within_at g store b at ≡ within_at g store c at
    unfolding within_at
    within_as at l = rw (mark_as at (omega arith)) (within-marked_as (at + mark_bytes) l (mark_at c at))

    superseding_as : (at : ℕ) → at + number_bytes + mark_bytes + header_bytes + max_keys + float_bytes * most_given ≤ most
        → superseding_at g store b at ≡ superseding_at g store c at
    superseding_as at l =
        let e : byte_at b at ≡ byte_at c at = same.bytes at (omega arith) in
        let ends : cut b at number_bytes ≡ cut c at number_bytes = same.ends (at + number_bytes) (omega arith) in
        by (cut c at number_bytes)
        (λ h. superseding-cut g store b at (ends ∙ h) ∙ sym (superseding-cut g store c at h))
        (λ h. by (live_at g (byte_at c at))
        (λ live. superseding-live g store b at (ends ∙ h) (ap (live_at g) e ∙ live)
        ∙ ap₂ (λ (j : ℕ) (q : Request). ask_in_place j q) e (within_as (at + number_bytes) (omega arith))
        ∙ sym (superseding-live g store c at h live))
        (λ none. superseding-none g store b at (ends ∙ h) (ap (live_at g) e ∙ none) ∙ sym (superseding-none g store c at h none)))

    marked_as : (at : ℕ) → at + number_bytes + mark_bytes + header_bytes + max_keys + float_bytes * most_given ≤ most → (m : Option Mark)
        → marked m g store b at ≡ marked m g store c at
    marked_as at l (Some mark.Variable) = variable_as at (omega arith)
    marked_as at l (Some mark.Superseding) = superseding_as at l
    marked_as at l m = within-marked_as at (omega arith) m

    pub record_as : (at : ℕ) → at + longest ≤ most → record_at g store b at ≡ record_at g store c at
    unfolding record_at
    record_as at l = rw (mark_as at (omega arith)) (marked_as (at + mark_bytes) (omega arith) (mark_at c at))
