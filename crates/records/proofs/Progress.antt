-- How far a reading gets: what the graph holds bounds the bytes that were read. Assumes nothing.
use Prim.Native.Nat.{ℕ, zero, suc, ◌+◌, ◌*◌, ◌≤◌, ◌<◌}
use mathlib.Core.Path.{◌≡◌, refl, ap, ◌∙◌}
use mathlib.Core.Bool.{true, false, cond}
use mathlib.Core.List.{List, [], ◌∷◌, ◌++◌}
use native.Mathlib.Omega.{arith}
use lib.Ieee.{Float}
use lib.ListN.{length, get_or, set}
use lib.Seq.{get_or-set_other}
use Rattle.std.specs.Prelude.{Result, Ok, Err}
use Rattle.factor.specs.Limits.{max_factors}
use Rattle.factor.specs.Factor.{absent, key_at, prior_of, observation_of, first_column, width, a_numbers, numbers, with_live}
use Rattle.factor.specs.declared.Factor.{Factor}
use Rattle.factor.proofs.Counting.{sum_ext}
use Rattle.factor.proofs.Fitting.{fits-key}
use Rattle.graph.specs.Record.{size_at, factor_at, offset, live_at, valid}
use Rattle.graph.specs.Registration.{Added, refused, with_variable, add_variable, accept, with_factor, settle, add_prior, add_observation, retired, replacing}
use Rattle.graph.specs.Reached.{Exposure, Call, prior, observation, variable, register, supersede, entered, answered, lent}
use Rattle.graph.specs.declared.Symbol.{Symbol}
use Rattle.graph.specs.declared.Graph.{Graph}
use Rattle.graph.specs.declared.refusal.Refusal.{Refusal}
use Rattle.graph.specs.declared.refusal.Refusal.TheVariants.{NotLive}
use Rattle.graph.proofs.Validity.{valid-factor, offset-more}
use Rattle.graph.proofs.Calls.{not_live, in_place_lem}
use Rattle.graph.proofs.Factors.{added_at, added_else}
use Rattle.graph.proofs.Checking.{by, Taken, variable-cases, prior-cases, observation-cases}
use Rattle.graph.proofs.Keeping.{Shaped, Good}
use Rattle.records.specs.Bytes.{float_bytes}
use Rattle.records.specs.Records.{Request, variable_record, factor_frame, record_at, next_of, step_of}
use Rattle.records.proofs.Asking.{bytes_of, Asks, nothing, asked, asks}

-- the bytes that a graph's records can have taken: those of its variables, and for each factor its frame and its numbers
abbrev pub most-read : Graph → ℕ
most-read g = variable_record * g.variables + factor_frame * g.count + float_bytes * offset g g.count

-- ---- the numbers stored, after a variable and after a factor

module _ (g : Graph) (v : valid g ≡ true) (name : Symbol) (size : ℕ) where
  -- no factor touches the new key
  width-kept : (i : ℕ) → i < g.count → width (with_variable g name size).sizes (factor_at g i) ≡ width g.sizes (factor_at g i)
  unfolding first_column
  width-kept i l =
      sum_ext _ _ (factor_at g i).touched
      (λ j m.
      let k : key_at (factor_at g i) j < g.variables = fits-key g.sizes g.variables (factor_at g i) (valid-factor g v i l) j m in
      get_or-set_other g.sizes g.variables (key_at (factor_at g i) j) size 0 (λ e. omega arith))

  numbers-kept : (i : ℕ) → i < g.count → numbers (with_variable g name size).sizes (factor_at g i) ≡ numbers g.sizes (factor_at g i)
  unfolding numbers a_numbers
  numbers-kept i l = ap (λ (x : ℕ). cond (factor_at g i).prior 0 ((factor_at g i).rows * x) + (factor_at g i).rows + (factor_at g i).rows * (factor_at g
      i).rows) (width-kept i l)

  variable-offset : offset (with_variable g name size) g.count ≡ offset g g.count
  unfolding offset
  variable-offset = sum_ext _ _ g.count (λ i l. numbers-kept i l)

module _ (g : Graph) (sh : Shaped g) (f : Factor) (room : g.count < max_factors) where
  factor-before : offset (with_factor g f) g.count ≡ offset g g.count
  unfolding offset
  factor-before = sum_ext _ _ g.count (λ i l. ap (numbers g.sizes) (added_else g f i (λ e. omega arith)))

  factor-offset : offset (with_factor g f) (g.count + 1) ≡ offset g g.count + numbers g.sizes f
  factor-offset =
      let h : factor_at (with_factor g f) g.count ≡ f = added_at g f (omega (arith, sh.factors)) in
      offset-more (with_factor g f) g.count ∙ rw (h, factor-before)

-- and after a factor is retired: no number of it goes
numbers-live : (sizes : List ℕ) (fs : List Factor) (j i : ℕ) → numbers sizes (get_or (set fs j (with_live (get_or fs j absent) false)) i absent)
    ≡ numbers sizes (get_or fs i absent)
unfolding numbers a_numbers first_column
numbers-live sizes [] j i = refl
numbers-live sizes (f ∷ fs) zero zero = refl
numbers-live sizes (f ∷ fs) zero (suc i) = refl
numbers-live sizes (f ∷ fs) (suc j) zero = refl
numbers-live sizes (f ∷ fs) (suc j) (suc i) = numbers-live sizes fs j i

retired-offset : (g : Graph) (j n : ℕ) → offset (retired g j) n ≡ offset g n
unfolding offset
retired-offset g j n = sum_ext _ _ n (λ i l. numbers-live g.sizes g.factors j i)

-- ---- an accepted call raises the bound by its record's length, or more

module _ (g : Graph) (ok : Good g) (len : ℕ) (held : offset g g.count ≤ len) (start next : ℕ) where
  Grown : Added → Type 0
  Grown a = (n : ℕ) → next_of a.outcome next ≡ Ok n → (n + most-read g ≤ start + most-read a.graph) × (offset a.graph a.graph.count ≤ len)

  turned : (why : Refusal) → Grown (refused g why)
  unfolding Grown
  turned why n e = let z : ◌≡◌ {A = ℕ} 0 1 = cc in (omega arith, omega arith)

  variable_grown : (name : Symbol) (size : ℕ) → next ≤ start + variable_record → Grown (add_variable g name size)
  unfolding Grown
  variable_grown name size l =
      variable-cases g name size Grown turned
      (λ _ n e.
      let z : next ≡ n = cc in
      let k : offset (with_variable g name size) g.count ≡ offset g g.count = variable-offset g ok.1 name size in
      (omega arith, omega arith))

  taken_grown : (f : Factor) (a mean variance store xi w : List Float) → next ≤ start + (factor_frame + float_bytes * numbers g.sizes f)
      → length store ≡ len → Taken g f a mean variance store xi w → Grown (settle g f (accept (a ++ xi ++ w)))
  unfolding Grown
  taken_grown f a mean variance store xi w took s t n e =
      let z : next ≡ n = cc in
      let k : offset (with_factor g f) (g.count + 1) ≡ offset g g.count + numbers g.sizes f = factor-offset g ok.0 f t.passed.few in
      let room = t.passed.room in
      (omega arith, omega arith)

  -- the plain call of a factor, and one in place of factor j
  entered_grown : (exposure : Exposure) (store : List Float) → next ≤ start + bytes_of g (register exposure store) → length store ≡ len
      → Grown (entered g exposure store)
  unfolding add_prior add_observation
  entered_grown (prior key mean variance) store took s =
      prior-cases g key mean variance store (λ v. Grown (settle g (prior_of key (size_at g key)) v)) turned (λ xi w t. taken_grown _ _ _ _ _ _ _ took s t)
  entered_grown (observation keys rows a mean variance) store took s =
      observation-cases g keys rows a mean variance store (λ v. Grown (settle g (observation_of keys rows) v)) turned
      (λ xi w t. taken_grown _ _ _ _ _ _ _ took s t)

  replacing_grown : (h : Graph) (j : ℕ) (o : Result ℕ Refusal) → Grown (record { graph = h; outcome = o }) → Grown (replacing h j o)
  unfolding Grown
  replacing_grown h j (Ok number) grown = rw (retired-offset h j h.count) grown
  replacing_grown h j (Err why) grown = grown

  call_grown : (c : Call) → next ≤ start + bytes_of g c → (store : List Float) → length (lent store c) ≡ len → Grown (answered g c)
  call_grown (variable name size) took store s = variable_grown name size took
  call_grown (register exposure own) took store s = entered_grown exposure own took s
  call_grown (supersede j exposure own) took store s =
      let plain : Added = entered g exposure own in
      by (live_at g j)
      (λ h. rw (← (in_place_lem g j plain own own ok.1 _ h plain own (refl, refl) refl).0)
      (replacing_grown plain.graph j plain.outcome (entered_grown exposure own took s)))
      (λ h. rw (← (not_live g j plain own own ok.1 _ h refl).0) (turned NotLive))

-- ---- so does an accepted record

module _ (g : Graph) (ok : Good g) (store : List Float) (held : offset g g.count ≤ length store) (start : ℕ) where
  Bounded : Request → Type 0
  Bounded q = (n : ℕ) → (step_of g q).next ≡ Ok n → (n + most-read g ≤ start + most-read (step_of g q).graph) ×
      (offset (step_of g q).graph (step_of g q).graph.count ≤ length store)

  module _ (bytes : List ℕ) where
    asks_bounded : {q : Request} → Asks g store bytes start q → Bounded q
    unfolding Bounded Grown
    asks_bounded (nothing why) = λ n e. let z : ◌≡◌ {A = ℕ} 0 1 = cc in (omega arith, omega arith)
    asks_bounded (asked call next w) = call_grown g ok (length store) held start next call w.near store (ap (λ (s : List Float). length s) w.own)

    pub record_bounded : (n : ℕ) → (step_of g (record_at g store bytes start)).next ≡ Ok n
        → (n + most-read g ≤ start + most-read (step_of g (record_at g store bytes start)).graph) ×
        (offset (step_of g (record_at g store bytes start)).graph (step_of g (record_at g store bytes start)).graph.count ≤ length store)
    unfolding Bounded
    record_bounded = asks_bounded (asks g store bytes start)
