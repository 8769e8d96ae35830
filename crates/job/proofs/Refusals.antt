-- What a refusal of a job names: its stage and its place are small. Assumes nothing.
use Prim.Native.Nat.{ℕ, zero, suc, ◌+◌, ◌-◌, ◌≤◌, ◌<◌}
use mathlib.Core.Path.{◌≡◌, refl, ap, subst}
use mathlib.Core.Bool.{Bool, true, false, cond}
use mathlib.Core.List.{List, [], ◌∷◌}
use native.Mathlib.Omega.{arith}
use native.Mathlib.Decide.{dec_lt}
use lib.Dec.{ltb}
use Rattle.std.specs.Prelude.{Result, Ok, Err}
use lib.Ieee.{Float}
use lib.ListN.{length, get_or, get_or-eq_default}
use Rattle.factor.specs.Limits.{max_variables}
use Rattle.graph.specs.Record.{valid}
use Rattle.graph.specs.Reached.{Reached}
use Rattle.graph.specs.declared.Graph.{Graph}
use Rattle.graph.specs.declared.refusal.Refusal.{Refusal}
use Rattle.graph.proofs.Validity.{valid-variables}
use Rattle.records.specs.Records.{Reading, onward, step_of, request_store, record_at, read_from}
use Rattle.records.specs.declared.answer.Rejected.{Rejected}
use Rattle.records.proofs.Reading.{step-reached}
use Rattle.schedule.specs.Count.{from, each_once}
use Rattle.schedule.specs.Pass.{at}
use Rattle.schedule.specs.Gather.{Gathered}
use Rattle.schedule.specs.Plan as schedule
use Rattle.schedule.proofs.Orders.{order_each, order_low}
use Rattle.gaussian.specs.Elimination.{Outcome}
use Rattle.messages.specs.Values as messages
use Rattle.marginals.specs.Marginals.{Found, found, refused, marginals_from, missing_from}
use Rattle.solver.specs.Plan.{plan_along}
use Rattle.solver.specs.Run.{RunVerdict, run, key_at, run_along}
use Rattle.solver.specs.declared.run.Stopped.{Stopped}
use Rattle.solver.proofs.Carriable.{along-runnable}
use Rattle.solver.proofs.Cases.{along-cases}
use Rattle.solver.proofs.Rising.{as_rising}

-- ---- the record, and the graph that was read

-- a refused record has a place of at most n
abbrev pub Placed : ℕ → Result (Unit {0}) Rejected → Type 0
Placed n (Ok done) = n ≤ n
Placed n (Err rejected) = rejected.place ≤ n

abbrev Fine : ℕ → Reading → Type 0
Fine n r = Reached r.answer.graph × Placed n r.answer.ended

fine_on : (most place : ℕ) (n : Result ℕ Refusal) (g : Graph) (store : List Float) (rest : ℕ → Reading) → Reached g → place ≤ most
    → ((k : ℕ) → Fine most (rest k)) → Fine most (onward n g store place rest)
fine_on most place (Ok n) g store rest r l h = h n
fine_on most place (Err w) g store rest r l h = (r, l)

fine_turn : (most : ℕ) (b : Bool) (x y : Reading) → Fine most x → Fine most y → Fine most (cond b x y)
fine_turn most true x y h k = h
fine_turn most false x y h k = k

-- a place counts the turns before it
pub read_fine : (turns : ℕ) (bytes : List ℕ) (from place most : ℕ) (g : Graph) (store : List Float) → Reached g → place + turns ≤ most
    → Fine most (read_from turns bytes from place g store)
unfolding read_from
read_fine zero bytes from place most g store r l = (r, omega arith)
read_fine (suc turns) bytes from place most g store r l =
    let q = record_at g store bytes from in
    let reached : Reached (step_of g q).graph = step-reached g q r in
    fine_turn most (ltb from (length bytes)) _ _
    (fine_on most place (step_of g q).next (step_of g q).graph (request_store g store q)
    (λ n. read_from turns bytes n (place + 1) (step_of g q).graph (request_store g store q)) reached (omega arith)
    (λ n. read_fine turns bytes n (place + 1) most (step_of g q).graph (request_store g store q) reached (omega arith)))
    (r, omega arith)

-- ---- the stage and the key of a run

abbrev pub Keyed : Result (Unit {0}) Stopped → Type 0
Keyed (Ok done) = 0 ≤ 0
Keyed (Err stopped) = (stopped.stage ≤ 3) × (stopped.key ≤ max_variables)

abbrev KeyedBy : RunVerdict → Type 0
KeyedBy v = Keyed v.answer.ended

abbrev Within : ℕ → messages.FirstRefusal → Type 0
Within n (Ok done) = n ≤ n
Within n (Err undone) = undone.at ≤ n

-- a key without a marginal is one of the keys looked at
missing_within : (k : ℕ) (all : List Found) (n : ℕ) → k + length all ≤ n → Within n (missing_from k all)
unfolding missing_from
missing_within k [] n l = omega arith
missing_within k (found mean covariance ∷ rest) n l = missing_within (k + 1) rest n (omega arith)
missing_within k (refused w ∷ rest) n l = omega arith

marginals-long : (g : Graph) (store : List Float) (p : schedule.Plan) (fw bw : List Outcome) (k : ℕ) (qs : List Gathered)
    → length (marginals_from g store p fw bw k qs) ≡ length qs
unfolding marginals_from
marginals-long g store p fw bw k [] = refl
marginals-long g store p fw bw k (q ∷ qs) = ap suc (marginals-long g store p fw bw (k + 1) qs)

-- the keys of an order are below the count of variables
order_small : (g : Graph) (order : List ℕ) → valid g ≡ true → each_once g.variables order ≡ true → (place : ℕ) → key_at order place ≤ max_variables
order_small g order v o place = go (dec_lt place (length order))
  where
    go : Dec (place < length order) → get_or order place 0 ≤ max_variables
    go (yes l) = omega (arith, order_low g.variables order (order_each g.variables order o) place l, valid-variables g v)
    go (no l) = rw (get_or-eq_default order 0 {n = place} (omega arith)) (omega arith)

pub along-keyed : (g : Graph) (order : List ℕ) (factors m : List Float) (work : ℕ) (r : List Float) → KeyedBy (run_along g order factors m work r)
along-keyed g order factors m work r =
    along-cases KeyedBy g order factors m work r (omega arith, omega arith) (omega arith, omega arith)
    (λ v o. let p : schedule.Plan = plan_along g order in
    let fw = messages.values g factors p.forward in
    let bw = messages.values g factors p.backward in
    let small : (place : ℕ) → key_at order place ≤ max_variables = order_small g order v o in
    let for_each = (along-runnable g order v o).for_each in
    record {
      factors_short = (omega arith, omega arith);
      short = (omega arith, omega arith);
      first = λ j w e. (omega arith, small (at p.forward j).step);
      second = λ j w e. (omega arith, small (g.variables - 1 - (at p.backward j).step));
      third = λ k w e. (
        omega arith,
        subst (Within max_variables) e (missing_within 0 (marginals_from g factors p fw bw 0 p.at_key) max_variables
            (omega (arith, for_each, marginals-long g factors p fw bw 0 p.at_key, valid-variables g v))),
      );
      done = λ a b c. omega arith;
    })

pub run-keyed : (g : Graph) (factors m : List Float) (work : ℕ) (r : List Float) → KeyedBy (run g factors m work r)
run-keyed g factors m work r = as_rising g factors m work r KeyedBy (along-keyed g (from 0 g.variables) factors m work r)
