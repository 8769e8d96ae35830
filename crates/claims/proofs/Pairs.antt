-- P1 to P10, computed. Assumes nothing.
use mathlib.Core.Path.{◌≡◌, refl, sym, ap, subst, ◌∙◌}
use mathlib.Core.Bool.{true}
use mathlib.Core.List.{List, [], ◌∷◌, ◌++◌, map}
use Prim.Native.Nat.{◌-◌}
use lib.ListN.{length, get_or, replicate}
use Rattle.std.specs.Prelude.{Ok, Err}
use lib.Ieee.{Float, nan, of_bits}
use Rattle.graph.specs.Moments.{start_of}
use Rattle.root.specs.Root.{root_of}
use Rattle.factor.specs.Limits.{max_factors}
use Rattle.factor.specs.declared.Factor.{Factor}
use Rattle.factor.specs.Counting.{sum}
use Rattle.factor.specs.Factor.{no_factor, prior_of, observation_of, first_column, a_numbers, numbers}
use Rattle.graph.specs.Record.{no_name, fresh, offset, valid}
use Rattle.graph.specs.Reached.{answered}
use Rattle.graph.specs.declared.refusal.Refusal.TheVariants.{KeysNotRising, MarginalPivot}
use Rattle.graph.specs.declared.Graph.{Graph}
use Rattle.schedule.specs.Count.{In}
use Rattle.schedule.specs.Pass.{original, ClosedFactor}
use Rattle.schedule.specs.Gather.{Gathered}
use Rattle.schedule.specs.Plan as schedule
use Rattle.workspace.specs.Frames.{work_numbers, frame_of}
use Rattle.slots.specs.Layouts.{layout_of}
use Rattle.slots.specs.declared.Branch.TheVariants.{X}
use Rattle.slots.specs.Views.{FactorView, prior, likelihood, rows_of_all, with_views}
use Rattle.gaussian.specs.Elimination as gaussian
use Rattle.gaussian.specs.Elimination.{message, nth, numbers_in}
use Rattle.gaussian.proofs.Computing.{computed}
use Rattle.tables.specs.Originals.{original_view}
use Rattle.messages.specs.Values.{values, slot_view, message_view, refusal_from, finished_numbers}
use Rattle.solver.specs.Plan.{planned, graph_plan}
use Rattle.solver.proofs.GraphOnce as once
use Rattle.marginals.specs.Marginals.{gathered_views, found, marginals_from, missing_from, marginals_in}
use Rattle.solver.specs.Run.{figure_of, RunVerdict, first, second, third, carried, checked, run}
use Rattle.claims.specs.Demand3.{plan_of}
use Rattle.claims.specs.Pairs.{zer, plus_one, minus_one, two, three, four, three_quarters, Built, called, lent_to, built, named, observation_on}
use Rattle.claims.specs.Pairs.{weak, between}
use Rattle.claims.specs.Pairs.{float, bare, held, pair, keyless, plan_built, run_built, gathered_at, Pairs}
use Rattle.claims.proofs.Computing.{computed_run, computed_calls}
use Rattle.claims.proofs.NoKeys.{no_lines}
use Rattle.claims.proofs.Jobs as jobs
use Rattle.claims.proofs.Jobs.{no_bytes, one-variable, one-prior}

-- ---- the graph of P4, its store, its plan and its messages

-- keys 0 and 1 of size 1, with these factors and their numbers
abbrev with : List Factor → List Float → Built
with factors numbers =
    record {
      graph =
          record {
            symbols = (97, 0) ∷ (97, 1) ∷ replicate 30 no_name;
            sizes = 1 ∷ 1 ∷ replicate 30 0;
            variables = 2;
            factors = factors ++ replicate (max_factors - length factors) no_factor;
            count = length factors;
          };
      store = numbers ++ replicate (10 - length numbers) nan;
    }

abbrev p0 : Factor
p0 = prior_of 0 1

abbrev ob : Factor
ob = observation_of (0 ∷ 1 ∷ []) 1

keys-made : called (called (record { graph = fresh; store = replicate 10 nan }) (named 0)) (named 1) ≡ with [] []
unfolding computed_calls
keys-made = refl

prior_0 : called (with [] []) weak ≡ with (p0 ∷ []) (zer ∷ plus_one ∷ [])
unfolding computed_calls
prior_0 = refl

prior_1 : called (with (p0 ∷ []) (zer ∷ plus_one ∷ [])) weak ≡ with (p0 ∷ p0 ∷ []) (zer ∷ plus_one ∷ zer ∷ plus_one ∷ [])
unfolding computed_calls
prior_1 = refl

prior_2 : called (with (p0 ∷ p0 ∷ []) (zer ∷ plus_one ∷ zer ∷ plus_one ∷ [])) weak
    ≡ with (p0 ∷ p0 ∷ p0 ∷ []) (zer ∷ plus_one ∷ zer ∷ plus_one ∷ zer ∷ plus_one ∷ [])
unfolding computed_calls
prior_2 = refl

abbrev store : List Float
store = zer ∷ plus_one ∷ zer ∷ plus_one ∷ zer ∷ plus_one ∷ minus_one ∷ plus_one ∷ four ∷ plus_one ∷ []

observation_3 : called (with (p0 ∷ p0 ∷ p0 ∷ []) (zer ∷ plus_one ∷ zer ∷ plus_one ∷ zer ∷ plus_one ∷ [])) between ≡ with (p0 ∷ p0 ∷ p0 ∷ ob ∷ []) store
unfolding computed_calls
observation_3 = refl

abbrev made_pair : Built
made_pair = with (p0 ∷ p0 ∷ p0 ∷ ob ∷ []) store

abbrev graph : Graph
graph = made_pair.graph

pair_is : pair ≡ made_pair
unfolding built lent_to
pair_is =
    ap (λ (r : Built). called (called (called (called r weak) weak) weak) between) keys-made
    ∙ ap (λ (r : Built). called (called (called r weak) weak) between) prior_0
    ∙ ap (λ (r : Built). called (called r weak) between) prior_1
    ∙ ap (λ (r : Built). called r between) prior_2
    ∙ observation_3

abbrev forward : List ClosedFactor
forward = record { step = 1; content = original 0 ∷ original 3 ∷ original 2 ∷ original 1 ∷ []; kept = 1 ∷ []; cleared = 0 ∷ [] } ∷ []

abbrev backward : List ClosedFactor
backward = record { step = 1; content = original 3 ∷ []; kept = 0 ∷ []; cleared = 1 ∷ [] } ∷ []

abbrev at_key : List Gathered
at_key =
    record { forward = []; backward = 0 ∷ []; originals = 0 ∷ 1 ∷ 2 ∷ []; leaves = 3 ∷ 0 ∷ 1 ∷ 2 ∷ []; last = [] }
    ∷ record { forward = 0 ∷ []; backward = []; originals = []; leaves = 0 ∷ 3 ∷ 2 ∷ 1 ∷ []; last = [] }
    ∷ []

abbrev plan : schedule.Plan
plan = record { forward = forward; backward = backward; at_key = at_key }

plan-is : graph_plan graph ≡ plan
unfolding computed_run
plan-is = refl

forward-is : values graph store forward ≡ message 1 (plus_one ∷ []) (three ∷ []) (three_quarters ∷ []) ∷ []
unfolding computed_run
forward-is = refl

backward-is : values graph store backward ≡ message 1 (minus_one ∷ []) (zer ∷ []) (zer ∷ []) ∷ []
unfolding computed_run
backward-is = refl

marginals_are : marginals_from graph store plan (message 1 (plus_one ∷ []) (three ∷ []) (three_quarters ∷ []) ∷ [])
    (message 1 (minus_one ∷ []) (zer ∷ []) (zer ∷ []) ∷ []) 0 at_key
    ≡ found (zer ∷ []) (float 0x3FD5555555555556 ∷ []) ∷ found (float 0x4010000000000001 ∷ []) (float 0x3FF5555555555556 ∷ []) ∷ []
unfolding computed_run
marginals_are = refl

valid-is : valid graph ≡ true
unfolding computed_calls
valid-is = refl

figure_is : figure_of graph plan ≡ 6
unfolding computed_run
figure_is = refl

abbrev ended : RunVerdict
ended =
    record {
      answer = record { figure = 6; ended = Ok tt };
      messages = plus_one ∷ three ∷ three_quarters ∷ minus_one ∷ zer ∷ zer ∷ nan ∷ [];
      marginals = zer ∷ float 0x3FD5555555555556 ∷ float 0x4010000000000001 ∷ float 0x3FF5555555555556 ∷ nan ∷ [];
    }

carried-is : carried graph (λ place. place) plan 6 store (replicate 7 nan) (replicate 5 nan) ≡ ended
unfolding carried first second third refusal_from finished_numbers numbers_in missing_from marginals_in
carried-is = rw (forward-is, backward-is, marginals_are)

checked-is : checked graph (λ place. place) plan 6 store (replicate 7 nan) work_numbers (replicate 5 nan)
    ≡ carried graph (λ place. place) plan 6 store (replicate 7 nan) (replicate 5 nan)
unfolding checked start_of computed_calls
checked-is = refl

run_is : run graph store (replicate 7 nan) work_numbers (replicate 5 nan) ≡ ended
unfolding run
run_is = rw (valid-is, plan-is, figure_is) (checked-is ∙ carried-is)

planned-made : (g : Graph) → valid g ≡ true → plan_of (planned g) ≡ graph_plan g
unfolding planned
planned-made g v = rw v

planned-is : plan_of (planned graph) ≡ plan
planned-is = planned-made graph valid-is ∙ plan-is

-- what key 0 gathers: the backward message and three priors
abbrev views : List FactorView
views = likelihood (0 ∷ []) 1 (minus_one ∷ []) (zer ∷ []) (zer ∷ []) ∷ prior 0 (zer ∷ []) (plus_one ∷ []) ∷ prior 0 (zer ∷ []) (plus_one ∷ []) ∷ prior 0
    (zer ∷ []) (plus_one ∷ []) ∷ []

views-are : gathered_at made_pair 0 ≡ views
unfolding gathered_views slot_view message_view original_view offset numbers a_numbers first_column sum of_bits
views-are = rw (planned-is, backward-is)

rows_are : rows_of_all (layout_of (0 ∷ []) [] graph.sizes) (nth views) 4 ≡ 4
unfolding rows_of_all layout_of
rows_are = refl

branch_is : gaussian.eliminate views (0 ∷ []) [] graph.sizes ≡ gaussian.in_branch X (frame_of 0 1 1) (layout_of (0 ∷ []) [] graph.sizes) (nth views) 4
unfolding gaussian.eliminate gaussian.branched rows_of_all layout_of
branch_is = refl

-- ---- P9

abbrev ob0 : Factor
ob0 = observation_of [] 1

keyless_1 : called (with (p0 ∷ []) (zer ∷ plus_one ∷ [])) (observation_on [] [] two) ≡ with (p0 ∷ ob0 ∷ []) (zer ∷ plus_one ∷ two ∷ plus_one ∷ [])
unfolding computed_calls
keyless_1 = refl

keyless_2 : called (with (p0 ∷ ob0 ∷ []) (zer ∷ plus_one ∷ two ∷ plus_one ∷ [])) between
    ≡ with (p0 ∷ ob0 ∷ ob ∷ []) (zer ∷ plus_one ∷ two ∷ plus_one ∷ minus_one ∷ plus_one ∷ four ∷ plus_one ∷ [])
unfolding computed_calls
keyless_2 = refl

keyless-is : keyless ≡ with (p0 ∷ ob0 ∷ ob ∷ []) (zer ∷ plus_one ∷ two ∷ plus_one ∷ minus_one ∷ plus_one ∷ four ∷ plus_one ∷ [])
unfolding built lent_to
keyless-is =
    ap (λ (r : Built). called (called (called r weak) (observation_on [] [] two)) between) keys-made
    ∙ ap (λ (r : Built). called (called r (observation_on [] [] two)) between) prior_0
    ∙ ap (λ (r : Built). called r between) keyless_1
    ∙ keyless_2

uncovered : map (λ (q : Gathered). q.originals) (plan_built (with (p0 ∷ ob0 ∷ ob ∷ [])
    (zer ∷ plus_one ∷ two ∷ plus_one ∷ minus_one ∷ plus_one ∷ four ∷ plus_one ∷ []))).at_key ≡ (0 ∷ 1 ∷ []) ∷ (1 ∷ []) ∷ []
unfolding computed_run
uncovered = refl

-- ---- P1 to P3 and P8

empty_run : run fresh [] [] work_numbers [] ≡ record { answer = record { figure = 0; ended = Ok tt }; messages = []; marginals = [] }
unfolding computed_run
empty_run = refl

bare-run : run_built bare 0 2 ≡ record { answer = record { figure = 0; ended = Err (record { why = MarginalPivot; stage = 3; key = 0 }) }; messages = []; marginals = nan ∷ nan ∷ [] }
unfolding computed_run
bare-run = refl

-- one key of size 1 with a prior, whose xi is 0.5 and W 0.25
abbrev made_held : Built
made_held =
    record {
      graph =
          record {
            symbols = (97, 0) ∷ replicate 31 no_name;
            sizes = 1 ∷ replicate 31 0;
            variables = 1;
            factors = p0 ∷ replicate 63 no_factor;
            count = 1;
          };
      store = float 0x3FE0000000000000 ∷ float 0x3FD0000000000000 ∷ [];
    }

held-is : held ≡ made_held
unfolding computed_calls
held-is = refl

made-held-run : run_built made_held 0 2 ≡ record { answer = record { figure = 0; ended = Ok tt }; messages = []; marginals = two ∷ four ∷ [] }
unfolding computed_run
made-held-run = refl

held-run : run_built held 0 2 ≡ record { answer = record { figure = 0; ended = Ok tt }; messages = []; marginals = two ∷ four ∷ [] }
held-run = ap (λ (r : Built). run_built r 0 2) held-is ∙ made-held-run

equal_keys : (answered graph (observation_on (1 ∷ 1 ∷ []) (plus_one ∷ plus_one ∷ []) plus_one (replicate 14 nan))).outcome ≡ Err KeysNotRising
unfolding computed_calls
equal_keys = refl

-- ---- the statement

-- what holds of the graph and the store of P4 holds of what its calls make
of_pair : (P : Built → Type 0) → P made_pair → P pair
of_pair P h = subst P (sym pair_is) h

pub pairs : Pairs
unfolding root_of with_views computed
pairs =
    record {
      p1 = empty_run;
      p2 = bare-run;
      p2_number = refl;
      p3 = held-run;
      p4 = of_pair (λ (r : Built). (plan_built r).forward ≡ forward) (ap (λ (p : schedule.Plan). p.forward) planned-is);
      p4_value =
          of_pair (λ (r : Built). values r.graph r.store (plan_built r).forward ≡ message 1 (plus_one ∷ []) (three ∷ []) (three_quarters ∷ []) ∷ [])
          (ap (λ (p : schedule.Plan). values graph store p.forward) planned-is ∙ forward-is);
      p5 = of_pair (λ (r : Built). (plan_built r).backward ≡ backward) (ap (λ (p : schedule.Plan). p.backward) planned-is);
      p6 = of_pair (λ (r : Built). (plan_built r).at_key ≡ at_key) (ap (λ (p : schedule.Plan). p.at_key) planned-is);
      p6_rows =
          of_pair (λ (r : Built). rows_of_all (layout_of (0 ∷ []) [] r.graph.sizes) (nth (gathered_at r 0)) (length (gathered_at r 0)) ≡ 4)
          (subst (λ (vs : List FactorView). rows_of_all (layout_of (0 ∷ []) [] graph.sizes) (nth vs) (length vs) ≡ 4) (sym views-are) rows_are);
      p6_branch =
          of_pair (λ (r : Built). gaussian.eliminate (gathered_at r 0) (0 ∷ []) [] r.graph.sizes
          ≡ gaussian.in_branch X (frame_of 0 1 1) (layout_of (0 ∷ []) [] r.graph.sizes) (nth (gathered_at r 0)) 4)
          (subst (λ (vs : List FactorView). gaussian.eliminate vs (0 ∷ []) [] graph.sizes
          ≡ gaussian.in_branch X (frame_of 0 1 1) (layout_of (0 ∷ []) [] graph.sizes) (nth vs) 4) (sym views-are) branch_is);
      p4_run = of_pair (λ (r : Built). run_built r 7 5 ≡ ended) run_is;
      p7_four = refl;
      p7_two = refl;
      p7_least = refl;
      p8 = of_pair (λ (r : Built). (answered r.graph (observation_on (1 ∷ 1 ∷ []) (plus_one ∷ plus_one ∷ []) plus_one (replicate 14 nan))).outcome
          ≡ Err KeysNotRising) equal_keys;
      p8_number = refl;
      p9_every = λ g v i k l e h d. subst (λ (p : schedule.Plan). In i (get_or p.at_key k d).originals) (sym (planned-made g v))
          (once.keyless g v i k l e h d);
      p9 = subst (λ (r : Built). map (λ (q : Gathered). q.originals) (plan_built r).at_key ≡ (0 ∷ 1 ∷ []) ∷ (1 ∷ []) ∷ []) (sym keyless-is) uncovered;
      p10 = refl;
      p1_every = no_lines;
      p1_job = no_bytes;
      p2_job = one-variable;
      p3_job = one-prior;
      p8_job = jobs.equal_keys;
    }
