-- Demand 3, whole: for every list of registering calls. What the calls answered is what the graph holds (`Calls`), over the graph's plan the claim is
-- `once` along every order, and its counts give what a run needs (`Carrying`). Assumes nothing.
use mathlib.Core.Path.{◌≡◌, refl, sym, ap, subst, subst₂, fun_ext, ◌∙◌}
use mathlib.Core.Bool.{true}
use mathlib.Core.List.{List, [], ◌∷◌, Memᴰ}
use Prim.Native.Nat.{ℕ, ◌+◌, ◌<◌}
use native.Mathlib.Omega.{arith}
use Rattle.std.specs.Prelude.{Result, is_ok}
use lib.Ieee.{Float}
use lib.ListN.{length, get_or}
use Rattle.graph.specs.Record.{fresh, live_at, valid, factor_keys}
use Rattle.graph.specs.Reached.{Call, yields}
use Rattle.graph.specs.declared.Graph.{Graph}
use Rattle.graph.specs.declared.refusal.Refusal.{Refusal}
use Rattle.graph.proofs.Keeping.{good_of}
use Rattle.schedule.specs.Count.{hit, count, In, from, each_once}
use Rattle.schedule.specs.Gather.{Gathered}
use Rattle.schedule.specs.Once.{Once}
use Rattle.schedule.specs.Plan as schedule
use Rattle.schedule.proofs.Counts.{hit_same, hit_other, count-cons, rising_once}
use Rattle.schedule.proofs.Runs.{from-lt}
use Rattle.schedule.proofs.Sums.{length_from}
use Rattle.schedule.proofs.Demand3.{from_once}
use Rattle.schedule.proofs.Orders.{counts_each}
use Rattle.plan.proofs.Membership.{sure_true}
use Rattle.solver.specs.Plan.{live_numbers, plan_along, Answer, planned_along}
use Rattle.solver.specs.Plan as plans
use Rattle.solver.specs.Run.{RunVerdict, run_along}
use Rattle.solver.specs.Stages.{Runnable}
use Rattle.solver.proofs.GraphOnce.{once}
use Rattle.solver.proofs.Carriable.{along-runnable}
use Rattle.solver.proofs.Rising.{rising_order, rising-plan, rising-run}
use Rattle.claims.specs.Demand3.{Accepted, keys_answered, numbers_answered, live, cleared_behind, Rests, Exact, Order, plan_of, Smooths, Whole}
use Rattle.claims.proofs.Calls.{reached, keys-are, numbers-are, live-are, given-are}
use Rattle.claims.proofs.Carrying.{run_carries}

-- ---- a key

-- the number of a factor is among the numbers
among : (f : Accepted) (fs : List Accepted) → Memᴰ f fs → In f.number (numbers_answered fs)
unfolding count
among f fs (Memᴰ.head {x = a} {xs = rest} e) = omega (arith, hit_same f.number, ap (λ (x : Accepted). count f.number (numbers_answered (x ∷ rest))) e)
among f fs (Memᴰ.tail {x = a} {xs = rest} m) = omega (arith, among f rest m)

-- the claim over keys and numbers is the claim over what the calls answered
rests : (g : Graph) (ks : List ℕ) (fs : List Accepted) → ks ≡ from 0 g.variables → numbers_answered fs ≡ live_numbers g
    → ((f : Accepted) → Memᴰ f fs → f.keys ≡ factor_keys g f.number)
    → (p : schedule.Plan) (k : ℕ) (q : Gathered) → k < g.variables → Once g.variables (factor_keys g) (live_numbers g) k p.forward p.backward q
    → Rests ks fs p k q
rests g ks fs ek en eg p k q l o =
    record {
      leaves_of = o.leaves_of;
      forward_under = o.forward_under;
      backward_under = o.backward_under;
      listed = λ f m. omega (arith, o.listed f.number, rising_once g.count (live_at g) f.number, numbered f m);
      no_other_leaf = λ i h. omega (arith, o.listed i, ap (count i) en);
      others_once = λ j h d. omega (arith, split j, hit_other j k d, ap (count j) ek, from_once g.variables j);
      itself_never = omega (arith, split k, hit_same k, from_once g.variables k);
      no_other_key = λ j h. omega (arith, split j, ap (count j) ek);
      forward_covers = λ i b f m j h c. o.forward i b f.number (numbered f m) j (touched f m j h) c;
      backward_covers = λ i b f m j h c. o.backward i b f.number (numbered f m) j (touched f m j h) c;
      last_covers = λ f m j h c. o.last f.number (numbered f m) j (touched f m j h) c;
    }
  where
    numbered : (f : Accepted) → Memᴰ f fs → In f.number (live_numbers g)
    numbered f m = subst (λ (l : List ℕ). In f.number l) en (among f fs m)

    touched : (f : Accepted) → Memᴰ f fs → (j : ℕ) → In j f.keys → In j (factor_keys g f.number)
    touched f m j h = subst (λ (l : List ℕ). In j l) (eg f m) h

    split : (j : ℕ) → hit j k + count j (cleared_behind p q) ≡ count j (from 0 g.variables)
    split j = sym (count-cons j k (cleared_behind p q)) ∙ o.cleared j

-- ---- the calls

module _ (cs : List Call) where
  abbrev g : Graph
  g = yields fresh cs

  sound : valid g ≡ true
  sound = (good_of g (reached cs)).1

  -- an order of the registered keys passes the test
  passes : (order : List ℕ) → Order cs order → each_once g.variables order ≡ true
  passes order h = sure_true (each_once g.variables order) (counts_each g.variables order (λ j. h j ∙ ap (count j) (keys-are cs)))

  module _ (order : List ℕ) (o : each_once g.variables order ≡ true) where
    abbrev p : schedule.Plan
    p = plan_along g order

    -- with what the plan's call answers in place of the plan
    by_answer : (P : Result Answer Refusal → Type 0) → P (plans.made g p) → P (planned_along g order)
    unfolding planned_along
    by_answer P h = rw (sound, o) h

    can_run : Runnable g p
    can_run = along-runnable g order sound o

    empty : keys_answered fresh cs ≡ [] → p.at_key ≡ []
    empty e = go p.at_key (can_run.for_each ∙ sym (length_from 0 g.variables) ∙ ap length (sym (keys-are cs) ∙ e))
      where
        go : (qs : List Gathered) → length qs ≡ 0 → qs ≡ []
        go [] l = refl
        go (q ∷ qs) l = absurd (omega arith)

    smooths : Smooths cs (planned_along g order) (run_along g order)
    smooths =
        record {
          made = by_answer (λ a. is_ok a ≡ true) refl;
          for_each = by_answer (λ a. length (plan_of a).at_key ≡ length (keys_answered fresh cs))
              (can_run.for_each ∙ sym (length_from 0 g.variables) ∙ ap length (sym (keys-are cs)));
          rests =
              λ k h d. let l : k < g.variables = from-lt k g.variables (subst (λ (l : List ℕ). In k l) (keys-are cs) h) in
              by_answer (λ a. Rests (keys_answered fresh cs) (live fresh cs) (plan_of a) k (get_or (plan_of a).at_key k d))
              (rests g (keys_answered fresh cs) (live fresh cs) (keys-are cs) (live-are cs) (given-are cs) p k
              (get_or p.at_key k d) l (once g order sound o k l d));
          exact =
              λ factors messages work marginals e. by_answer (λ a. Exact g (plan_of a) factors messages marginals
              (run_along g order factors messages work marginals))
              ((run_carries g order factors messages work marginals).exact e);
          none_without_keys = λ e factors messages work marginals. (run_carries g order factors messages work marginals).bare (empty e);
        }

  pub demand3 : Whole cs
  demand3 =
      record {
        keys_apart = λ k. omega (arith, ap (count k) (keys-are cs), from_once g.variables k);
        numbers_apart = λ i. omega (arith, ap (count i) (numbers-are cs), from_once g.count i);
        along = λ order h. smooths order (passes order h);
        rising =
            subst₂ (λ (a : Result Answer Refusal) (ran : List Float → List Float → ℕ → List Float → RunVerdict). Smooths cs a ran) (rising-plan g)
            (fun_ext (λ factors. fun_ext (λ messages. fun_ext (λ work. fun_ext (λ marginals. rising-run g factors messages work marginals)))))
            (smooths (from 0 g.variables) (rising_order g.variables));
      }
