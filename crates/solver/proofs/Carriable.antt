-- A plan over originals of a valid graph, along any order of its keys, can be carried out: its messages and its gatherings have what a run relies on.
-- Assumes nothing.
use mathlib.Core.Path.{◌≡◌, ◌∙◌}
use mathlib.Core.Bool.{true}
use mathlib.Core.List.{List, reverse}
use Prim.Native.Nat.{ℕ, ◌-◌, ◌≤◌, ◌<◌}
use native.Mathlib.Omega.{arith}
use lib.ListN.{length, length-map, length-reverse}
use Rattle.graph.specs.Record.{live_at, valid, factor_keys}
use Rattle.graph.specs.declared.Graph.{Graph}
use Rattle.graph.proofs.Validity.{valid-variables}
use Rattle.schedule.specs.Count.{count, In, from, each_once}
use Rattle.schedule.specs.Pass.{full_pass}
use Rattle.schedule.specs.Gather.{gather}
use Rattle.schedule.specs.Plan as schedule
use Rattle.schedule.proofs.Counts.{count-reverse, from_in, rising_in, rising_once}
use Rattle.schedule.proofs.Messages.{tidy, tidy-more, older, steps, few-messages, settled, settled-more}
use Rattle.schedule.proofs.Demand3.{gathered_at_lem}
use Rattle.schedule.proofs.Orders.{Each, order_each, order_long}
use Rattle.schedule.proofs.Sums.{length_from}
use Rattle.messages.specs.Tables.{Carriable}
use Rattle.solver.specs.Plan.{live_numbers, plan_along}
use Rattle.solver.specs.Stages.{Runnable}
use Rattle.solver.proofs.GraphOnce.{low}

module _ (g : Graph) (v : valid g ≡ true) (N order : List ℕ) (live : (i : ℕ) → In i N → i < g.count) (distinct : (f : ℕ) → count f N ≤ 1)
    (each : Each g.variables order) where
  abbrev n : ℕ
  n = g.variables

  abbrev K : ℕ → List ℕ
  K = factor_keys g

  known : (i : ℕ) → In i N → In i (from 0 g.count)
  known i h = omega (arith, from_in i 0 g.count (omega arith) (omega (arith, live i h)))

  long : length order ≡ n
  long = order_long n order each

  -- a pass along an order of all keys
  carriable : (o : List ℕ) → Each n o → Carriable g (full_pass n K N o)
  carriable o all =
      record {
        sound = v;
        few = omega (arith, few-messages n K N o all, order_long n o all, valid-variables g v);
        tidy = λ j h. tidy-more known (tidy n K N o all j h);
        older = older n K N o all;
      }

  back : Each n (reverse order)
  back j = count-reverse j order ∙ each j

  back_long : length (reverse order) ≡ n
  back_long = length-reverse order ∙ long

  pub runnable : Runnable g (schedule.plan n K N order)
  unfolding schedule.plan gather
  runnable =
      let fw : Carriable g (full_pass n K N order) = carriable order each in
      let bw : Carriable g (full_pass n K N (reverse order)) = carriable (reverse order) back in
      record {
        forward = fw;
        backward = bw;
        forward_steps = λ j h. omega (arith, steps n K N order each j h, long);
        backward_steps = λ j h. omega (arith, steps n K N (reverse order) back j h, back_long);
        for_each = length-map (from 0 n) _ ∙ length_from 0 n;
        settled =
            λ k h d. rw (gathered_at_lem n K N order distinct (λ f s. low g v f) each k h d)
            (settled-more known
            (settled n K N (full_pass n K N order) (full_pass n K N (reverse order)) (schedule.place_in k order) (n - 1 - schedule.place_in k order) k
            (λ j l x i. (fw.tidy j l).low x (omega arith)) (λ j l x i. (bw.tidy j l).low x (omega arith)) (λ i s x u. low g v i x u)));
      }

-- over the live factors
pub along-runnable : (g : Graph) (order : List ℕ) → valid g ≡ true → each_once g.variables order ≡ true → Runnable g (plan_along g order)
unfolding plan_along
along-runnable g order v o =
    runnable g v (live_numbers g) order (λ i h. (rising_in g.count (live_at g) i h).1) (rising_once g.count (live_at g))
    (order_each g.variables order o)
