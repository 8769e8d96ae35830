-- `solver::arrange_along` meets its contract: the factors of a valid graph are what a plan asks for (`proofs/Tables.antt`), and so is an order that
-- passes the test. Assumes nothing.
use mathlib.Core.Bool.{true}
use mathlib.Core.Path.{◌≡◌, ◌∙◌, sym, subst}
use Prim.Native.Nat.{ℕ}
use native.Mathlib.Omega.{arith}
use lib.ListN.{length, take}
use Rattle.factor.proofs.Counting.{tells}
use Rattle.graph.specs.Record.{valid}
use Rattle.graph.proofs.Validity.{valid-variables, valid-count}
use Rattle.schedule.specs.Count.{each_once}
use Rattle.schedule.proofs.Orders.{Each, order_each, order_long}
use Rattle.plan.proofs.Rising.{live-ordered}
use Rattle.solver.proofs.Tables.{registered}
use Rattle.solver.proofs.Answers.{along_plan, held, no_graph, no_order}
use Rattle.solver.proofs.arrange_along.Goals as goal
use Rattle.solver.proofs.arrange_along.Goals.{After-in_array-keys}

-- the graph is valid, and the order is one, with its keys in their array
module _ (c : After-in_array-keys) where
  is-valid : valid c.args.g ≡ true
  is-valid = tells c.valid.ensures.0 c.if-not-valid.false

  passes : each_once c.args.g.variables c.args.order.now ≡ true
  passes = tells c.is_order.ensures c.if-not-is_order.false

  long : length c.args.order.now ≡ c.args.g.variables
  long = order_long _ _ (order_each _ _ passes)

  keys-are : take c.args.g.variables c.in_array-keys.result ≡ c.args.order.now
  keys-are = subst (λ (m : ℕ). take m c.in_array-keys.result ≡ c.args.order.now) long c.in_array-keys.ensures

pub returns-then-not-valid-clause-result_value : goal.returns-then-not-valid-clause-result_value
returns-then-not-valid-clause-result_value c = no_graph _ _ (tells c.valid.ensures.0 c.if-not-valid.true)

pub is_order-requires : goal.is_order-requires
is_order-requires c = valid-variables _ (tells c.valid.ensures.0 c.if-not-valid.false)

pub returns-then-not-is_order-clause-result_value : goal.returns-then-not-is_order-clause-result_value
returns-then-not-is_order-clause-result_value c =
    no_order _ _ (tells c.valid.ensures.0 c.if-not-valid.false) (tells c.is_order.ensures c.if-not-is_order.true)

pub live_of-live-requires : goal.live_of-live-requires
live_of-live-requires c = valid-count _ (tells c.valid.ensures.0 c.if-not-valid.false)

pub in_array-keys-requires : goal.in_array-keys-requires
in_array-keys-requires c =
    let v = tells c.valid.ensures.0 c.if-not-valid.false in
    let o = tells c.is_order.ensures c.if-not-is_order.false in
    omega (arith, order_long _ _ (order_each _ _ o), valid-variables _ v)

pub plan_of-requires : goal.plan_of-requires
plan_of-requires c =
    let a = (goal.at.plan_of-requires c).After-in_array-keys in
    record {
      registered = registered _ (is-valid a);
      ordered = live-ordered _ _ _ _ _ c.live_of-live.ensures (subst (Each _) (sym (keys-are a)) (order_each _ _ (passes a)));
    }

pub returns : goal.returns
returns c =
    let a = (goal.at.returns c).After-in_array-keys in
    record {
      result_value = held _ _ _ (is-valid a) (passes a) (c.plan_of.ensures.result_value ∙ along_plan _ _ _ _ c.live_of-live.ensures (keys-are a));
      keys_le_max_variables = (valid-variables _ (is-valid a), c.plan_of.ensures.bounded);
    }
