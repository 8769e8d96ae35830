-- `slots::numbers` meets its contract: the slot tells the store, and the part is within it. Assumes nothing.
use native.Mathlib.Omega.{arith}
use Rattle.slots.proofs.numbers.Goals as goal

pub overflow_add-result : goal.overflow_add-result
overflow_add-result c = omega (arith, rw c.in-Original.is at c.requires)

pub offset_bounds-factors-at : goal.offset_bounds-factors-at
offset_bounds-factors-at c = omega (arith, rw c.in-Original.is at c.requires)

pub slice_bounds-result-count : goal.slice_bounds-result-count
slice_bounds-result-count c = omega arith

pub slice_bounds-result-end : goal.slice_bounds-result-end
slice_bounds-result-end c = omega (arith, rw c.in-Original.is at c.requires)

pub overflow_add-result-in-Closed : goal.overflow_add-result-in-Closed
overflow_add-result-in-Closed c = omega (arith, rw c.in-Closed.is at c.requires)

pub offset_bounds-messages-at : goal.offset_bounds-messages-at
offset_bounds-messages-at c = omega (arith, rw c.in-Closed.is at c.requires)

pub slice_bounds-result-count-in-Closed : goal.slice_bounds-result-count-in-Closed
slice_bounds-result-count-in-Closed c = omega arith

pub slice_bounds-result-end-in-Closed : goal.slice_bounds-result-end-in-Closed
slice_bounds-result-end-in-Closed c = omega (arith, rw c.in-Closed.is at c.requires)

pub returns-in-Original : goal.returns-in-Original
returns-in-Original c = rw c.in-Original.is

pub returns-in-Closed : goal.returns-in-Closed
returns-in-Closed c = rw c.in-Closed.is
