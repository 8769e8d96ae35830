-- `slots::head_at` meets its contract: the six numbers are those of the table. Assumes nothing.
use native.Mathlib.Omega.{arith}
use Rattle.slots.specs.Tables.{head_of}
use Rattle.slots.proofs.head_at.Goals as goal

pub overflow_mul-p : goal.overflow_mul-p
overflow_mul-p c = omega arith

pub offset_bounds-heads-p : goal.offset_bounds-heads-p
offset_bounds-heads-p c = omega arith

pub bounds-heads-p : goal.bounds-heads-p
bounds-heads-p c = omega arith

pub overflow_add-result : goal.overflow_add-result
overflow_add-result c = omega arith

pub offset_bounds-heads-p-2 : goal.offset_bounds-heads-p-2
offset_bounds-heads-p-2 c = omega arith

pub bounds-heads-p-2 : goal.bounds-heads-p-2
bounds-heads-p-2 c = omega arith

pub overflow_add-result-2 : goal.overflow_add-result-2
overflow_add-result-2 c = omega arith

pub offset_bounds-heads-p-3 : goal.offset_bounds-heads-p-3
offset_bounds-heads-p-3 c = omega arith

pub bounds-heads-p-3 : goal.bounds-heads-p-3
bounds-heads-p-3 c = omega arith

pub overflow_add-result-3 : goal.overflow_add-result-3
overflow_add-result-3 c = omega arith

pub offset_bounds-heads-p-4 : goal.offset_bounds-heads-p-4
offset_bounds-heads-p-4 c = omega arith

pub bounds-heads-p-4 : goal.bounds-heads-p-4
bounds-heads-p-4 c = omega arith

pub overflow_add-result-4 : goal.overflow_add-result-4
overflow_add-result-4 c = omega arith

pub offset_bounds-heads-p-5 : goal.offset_bounds-heads-p-5
offset_bounds-heads-p-5 c = omega arith

pub bounds-heads-p-5 : goal.bounds-heads-p-5
bounds-heads-p-5 c = omega arith

pub overflow_add-result-5 : goal.overflow_add-result-5
overflow_add-result-5 c = omega arith

pub offset_bounds-heads-p-6 : goal.offset_bounds-heads-p-6
offset_bounds-heads-p-6 c = omega arith

pub bounds-heads-p-6 : goal.bounds-heads-p-6
bounds-heads-p-6 c = omega arith

pub returns : goal.returns
unfolding head_of
returns c = rw c.slot_of.ensures
