-- `slots::add_slot` meets its contract: what is read is the factor that the head tells, and it fits. Assumes nothing.
use Prim.Native.Nat.{ℕ, ◌+◌}
use mathlib.Core.Path.{ap, ◌∙◌}
use native.Mathlib.Omega.{arith}
use Rattle.slots.specs.Tables.{slot_store, head_keys}
use Rattle.slots.proofs.OneFactor.{offsets}
use Rattle.slots.proofs.Reading.{refit, rows_is, prior-key, view_read, rows_bound}
use Rattle.slots.proofs.add_slot.Goals as goal

pub overflow_add-q : goal.overflow_add-q
overflow_add-q c = omega (arith, c.requires.slot_ready.listed)

pub offset_bounds-keys-p : goal.offset_bounds-keys-p
offset_bounds-keys-p c = omega arith

pub slice_bounds-ks-count : goal.slice_bounds-ks-count
slice_bounds-ks-count c = omega arith

pub overflow_mul-n : goal.overflow_mul-n
overflow_mul-n c =
    let b = offsets c.requires.slot_ready.fitted in
    omega (arith, c.requires.slot_ready.fitted.rows)

pub overflow_add-n : goal.overflow_add-n
overflow_add-n c =
    let b = offsets c.requires.slot_ready.fitted in
    omega (arith, c.requires.slot_ready.fitted.rows)

pub overflow_mul-n-2 : goal.overflow_mul-n-2
overflow_mul-n-2 c =
    let b = offsets c.requires.slot_ready.fitted in
    omega (arith, c.requires.slot_ready.fitted.rows)

pub overflow_add-n-2 : goal.overflow_add-n-2
overflow_add-n-2 c =
    let b = offsets c.requires.slot_ready.fitted in
    omega (arith, c.requires.slot_ready.fitted.rows)

pub numbers-nums-requires : goal.numbers-nums-requires
numbers-nums-requires c = c.requires.slot_ready.stored

pub add_view-requires : goal.add_view-requires
add_view-requires c =
    let args = c.args in
    record {
      frame_laid = c.requires.frame_laid;
      fitted = refit (slot_store args.h.slot args.s.factors.now args.s.messages.now) _ args.h.at c.numbers-nums.ensures
          c.requires.slot_ready.stored c.requires.slot_ready.fitted;
    }

pub rows_of-requires : goal.rows_of-requires
rows_of-requires c = prior-key c.requires.slot_ready

pub overflow_add-result : goal.overflow_add-result
overflow_add-result c =
    let args = c.args in
    omega (arith, c.requires.slot_ready.low, c.rows_of.ensures, rows_bound args.layout args.s.tables.keys.now args.h c.requires.slot_ready.fitted.rows)

pub returns : goal.returns
returns c =
    let args = c.args in
    record {
      value = ap (λ (k : ℕ). args.row + k) (c.rows_of.ensures ∙ rows_is c.requires.slot_ready);
      work_after = view_read args.branch args.f args.layout args.row args.h.prior (head_keys args.s.tables.keys.now args.h) args.h.rows
          args.h.width _ _ _ _ c.numbers-nums.ensures
          c.add_view.ensures;
    }
