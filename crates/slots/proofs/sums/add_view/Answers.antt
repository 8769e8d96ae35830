-- `slots::sums::add_view` meets its contract: the three parts of the numbers are A, xi and W. Assumes nothing.
use mathlib.Core.Path.{refl, ◌∙◌}
use native.Mathlib.Omega.{arith}
use Rattle.workspace.proofs.Cuts.{relaid}
use Rattle.slots.proofs.OneFactor.{view_prior, view_other, branch_prior, branch_other, wide_other, offsets, part_sizes, prior_sizes}
use Rattle.slots.proofs.sums.add_view.Goals as goal

pub overflow_mul-p : goal.overflow_mul-p
overflow_mul-p c =
    let b = offsets c.requires.fitted in omega (arith, c.requires.fitted.rows)

pub overflow_add-q : goal.overflow_add-q
overflow_add-q c =
    let b = offsets c.requires.fitted in omega (arith, c.requires.fitted.rows)

pub overflow_mul-e : goal.overflow_mul-e
overflow_mul-e c =
    let b = offsets c.requires.fitted in omega (arith, c.requires.fitted.rows)

pub overflow_add-e : goal.overflow_add-e
overflow_add-e c =
    let b = offsets c.requires.fitted in omega (arith, c.requires.fitted.rows)

pub bounds-keys-0 : goal.bounds-keys-0
bounds-keys-0 c = c.requires.fitted.some c.if-prior.true

pub find-k-requires : goal.find-k-requires
find-k-requires c =
    (c.requires.fitted.known 0 (c.requires.fitted.some c.if-prior.true)).listed

pub offset_bounds-nums-p : goal.offset_bounds-nums-p
offset_bounds-nums-p c =
    let b = offsets c.requires.fitted in
    omega (arith, c.requires.fitted.rows)

pub slice_bounds-add_prior-count : goal.slice_bounds-add_prior-count
slice_bounds-add_prior-count c = omega arith

pub offset_bounds-nums-q : goal.offset_bounds-nums-q
offset_bounds-nums-q c =
    let b = offsets c.requires.fitted in
    omega (arith, c.requires.fitted.rows)

pub slice_bounds-add_prior-count-then-prior : goal.slice_bounds-add_prior-count-then-prior
slice_bounds-add_prior-count-then-prior c = omega arith

pub add_prior-requires : goal.add_prior-requires
add_prior-requires c =
    let l = c.requires.frame_laid in
    let q = prior_sizes c.requires.fitted c.args.nums.now _ refl c.if-prior.true c.find-k.ensures in
    record { frame_laid = l; branch_fits = (rw c.find-k.ensures (branch_prior c.requires.fitted c.if-prior.true), rw c.find-k.ensures (c.requires.fitted.known 0 (c.requires.fitted.some c.if-prior.true)).sits); size_in_bounds = (q.0, q.1) }

pub returns-then-prior : goal.returns-then-prior
returns-then-prior c =
    let args = c.args in
    view_prior args.branch args.f args.layout args.row args.prior args.keys.now args.y args.d args.nums.now _ _ _
    c.if-prior.true
    c.find-k.ensures c.add_prior.ensures

pub offset_bounds-nums-p-2 : goal.offset_bounds-nums-p-2
offset_bounds-nums-p-2 c = omega arith

pub slice_bounds-copy_rows-count : goal.slice_bounds-copy_rows-count
slice_bounds-copy_rows-count c = omega arith

pub offset_bounds-nums-q-2 : goal.offset_bounds-nums-q-2
offset_bounds-nums-q-2 c = omega arith

pub slice_bounds-copy_rows-count-2 : goal.slice_bounds-copy_rows-count-2
slice_bounds-copy_rows-count-2 c = omega arith

pub copy_rows-requires : goal.copy_rows-requires
copy_rows-requires c =
    let args = c.args in
    let l = c.requires.frame_laid in
    record {
      frame_laid = l;
      branch_fits = (
        branch_other c.requires.fitted c.if-prior.false,
        (part_sizes c.requires.fitted args.nums.now refl).0,
        (part_sizes c.requires.fitted args.nums.now refl).1,
      );
    }

pub offset_bounds-nums-o : goal.offset_bounds-nums-o
offset_bounds-nums-o c = omega arith

pub slice_bounds-add_keys-count : goal.slice_bounds-add_keys-count
slice_bounds-add_keys-count c = omega arith

pub offset_bounds-nums-p-3 : goal.offset_bounds-nums-p-3
offset_bounds-nums-p-3 c =
    let b = offsets c.requires.fitted in
    omega (arith, c.requires.fitted.rows)

pub slice_bounds-add_keys-count-2 : goal.slice_bounds-add_keys-count-2
slice_bounds-add_keys-count-2 c = omega arith

pub offset_bounds-nums-q-3 : goal.offset_bounds-nums-q-3
offset_bounds-nums-q-3 c =
    let b = offsets c.requires.fitted in
    omega (arith, c.requires.fitted.rows)

pub slice_bounds-add_keys-count-3 : goal.slice_bounds-add_keys-count-3
slice_bounds-add_keys-count-3 c = omega arith

pub add_keys-requires : goal.add_keys-requires
add_keys-requires c =
    let args = c.args in
    let l = c.requires.frame_laid in
    record {
      frame_laid = relaid args.f c.copy_rows.auto.work l;
      branch_fits = (branch_other c.requires.fitted c.if-prior.false, c.requires.fitted.scratch);
      y_in_bounds = (
        (part_sizes c.requires.fitted args.nums.now refl).0,
        (part_sizes c.requires.fitted args.nums.now refl).1,
      );
      known = c.requires.fitted.known;
      wide = wide_other c.requires.fitted _ c.if-prior.false (part_sizes c.requires.fitted args.nums.now refl).2;
    }

pub shape_of-work : goal.shape_of-work
shape_of-work c = c.add_keys.auto.work
    ∙ c.copy_rows.auto.work

pub returns : goal.returns
returns c =
    let args = c.args in
    view_other args.branch args.f args.layout args.row args.prior args.keys.now args.y args.d args.nums.now _ _ _
    c.if-prior.false c.copy_rows.ensures c.add_keys.ensures
