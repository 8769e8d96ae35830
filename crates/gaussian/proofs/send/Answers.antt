-- `gaussian::send` meets its contract: the message is a part of the work store, and the copy is as long. Assumes nothing.
use Rattle.std.proofs.Common.{◌≡◌, ◌-◌, length, arith, ap, ◌+◌}
use Rattle.matrix.specs.Views.{part}
use Rattle.workspace.proofs.Parts.{length_part}
use Rattle.gaussian.proofs.Branches.{Spans, spans, sent_is}
use Rattle.gaussian.proofs.send.Goals as goal
use Rattle.gaussian.proofs.send.Goals.{After-frame_of-f}

ends : (c : After-frame_of-f) → Spans c.args.rows c.args.d c.frame_of-f.result
ends c = spans _ _ _ _ c.frame_of-f.ensures c.requires.d_bound.0 c.requires.d_bound.1

pub offset_bounds-work-f : goal.offset_bounds-work-f
offset_bounds-work-f c = let s = ends (goal.at.offset_bounds-work-f c).After-frame_of-f in omega arith

pub slice_bounds-message-count : goal.slice_bounds-message-count
slice_bounds-message-count c = let s = ends (goal.at.slice_bounds-message-count c).After-frame_of-f in omega arith

pub slice_bounds-message-start : goal.slice_bounds-message-start
slice_bounds-message-start c = let s = ends (goal.at.slice_bounds-message-start c).After-frame_of-f in omega arith

pub slice_bounds-message-end : goal.slice_bounds-message-end
slice_bounds-message-end c = let s = ends (goal.at.slice_bounds-message-end c).After-frame_of-f in omega arith

pub slice_bounds-copy_from_slice-end : goal.slice_bounds-copy_from_slice-end
slice_bounds-copy_from_slice-end c =
    let f = c.frame_of-f.result in
    let s = ends (goal.at.slice_bounds-copy_from_slice-end c).After-frame_of-f in
    let n : length (part c.args.work.now f.a f.end) ≡ f.end - f.a = length_part c.args.work.now f.a f.end (omega arith) in
    omega arith

pub returns : goal.returns
returns c =
    let args = c.args in
    let f = c.frame_of-f.result in
    let s = ends (goal.at.returns c).After-frame_of-f in
    let n : length (part args.work.now f.a f.end) ≡ f.end - f.a = length_part args.work.now f.a f.end (omega arith) in
    sent_is args.u args.rows args.d args.to _ f args.messages.now args.work.now _ c.frame_of-f.ensures (ap (λ k. args.to + k) n) c.copy_from_slice.ensures.after
