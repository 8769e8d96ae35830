-- The buffer is never too short, and the length that is answered is within it.
use Rattle.std.proofs.Common.{◌∙◌, sym, arith}
use Rattle.streams.proofs.Unless.{ok_unless}
use Rattle.job.proofs.Endings.{written-within, short_of}
use Rattle.ordered.proofs.print_plan.Goals as goal

pub unwrap-n-requires : goal.unwrap-n-requires
unwrap-n-requires c = ok_unless c.show_along.result (λ short e. omega (arith, short_of _ _ _ c.show_along.ensures.value short e, c.show_along.ensures.order_len_bound))

pub slice_bounds-print-end : goal.slice_bounds-print-end
slice_bounds-print-end c = omega (arith, written-within _ _ _ (sym c.show_along.ensures.value ∙ c.unwrap-n.ensures))
