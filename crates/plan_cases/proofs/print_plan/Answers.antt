-- The buffer is never too short, and the length that is answered is within it.
use Rattle.std.proofs.Common.{◌∙◌, sym, arith}
use Rattle.streams.proofs.Unless.{ok_unless}
use Rattle.job.proofs.Endings.{written-within, short_of}
use Rattle.plan_cases.proofs.print_plan.Goals as goal

pub unwrap-n-requires : goal.unwrap-n-requires
unwrap-n-requires c = ok_unless c.show.result (λ short e. omega (arith, short_of _ _ _ c.show.ensures.value short e, c.show.ensures.bytes_len_bound))

pub slice_bounds-print_numbered-end : goal.slice_bounds-print_numbered-end
slice_bounds-print_numbered-end c = omega (arith, written-within _ _ _ (sym c.show.ensures.value ∙ c.unwrap-n.ensures))
