-- The buffer is never too short, and the length that is answered is within it.
use Rattle.std.proofs.Common.{◌∙◌, sym, arith}
use Rattle.streams.proofs.Unless.{ok_unless}
use Rattle.job.proofs.Endings.{written-within}
use Rattle.job.proofs.Longest.{job_most, told-short}
use Rattle.replay.proofs.print_answer.Goals as goal

pub unwrap-n-requires : goal.unwrap-n-requires
unwrap-n-requires c = ok_unless c.solve.result (λ short e. omega (arith, told-short _ _ _ (job_most _) c.solve.ensures.value short e))

pub slice_bounds-print_numbered-end : goal.slice_bounds-print_numbered-end
slice_bounds-print_numbered-end c = omega (arith, written-within _ _ _ (sym c.solve.ensures.value ∙ c.unwrap-n.ensures))
