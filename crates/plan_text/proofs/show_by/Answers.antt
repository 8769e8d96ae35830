-- `plan_text::show_by`: whichever way the reading ended, what is laid is the text of that ending.
use Rattle.std.proofs.Common.{ap, arith}
use lib.Ieee.{of_bits}
use Rattle.job.proofs.Endings.{whole, reading-refused}
use Rattle.plan_text.proofs.Answers.{placed}
use Rattle.plan_text.proofs.Longest.{refusal-within, shows_same}
use Rattle.plan_text.proofs.show_by.Goals as goal

pub returns-in-Ok : goal.returns-in-Ok
unfolding of_bits
returns-in-Ok g c = λ text shows.
    let read = c.read-read in
    shows_same _ _ c.args.out.now _ _ (whole (λ g factors. text g) c.args.bytes.now _ read.result read.ensures.value.0 read.ensures.store_after _ c.in-Ok.is)
    (shows _ read.ensures.value.1 _ _ _ c.lay.ensures)

pub returns-in-Err : goal.returns-in-Err
unfolding of_bits
returns-in-Err g c = λ text shows.
    let read = c.read-read in
    shows_same _ _ c.args.out.now _ _ (reading-refused (λ g factors. text g) c.args.bytes.now _ read.result read.ensures.value.0 read.ensures.store_after _
    c.in-Err.is) (record {
      value = c.lay_refusal.ensures.value;
      out_after = c.lay_refusal.ensures.out_after;
      within = refusal-within c.in-Err.rejected.why 0 c.in-Err.rejected.place (omega arith)
          (omega (arith, placed c.args.bytes.now read.result.ended (ap (λ r. r.ended) read.ensures.value.0) c.in-Err.rejected c.in-Err.is));
    })
