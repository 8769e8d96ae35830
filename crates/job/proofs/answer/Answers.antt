-- `job::answer`: whichever way the reading ended, what is laid is the text of that ending.
use Rattle.std.proofs.Common.{List, rules, ◌∙◌}
use Rattle.std.specs.Prelude.{Float}
use lib.Ieee.{of_bits}
use Rattle.graph.specs.declared.Graph.{Graph}
use Rattle.job.specs.Job.{verdict_text}
use Rattle.job.proofs.Endings.{lays_same, ended, whole, reading-refused}
use Rattle.job.proofs.answer.Goals as goal

pub returns-in-Ok : goal.returns-in-Ok
unfolding of_bits
returns-in-Ok g c = λ verdict runs.
    let read = c.read-read in
    let ran = runs _ _ _ _ _ _ _ _ _ c.run-ran.ensures (search rules) (search rules) (search rules) in
    lays_same c.args.out.now _ _ _ _ (ended read.result.graph c.run-ran.result _ _ _ ran
    ∙ whole (λ (g : Graph) (factors : List Float). verdict_text g (verdict g factors)) c.args.bytes.now _ read.result read.ensures.value.0 read.ensures.store_after _
    c.in-Ok.is) (c.lay_ended.ensures.value, c.lay_ended.ensures.out_after)

pub returns-in-Err : goal.returns-in-Err
unfolding of_bits
returns-in-Err g c = λ verdict runs.
    let read = c.read-read in
    lays_same c.args.out.now _ _ _ _ (reading-refused (λ (g : Graph) (factors : List Float). verdict_text g (verdict g factors)) c.args.bytes.now _ read.result
    read.ensures.value.0 read.ensures.store_after _ c.in-Err.is) (c.lay_refusal.ensures.value, c.lay_refusal.ensures.out_after)
