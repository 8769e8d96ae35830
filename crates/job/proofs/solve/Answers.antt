-- `job::solve`: the run with keys rising.
use Rattle.std.proofs.Common.{◌≡◌, rules, length}
use Rattle.workspace.specs.Frames.{work_numbers}
use Rattle.solver.specs.Run.{run_verdict, run}
use Rattle.job.specs.Job.{message_room, marginal_room, zeros, run_text, job_text}
use Rattle.job.proofs.solve.Goals as goal

pub returns : goal.returns
unfolding job_text run_text
returns c =
    let all = c.answer.ensures (λ g factors. run g factors (zeros message_room) work_numbers (zeros marginal_room))
    (λ g factors messages work marginals ran messages' work' marginals' p m w r.
    let met : run_verdict ran messages'.now marginals'.now ≡ run g factors.now messages.now (length work.now) marginals.now = search rules in
    rw (← m, ← w, ← r) met) in
    record { value = all.0; out_after = all.1 }
