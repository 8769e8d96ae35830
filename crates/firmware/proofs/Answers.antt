-- A buffer of 22,944 bytes takes the text of every job, so the answer is its length. Assumes nothing.
use Prim.Native.Nat.{ℕ, ◌≤◌}
use mathlib.Core.Path.{◌≡◌, ap}
use mathlib.Core.List.{List}
use lib.ListN.{length}
use Rattle.lines.specs.Lines.{written, length_of}
use Rattle.job.specs.Job.{job_text}
use Rattle.job.proofs.Longest.{never_short}

-- what C calls STRIPS_OUTPUT
abbrev pub output_bytes : ℕ
output_bytes = 22944

pub always_fits : (bytes out : List ℕ) → output_bytes ≤ length out → length_of (written out (job_text bytes)) ≡ length (job_text bytes)
always_fits bytes out l = ap length_of (never_short bytes out l)
