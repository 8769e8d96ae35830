-- `job::deciding` meets its contract: that many bytes decide (`first_bytes_decide`). Assumes nothing.
use mathlib.Core.Path.{refl}
use Rattle.job.proofs.Longest.{first_bytes_decide}
use Rattle.job.proofs.deciding.Goals as goal

pub returns : goal.returns
returns c = (refl, first_bytes_decide)
