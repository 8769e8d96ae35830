-- `root::guess` is safe: both its patterns lie below the infinity's. Assumes nothing.
use Rattle.std.proofs.Common.{arith}
use Rattle.root.proofs.Values.{no_nan_bits}
use Rattle.root.proofs.guess.Goals as goal

pub float_from_bits-m : goal.float_from_bits-m
float_from_bits-m c = no_nan_bits _ c.requires

pub float_from_bits-z : goal.float_from_bits-z
float_from_bits-z c = no_nan_bits _ (omega arith)
