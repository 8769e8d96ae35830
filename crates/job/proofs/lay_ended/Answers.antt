-- `job::lay_ended`: the marginal store has room for the numbers of every graph.
use Rattle.std.proofs.Common.{arith}
use Rattle.job.proofs.Endings.{marginals_fit}
use Rattle.job.proofs.lay_ended.Goals as goal

pub lay_lines-requires : goal.lay_lines-requires
lay_lines-requires c = (c.requires.0, omega (arith, c.requires.1, marginals_fit c.args.g c.requires.0))
