-- `solver::run::third_stage` meets its contract: the results are copied once all are found. Assumes nothing.
use mathlib.Core.Path.{refl}
use Rattle.solver.proofs.Stages.{with_room, third-refused, third-done}
use native.Mathlib.Omega.{arith}
use Rattle.solver.proofs.run.third_stage.Goals as goal

pub find_marginals-requires : goal.find_marginals-requires
find_marginals-requires c = with_room c.requires _ (omega arith)

pub returns-in-Err : goal.returns-in-Err
returns-in-Err c figure =
    let args = c.args in
    third-refused args.g args.at figure args.s.factors.now args.s.messages.now args.s.tables.keys.now args.s.tables.heads.now args.marginals.now _ _ _
    c.find_marginals.ensures _ c.in-Err.is

pub returns : goal.returns
returns c figure =
    let args = c.args in
    third-done args.g args.at figure args.s.factors.now args.s.messages.now args.s.tables.keys.now args.s.tables.heads.now args.marginals.now _ _ _
    c.find_marginals.ensures _ _ _ c.in_default.is c.marginal_numbers-n.ensures.0 c.copy_from_slice.ensures.after refl
