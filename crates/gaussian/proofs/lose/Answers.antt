-- `gaussian::lose` meets its contract: five changes in the definition's order. Assumes nothing.
use Rattle.gaussian.proofs.Ending.{lose-is}
use Rattle.gaussian.proofs.lose.Goals as goal

pub returns : goal.returns
returns c =
    lose-is _ _ _ _ _ _ _ _ c.solve_at.ensures.matrices_after c.solve_at-2.ensures.matrices_after
    c.fill_upper_in_x.ensures c.subtract_at.ensures
    c.subtract_at-2.ensures
