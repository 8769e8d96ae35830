-- `solver::run::check_stores` meets its contract: each store that is short has its own way out. Assumes nothing.
use borrow.Author.Tests.{le-leb, lt-leb}
use Rattle.factor.specs.Counting.{every}
use Rattle.graph.specs.Record.{offset}
use Rattle.workspace.specs.Frames.{work_numbers}
use Rattle.marginals.specs.Marginals.{marginal_numbers}
use Rattle.solver.specs.Stages.{stores_of}
use native.Mathlib.Omega.{arith}
use Rattle.solver.proofs.run.check_stores.Goals as goal

pub returns-then-factors-offset : goal.returns-then-factors-offset
unfolding stores_of every
returns-then-factors-offset c =
    let a = c.args in rw (lt-leb (offset a.g a.g.count) a.factors (omega (arith, c.offset.ensures.0)))

pub returns-then-messages-figure : goal.returns-then-messages-figure
unfolding stores_of every
returns-then-messages-figure c =
    let a = c.args in
    rw (
      le-leb (offset a.g a.g.count) a.factors (omega (arith, c.offset.ensures.0)),
      lt-leb a.figure a.messages (omega arith),
    )

pub returns-then-work-lt-WORK : goal.returns-then-work-lt-WORK
unfolding stores_of every
returns-then-work-lt-WORK c =
    let a = c.args in
    rw (
      le-leb (offset a.g a.g.count) a.factors (omega (arith, c.offset.ensures.0)),
      le-leb a.figure a.messages (omega arith),
      lt-leb work_numbers a.work (omega arith),
    )

pub returns-then-marginals-marginal_numbers : goal.returns-then-marginals-marginal_numbers
unfolding stores_of every
returns-then-marginals-marginal_numbers c =
    let a = c.args in
    rw (
      le-leb (offset a.g a.g.count) a.factors (omega (arith, c.offset.ensures.0)),
      le-leb a.figure a.messages (omega arith),
      le-leb work_numbers a.work (omega arith),
      lt-leb (marginal_numbers a.g) a.marginals
          (omega (arith, c.marginal_numbers.ensures.0)),
    )

pub returns : goal.returns
unfolding stores_of every
returns c =
    let a = c.args in
    rw (
      le-leb (offset a.g a.g.count) a.factors (omega (arith, c.offset.ensures.0)),
      le-leb a.figure a.messages (omega arith),
      le-leb work_numbers a.work (omega arith),
      le-leb (marginal_numbers a.g) a.marginals
          (omega (arith, c.marginal_numbers.ensures.0)),
    )
