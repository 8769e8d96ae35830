-- `solver::run::place_plan` meets its contract: the originals are placed, then both passes one after the other. Assumes nothing.
use mathlib.Core.Path.{◌∙◌}
use Rattle.solver.proofs.Stages.{forwards, backwards, tables-filled, forward-most, all-ready}
use native.Mathlib.Omega.{arith}
use Rattle.solver.proofs.run.place_plan.Goals as goal

pub fill_originals-requires : goal.fill_originals-requires
fill_originals-requires c = record { g_value = c.requires.planned.runnable.forward.sound; max_factors_in_bounds = (omega (arith, c.requires.keys_len.0), omega (arith, c.requires.keys_len.1)) }

pub place_pass-forward_need-requires : goal.place_pass-forward_need-requires
place_pass-forward_need-requires c =
    let args = c.args in
    let w = forwards args.g args.p c.requires.planned in
    record { pass_ready = (w.0, w.1, omega arith, omega arith); tables = tables-filled args.g _ _ (c.fill_originals.auto.keys ∙ c.requires.keys_len.0) (c.fill_originals.auto.heads ∙ c.requires.keys_len.1) c.fill_originals.ensures }

pub place_pass-figure-requires : goal.place_pass-figure-requires
place_pass-figure-requires c =
    let args = c.args in
    let w = backwards args.g args.p c.requires.planned in
    record { pass_ready = (w.0, w.1, omega arith, omega (arith, c.place_pass-forward_need.ensures.value, forward-most args.g args.p c.requires.planned)); tables = c.place_pass-forward_need.ensures.tables_2.0 }

pub returns : goal.returns
returns c =
    let args = c.args in
    all-ready args.g args.p _ _ _ _ _ _ c.requires.planned c.place_pass-forward_need.ensures.value c.place_pass-figure.ensures.value c.place_pass-forward_need.ensures.tables_2.1
    c.place_pass-figure.ensures.before c.place_pass-figure.ensures.tables_2.0 c.place_pass-figure.ensures.tables_2.1
