-- `marginals::find_marginals` meets its contract. The loop's invariant: the results hold the marginals of the keys before. Assumes nothing.
use mathlib.Core.Path.{refl}
use native.Mathlib.Omega.{arith}
use borrow.Author.Rules.{rules}
use lib.ListN.{length}
use Rattle.std.proofs.lemmas.Result.{err_from_is_err_and}
use Rattle.marginals.proofs.KeyByKey.{walk_start}
use Rattle.marginals.proofs.Searching.{entries, search_done, turn_room, turn_asked, search_on, search_halted}
use Rattle.marginals.proofs.find_marginals.Goals as goal

pub loop-key-init : goal.loop-key-init
loop-key-init c =
    let args = c.args in
    (refl, walk_start args.g.sizes args.s.factors.now args.s.messages.now args.s.tables.keys.now args.s.tables.heads.now (entries args.at args.g.variables) args.results.now)

pub find_marginal-requires : goal.find_marginal-requires
find_marginal-requires c =
    let args = c.args in
    let loop = c.loop-key in
    record {
      held = turn_asked args.g args.at args.s.factors.now args.s.messages.now (length args.work.now) args.s.tables.keys.now args.s.tables.heads.now
          args.results.now c.requires loop.results loop.to loop.key loop.invariant.1 c.loop-key-test.true (length loop.work) loop.invariant.0;
      key_in_bounds = turn_room args.g args.at args.s.factors.now args.s.messages.now (length args.work.now) args.s.tables.keys.now args.s.tables.heads.now
          args.results.now c.requires loop.results loop.to loop.key loop.invariant.1 c.loop-key-test.true;
    }

pub returns-in_err-find_marginal : goal.returns-in_err-find_marginal
returns-in_err-find_marginal c =
    let args = c.args in
    let loop = c.loop-key in
    let p = err_from_is_err_and c.from_residual.result c.from_residual.ensures.1 in
    rw (p.1, p.2)
    (search_halted args.g args.at args.s.factors.now args.s.messages.now (length args.work.now) args.s.tables.keys.now args.s.tables.heads.now
    args.results.now c.requires loop.results loop.to loop.key loop.invariant.1
    c.loop-key-test.true _ _ c.in_err-find_marginal.ensures.result_value)

pub loop-key-preserved : goal.loop-key-preserved
loop-key-preserved c =
    let args = c.args in
    let loop = c.loop-key in (
      search rules,
      search_on args.g args.at args.s.factors.now args.s.messages.now (length args.work.now) args.s.tables.keys.now
          args.s.tables.heads.now args.results.now c.requires loop.results loop.to loop.key loop.invariant.1 c.loop-key-test.true _ c.size_of-size.result
          c.in_ok-find_marginal.ensures.result_value c.in_ok-find_marginal.ensures.results_after c.size_of-size.ensures.0,
    )

pub returns : goal.returns
returns c =
    let args = c.args in
    let loop = c.loop-key in
    search_done args.g args.at args.s.factors.now args.s.messages.now (length args.work.now) args.s.tables.keys.now args.s.tables.heads.now
    args.results.now c.requires loop.results loop.to loop.key loop.invariant.1 (omega arith)
