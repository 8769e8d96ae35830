-- `graph::Graph::add_factor` meets its contract: its ways out are those of the verdict (`proofs/CheckOrder.antt`). Assumes nothing.
use mathlib.Core.Path.{refl}
use borrow.Author.Rules.{rules}
use Rattle.std.specs.Prelude.{Ok, Err}
use Rattle.factor.proofs.Counting.{tells}
use Rattle.factor.proofs.Fitting.{fits_touched}
use Rattle.cholesky.specs.declared.Fault.TheVariants.{Pivot, NotFinite}
use Rattle.graph.proofs.Validity.{rows-most}
use Rattle.graph.proofs.CheckOrder.{Ends, asymmetric, ended, room_for, square-finite, turned_back_lem}
use Rattle.graph.proofs.Graph.add_factor.Goals as goal

pub lengths_fit-requires : goal.lengths_fit-requires
lengths_fit-requires c = fits_touched c.args.self.now.sizes c.args.self.now.variables c.args.f c.requires.1

pub numbers-requires : goal.numbers-requires
numbers-requires c = fits_touched c.args.self.now.sizes c.args.self.now.variables c.args.f c.requires.1

pub symmetric-requires : goal.symmetric-requires
symmetric-requires c =
    let args = c.args in
    square-finite args.self.now args.f args.a.now args.mean.now args.variance.now args.store.now c.offset-start.result (search rules)

pub returns-then-not-symmetric : goal.returns-then-not-symmetric
returns-then-not-symmetric c =
    let args = c.args in
    let all = turned_back_lem args.self.now args.f args.store.now args.store.now _ _ (asymmetric args.self.now args.f args.a.now args.mean.now args.variance.now
    args.store.now c.offset-start.result (search rules) (tells c.symmetric.ensures c.if-not-symmetric.true)) refl in
    record { graph_after = all.0; value = all.1; store_after = all.2 }

pub store_factor-requires : goal.store_factor-requires
store_factor-requires c =
    let args = c.args in
    room_for args.self.now args.f args.a.now args.mean.now args.variance.now args.store.now c.offset-start.result (search rules)
    (rows-most args.self.now c.requires.0 args.f c.requires.1)

pub returns-in-Err-Pivot : goal.returns-in-Err-Pivot
returns-in-Err-Pivot c =
    let args = c.args in
    let p : Ends args.self.now args.f args.a.now args.mean.now args.variance.now args.store.now c.store_factor.new.store (Err Pivot) =
    ended args.self.now args.f args.a.now args.mean.now args.variance.now args.store.now c.offset-start.result (search rules)
    (tells c.symmetric.ensures c.if-not-symmetric.false) c.store_factor.new.store (Err Pivot) (search rules) c.store_factor.ensures.store_after in
    let all = turned_back_lem args.self.now args.f args.store.now _ _ _ p.0 p.1 in record { graph_after = all.0; value = all.1; store_after = all.2 }

pub returns-in-Err-NotFinite : goal.returns-in-Err-NotFinite
returns-in-Err-NotFinite c =
    let args = c.args in
    let p : Ends args.self.now args.f args.a.now args.mean.now args.variance.now args.store.now c.store_factor.new.store (Err NotFinite) =
    ended args.self.now args.f args.a.now args.mean.now args.variance.now args.store.now c.offset-start.result (search rules)
    (tells c.symmetric.ensures c.if-not-symmetric.false) c.store_factor.new.store (Err NotFinite) (search rules) c.store_factor.ensures.store_after in
    let all = turned_back_lem args.self.now args.f args.store.now _ _ _ p.0 p.1 in record { graph_after = all.0; value = all.1; store_after = all.2 }

pub returns : goal.returns
returns c =
    let args = c.args in
    let p : Ends args.self.now args.f args.a.now args.mean.now args.variance.now args.store.now c.store_factor.new.store (Ok tt) =
    ended args.self.now args.f args.a.now args.mean.now args.variance.now args.store.now c.offset-start.result (search rules)
    (tells c.symmetric.ensures c.if-not-symmetric.false) c.store_factor.new.store (Ok tt) (search rules) c.store_factor.ensures.store_after in
    record { graph_after = p.0; value = p.1; store_after = p.2 }
