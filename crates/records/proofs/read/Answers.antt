-- `records::read` meets its contract. The loop's invariant: reading on from here comes to the whole; as many records were taken as were counted, and
-- each took a byte or more. Assumes nothing.
use Prim.Native.Nat.{ℕ, ◌+◌, ◌-◌, ◌≤◌, ◌<◌}
use mathlib.Core.Path.{◌≡◌, refl}
use mathlib.Core.Bool.{true}
use mathlib.Core.List.{List}
use native.Mathlib.Omega.{arith}
use lib.Ieee.{Float}
use lib.ListN.{length}
use Rattle.std.specs.Prelude.{Result}
use Rattle.graph.proofs.Keeping.{good_of}
use Rattle.graph.proofs.Calls.{fresh-reached}
use Rattle.graph.specs.Record.{fresh, valid}
use Rattle.graph.specs.Reached.{Reached}
use Rattle.graph.specs.declared.Graph.{Graph}
use Rattle.records.specs.Records.{Reading, reading, read_from, read_all}
use Rattle.records.specs.Told.{read_told}
use Rattle.records.specs.declared.answer.Rejected.{Rejected}
use Rattle.records.specs.declared.answer.Read.{Read}
use Rattle.records.proofs.Reading.{step-reached, all_read, on, off}
use Rattle.records.proofs.read.Goals as goal

-- before the first record
begun : (bytes : List ℕ) (store : List Float) (g : Graph) → g ≡ fresh → read_all bytes store ≡ read_from (length bytes - 0) bytes 0 0 g store
unfolding read_all
begun bytes store g e = let z : length bytes - 0 ≡ length bytes = omega arith in rw (z, e)

pub loop-at-init : goal.loop-at-init
loop-at-init c = record {
  counted = omega arith;
  within = omega arith;
  reached = rw c.new-graph.ensures fresh-reached;
  rest = begun c.args.bytes.now c.args.store.now c.new-graph.result c.new-graph.ensures;
}

pub read_record-requires : goal.read_record-requires
read_record-requires c = (good_of c.loop-at.graph c.loop-at.invariant.reached).1

-- the two ways out
out : (all : Reading) (g : Graph) (ended : Result (Unit {0}) Rejected) (s : List Float) → all ≡ reading g ended s → Reached g
    → (◌≡◌ {A = Read} (record { graph = g; ended = ended }) all.answer × (valid g ≡ true)) ×
    ((s ≡ all.store) × (read_told ended ≡ read_told all.answer.ended))
out all g ended s e r = rw e ((refl, (good_of g r).1), (refl, refl))

pub returns-in-Err : goal.returns-in-Err
returns-in-Err c =
    let l = c.loop-at in
    let b = c.args.bytes.now in
    let whole = read_all b c.args.store.now in
    let told = c.read_record.ensures in
    let all = out whole c.read_record.new.g _ c.read_record.new.store
    (off b l.at l.place l.graph l.store whole l.invariant.rest c.loop-at-test.true l.invariant.counted _ _ _ told _ c.in-Err.is)
    (rw told.1 (step-reached l.graph _ l.invariant.reached)) in
    record { value = all.0; store_after = all.1.0; ended_value = all.1.1 }

-- a record was taken, and the reading goes on behind it
turn : (c : goal.In-Ok) → let b = c.args.bytes.now in
    (read_all b c.args.store.now ≡ read_from (length b - (c.loop-at.place + 1)) b c.in-Ok.next (c.loop-at.place + 1) c.read_record.new.g c.read_record.new.store)
    × (c.loop-at.at < c.in-Ok.next) × (c.in-Ok.next ≤ length b)
turn c =
    let l = c.loop-at in
    let b = c.args.bytes.now in
    on b l.at l.place l.graph l.store (read_all b c.args.store.now) l.invariant.rest c.loop-at-test.true l.invariant.counted _ _ _ c.read_record.ensures _ c.in-Ok.is

pub loop-at-smaller : goal.loop-at-smaller
loop-at-smaller c = let w = turn c in omega (arith, w.1, w.2)

pub loop-at-preserved : goal.loop-at-preserved
loop-at-preserved c =
    let w = turn c in record {
      counted = omega (arith, w.1, c.loop-at.invariant.counted);
      within = w.2;
      reached = rw c.read_record.ensures.1 (step-reached c.loop-at.graph _ c.loop-at.invariant.reached);
      rest = w.0;
    }

pub returns : goal.returns
returns c =
    let l = c.loop-at in
    let b = c.args.bytes.now in
    let whole = read_all b c.args.store.now in
    let all = out whole l.graph _ l.store (all_read b l.at l.place l.graph l.store whole l.invariant.rest c.loop-at-test.false) l.invariant.reached in
    record { value = all.0; store_after = all.1.0; ended_value = all.1.1 }
