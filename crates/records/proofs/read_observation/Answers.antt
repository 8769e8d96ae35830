-- `records::read_observation` meets its contract. Assumes nothing.
use Prim.Native.Nat.{ℕ, ◌+◌}
use mathlib.Core.Path.{◌≡◌, sym}
use mathlib.Core.Bool.{true, false}
use mathlib.Core.List.{List, [], ◌∷◌}
use lib.Ieee.{Float}
use lib.ListN.{length, take}
use lib.Seq.{length-take-le}
use Rattle.std.specs.Prelude.{Some}
use Rattle.std.proofs.lemmas.Grind.{common_steps}
use native.Mathlib.Omega.{arith}
use Rattle.factor.proofs.Counting.{tells}
use Rattle.graph.specs.Registration.{counts_fit}
use Rattle.graph.specs.declared.Graph.{Graph}
use Rattle.graph.proofs.Checking.{few-keys}
use Rattle.records.specs.Bytes.{byte_at, cut, keys_read}
use Rattle.records.specs.Records.{header_bytes, meaning, observed, observation_at}
use Rattle.records.specs.declared.kinds.Flag.{Flag}
use Rattle.records.proofs.Listing.{listed-length}
use Rattle.records.proofs.read_observation.Goals as goal

-- a whole header with fitting counts, and its keys
from-keys : (g : Graph) (store : List Float) (bytes : List ℕ) (at count rows : ℕ) (flag : Flag) (keys : List ℕ) → cut bytes at header_bytes ≡ false
    → count ≡ byte_at bytes at → rows ≡ byte_at bytes (at + 1) → Some flag ≡ meaning (byte_at bytes (at + 2)) → counts_fit count rows ≡ true
    → cut bytes (at + header_bytes) count ≡ false → keys ≡ keys_read bytes (at + header_bytes) count
    → observation_at g store bytes at ≡ observed g store bytes keys rows flag (at + header_bytes + count)
unfolding observation_at
from-keys g store bytes at count rows flag keys h ec er ef h4 h8 ek = rw (h, ← ef, ← ec, ← er, h4, h8, ← ek)

-- as many keys as were counted
abbrev zeros : List ℕ
zeros = 0 ∷ 0 ∷ 0 ∷ 0 ∷ []

counted : (bytes : List ℕ) (at count rows : ℕ) (keys : List ℕ) → counts_fit count rows ≡ true → keys ≡ keys_read bytes at (length (take count zeros))
    → (keys ≡ keys_read bytes at count) × (counts_fit (length keys) rows ≡ true)
counted bytes at count rows keys h e =
    let z : length (take count zeros) ≡ count = length-take-le count zeros (few-keys count rows h) in
    let k : keys ≡ keys_read bytes at count = rw z at e in
    (k, rw (k, listed-length (λ i. byte_at bytes (at + i)) count) h)

pub slice_bounds-keys-end : goal.slice_bounds-keys-end
slice_bounds-keys-end c = few-keys _ _ (tells c.counts_fit.ensures c.if-not-counts_fit.false)

pub slice_bounds-keys-end-2 : goal.slice_bounds-keys-end-2
slice_bounds-keys-end-2 c = sym (length-take-le _ zeros (few-keys _ _ (tells c.counts_fit.ensures c.if-not-counts_fit.false)))

pub read_observed-requires-clause-counts : goal.read_observed-requires-clause-counts
read_observed-requires-clause-counts c =
    (counted _ _ _ _ _ (tells c.counts_fit.ensures c.if-not-counts_fit.false) c.keys.ensures).1

pub returns : goal.returns
returns c =
    let b = c.args.r.bytes.now in
    let at = c.args.r.at in
    let on = c.past-r.ensures in
    let fit = tells c.counts_fit.ensures c.if-not-counts_fit.false in
    let whole : cut b at header_bytes ≡ false = grind (arith, common_steps) in
    let count : c.from-count.result ≡ byte_at b at = grind (arith, common_steps) in
    let rows : c.from-rows.result ≡ byte_at b (at + 1) = grind (arith, common_steps) in
    let flag : Some c.in_ok-flag.flag ≡ meaning (byte_at b (at + 2)) = grind (arith, common_steps) in
    rw (from-keys c.args.g.now c.args.store.now b at _ _ _ _ whole count rows flag fit (rw (on.0, on.1) at (tells c.cut.ensures c.if-cut.false))
    (rw (on.0, on.1) at (counted _ _ _ _ _ fit c.keys.ensures).0))
    (rw (c.past.ensures.0, c.past.ensures.1, on.0, on.1) at c.read_observed.ensures)
