-- `graph::Graph::free` meets its contract. The loop's invariant: what the names passed tell. Assumes nothing.
use Prim.Native.Nat.{ℕ, ◌+◌}
use mathlib.Core.Bool.{Bool, not, ◌&&◌}
use mathlib.Core.Path.{◌≡◌, ap, ◌∙◌, sym}
use native.Mathlib.Numerals.{add-one}
use native.Mathlib.Omega.{arith}
use borrow.Author.Rules.{rules}
use lib.ListN.{length, length-take}
use lib.Seq.{get_or-take}
use Rattle.factor.proofs.Counting.{all_none}
use Rattle.factor.specs.Counting.{all}
use Rattle.factor.specs.Limits.{max_variables}
use Rattle.graph.proofs.Filling.{unmapped}
use Rattle.graph.specs.Record.{free, name_at, no_name, same}
use Rattle.graph.proofs.Graph.free.Goals.{then-not-is, else-not-is}
use Rattle.graph.proofs.Graph.free.Goals as goal

-- a turn
passed : (p : ℕ → Bool) (i : ℕ) {b r : Bool} → b ≡ all p i → r ≡ p i → (b && r) ≡ all p (i + 1)
unfolding all
passed p i e h = rw (add-one, e, h)

pub loop-other-init : goal.loop-other-init
loop-other-init c = sym (all_none _)

pub loop-other-preserved : goal.loop-other-preserved
loop-other-preserved c =
    let args = c.args in
    let loop = c.loop-other in
    let here : c.is.result ≡ same (name_at args.self.now loop.other-index) args.name =
    c.is.ensures ∙ ap (λ s. same s args.name) (get_or-take args.n args.self.now.symbols loop.other-index no_name
    (omega (arith, length-take args.n args.self.now.symbols))) in
    let e : c.if-not-is.free ≡ (loop.free && not c.is.result) =
    elim c.if-not-is.branch [ then-not-is w ↦ search rules | else-not-is w ↦ search rules ] in
    e ∙ passed _ loop.other-index loop.invariant (ap not here)

pub returns : goal.returns
unfolding free
returns c =
    let args = c.args in
    let long : length args.self.now.symbols ≡ max_variables = search (rules, unmapped) in
    let e : c.loop-other.other-index ≡ args.n = omega (arith, length-take args.n args.self.now.symbols, c.requires) in
    c.loop-other.invariant ∙ ap (all (λ j. not (same (name_at args.self.now j) args.name))) e
