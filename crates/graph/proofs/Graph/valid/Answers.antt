-- `graph::Graph::valid` meets its contract: the test is the definition's, and that it is exact is `proofs/Exactness.antt`. Assumes nothing.
use Prim.Native.Nat.{◌<◌, ℕ}
use mathlib.Core.Bool.{Bool, false, true, false≢true}
use mathlib.Core.Logic.{◌↔◌}
use mathlib.Core.Path.{◌∙◌, ◌≡◌, sym}
use borrow.Author.Rules.{rules}
use lib.Dec.{eqb}
use lib.ListN.{length}
use Rattle.factor.specs.Counting.{every}
use Rattle.factor.specs.Limits.{max_factors, max_keys}
use Rattle.graph.proofs.Exactness.{exact}
use Rattle.graph.proofs.Filling.{unmapped}
use Rattle.graph.proofs.Keeping.{Shaped, good_of}
use Rattle.graph.specs.Reached.{Reached}
use Rattle.graph.specs.Record.{factor_at, last_live, valid}
use Rattle.graph.specs.declared.Graph.{Graph}
use Rattle.graph.proofs.Graph.valid.Goals.{then-total-le-TOTAL, else-total-le-TOTAL}
use Rattle.graph.proofs.Graph.valid.Goals as goal

-- a test that fails, and one whose answer is taken where the shape is known
not-reached : (g : Graph) (r : Bool) → r ≡ false → r ≡ valid g → (r ≡ valid g) × ((r ≡ true) ↔ Reached g)
not-reached g r f e = (e, (λ x. absurd (false≢true (sym f ∙ x)), λ h. e ∙ (good_of g h).1))

decided : (g : Graph) (r : Bool) → r ≡ valid g → Shaped g → (r ≡ valid g) × ((r ≡ true) ↔ Reached g)
decided g r e sh = (e, (λ t. (exact g sh).0 (sym e ∙ t), λ h. e ∙ (good_of g h).1))

pub returns-then-self-eq0 : goal.returns-then-self-eq0
unfolding valid last_live every
returns-then-self-eq0 c =
    let e : eqb c.args.self.count 0 ≡ valid c.args.self = search rules in
    let keys : (i : ℕ) → i < max_factors → length (factor_at c.args.self i).keys ≡ max_keys =
    elim c.if-total-le-TOTAL.branch [
      | then-total-le-TOTAL w ↦ w.factors_fit.ensures.i_len (sym w.value-is ∙ c.if-factors_fit.true)
      | else-total-le-TOTAL w ↦ let z : false ≡ true = cc in absurd (false≢true z)
    ] in
    decided c.args.self _ e (record { symbols = search (rules, unmapped); sizes = search rules; factors = search (rules, unmapped); keys = keys })

pub returns-else-self-eq0 : goal.returns-else-self-eq0
unfolding valid last_live every
returns-else-self-eq0 c =
    let e : c.is_live.result ≡ valid c.args.self = search rules in
    let keys : (i : ℕ) → i < max_factors → length (factor_at c.args.self i).keys ≡ max_keys =
    elim c.if-total-le-TOTAL.branch [
      | then-total-le-TOTAL w ↦ w.factors_fit.ensures.i_len (sym w.value-is ∙ c.if-factors_fit.true)
      | else-total-le-TOTAL w ↦ let z : false ≡ true = cc in absurd (false≢true z)
    ] in
    decided c.args.self _ e (record { symbols = search (rules, unmapped); sizes = search rules; factors = search (rules, unmapped); keys = keys })

pub returns-else-factors_fit : goal.returns-else-factors_fit
unfolding valid last_live every
returns-else-factors_fit c =
    let e : c.if-total-le-TOTAL.value ≡ valid c.args.self = search rules in
    not-reached c.args.self _ c.if-factors_fit.false e
