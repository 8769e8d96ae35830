-- `slots::layout::firsts` meets its contract: the columns are those among the keys passed, begun where the keys still to come end. Assumes nothing.
use Rattle.std.proofs.Common.{◌≡◌, ◌+◌, refl, [], ◌∷◌, ◌++◌, get_or, arith, rules, sym, ◌∙◌, ap, append_assoc}
use Rattle.std.proofs.lemmas.List.{get_or-replicate}
use Rattle.slots.specs.Layouts.{dim_of}
use Rattle.slots.proofs.LayoutTables.{dim_of-push, key-known, firsts-more}
use Rattle.slots.proofs.layout.firsts.Goals as goal

pub loop-key-init : goal.loop-key-init
loop-key-init c = (
  tt,
  tt,
  record {
    passed = [];
    list = search rules;
    column = search rules;
    low = omega (arith, c.dim_of-column.ensures, c.requires.total);
    long = refl;
    placed = λ key h. omega (arith, get_or-replicate 32 key c.dim_of-column.result 0 h);
  },
)

pub overflow_sub-column : goal.overflow_sub-column
overflow_sub-column c =
    let rest : c.loop-key.key-iterator.iter.rest.now ≡ c.next.new.self.iter.rest.now ++ (c.in-Some.field-0.now ∷ []) = c.in-Some.ensures.steps in
    omega (arith, ap (dim_of c.args.sizes) rest, dim_of-push c.args.sizes c.next.new.self.iter.rest.now c.in-Some.field-0.now)

pub loop-key-preserved : goal.loop-key-preserved
loop-key-preserved c =
    let loop = c.loop-key in
    let sizes = c.args.sizes in
    let kept = loop.invariant.2 in
    let x = c.in-Some.field-0.now in
    let rest = c.next.new.self.iter.rest.now in
    let e : loop.key-iterator.iter.rest.now ≡ rest ++ (x ∷ []) = c.in-Some.ensures.steps in
    let d : dim_of sizes loop.key-iterator.iter.rest.now ≡ dim_of sizes rest + get_or sizes x 0 = ap (dim_of sizes) e ∙ dim_of-push sizes rest x in
    let whole : rest ++ (x ∷ kept.passed) ≡ c.args.list.now = sym (append_assoc rest (x ∷ []) kept.passed) ∙ ap (λ l. l ++ kept.passed) (sym e) ∙ kept.list in (
      tt,
      tt,
      record {
        passed = x ∷ kept.passed;
        list = whole;
        column = omega (arith, kept.column);
        low = omega (arith, kept.low);
        long = search rules;
        placed = firsts-more sizes loop.r kept.passed x _ loop.column kept.long (key-known rest kept.passed c.args.list.now x whole c.requires.known) (omega (arith, kept.column)) kept.placed;
      },
    )
