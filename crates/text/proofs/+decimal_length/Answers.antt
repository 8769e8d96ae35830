-- `text::decimal_length`: 1 below ten, and one more than that of the tenth.
use Rattle.std.proofs.Common.{sym, arith}
use Rattle.text.proofs.Decimals.{one-length, more-length, few_digits}
use Rattle.text.proofs.+decimal_length.Goals as goal

pub returns-then-x-lt10 : goal.returns-then-x-lt10
returns-then-x-lt10 t c = (sym (one-length c.args.x c.if-x-lt10.true), omega arith)

pub returns : goal.returns
returns t c =
    let more = more-length c.args.x c.if-x-lt10.false in
    (omega (arith, more, c.decimal_length.ensures.0), omega (arith, more, c.decimal_length.ensures.0, few_digits 19 c.args.x (omega arith)))
