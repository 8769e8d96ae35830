-- `text::put_decimal`: the last digit follows those before it.
use Rattle.std.proofs.Common.{sym}
use Rattle.text.proofs.Decimals.{one-digit, more_digits}
use Rattle.text.proofs.Putting.{both, same}
use Rattle.text.proofs.+put_decimal.Goals as goal

pub returns-then-x-lt10 : goal.returns-then-x-lt10
returns-then-x-lt10 t c = same (sym (one-digit c.args.x c.if-x-lt10.true)) c.put.ensures

pub returns : goal.returns
returns t c = same (sym (more_digits c.args.x c.if-x-lt10.false)) (both c.put_decimal-last.ensures c.put-2.ensures)
