-- A number is one digit, or the digits of its tenth and one more. Assumes nothing.
use Rattle.std.proofs.Common.{arith}
use Rattle.cells.proofs.Decimal.{one_digit, decimal_more}
use Rattle.cells.proofs.Laid.{◌&◌}
use Rattle.cells.proofs.Text.+number.Goals as goal

pub returns-then-number-lt10 : goal.returns-then-number-lt10
returns-then-number-lt10 g t c = rw (one_digit 9 _ c.if-number-lt10.true) c.digit.ensures

pub returns : goal.returns
returns g t c = rw (decimal_more c.args.number (omega arith) c.if-number-lt10.false) (c.number.ensures & c.digit-2.ensures)
