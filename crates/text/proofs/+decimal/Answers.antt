-- A digit, or the digits of a tenth and one more.
use Rattle.std.proofs.Common.{◌<◌, arith}
use Rattle.text.proofs.Digits.{writes_digit, writes_digits}
use Rattle.text.proofs.+decimal.Goals as goal

pub returns-then-x-lt10 : goal.returns-then-x-lt10
returns-then-x-lt10 t c = search writes_digit

pub returns : goal.returns
returns t c = let few : c.args.x < 18446744073709551615 = omega arith in search writes_digits
