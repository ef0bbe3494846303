-- A number has a digit, and one more than its tenth has.
use Rattle.std.proofs.Common.{rules, arith}
use Rattle.respelling.proofs.Digits.{some_digits, more_digits, put_one, put_more}
use Rattle.respelling.proofs.unchecked.decimal.+put_decimal.Goals as goal

pub bounds-out-at : goal.bounds-out-at
bounds-out-at t c = omega (arith, some_digits c.args.n)

pub returns-then-n-lt10 : goal.returns-then-n-lt10
returns-then-n-lt10 t c = search (put_one, rules)

pub put_decimal-k-requires : goal.put_decimal-k-requires
put_decimal-k-requires t c = omega (arith, more_digits c.args.n (omega arith))

pub bounds-out-k : goal.bounds-out-k
bounds-out-k t c = omega (arith, more_digits c.args.n (omega arith))

pub returns : goal.returns
returns t c = search (put_more, rules)
